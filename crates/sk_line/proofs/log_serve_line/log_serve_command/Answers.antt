use Rattle.sk_line.proofs.log_serve_line.log_serve_command.Goals as goal

pub returns : goal.returns
returns c = c.with_default.ensures _ (c.optional-options.ensures _ c.serve_command.ensures)
