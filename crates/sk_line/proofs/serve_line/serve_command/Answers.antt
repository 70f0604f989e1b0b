use Rattle.sk_line.proofs.serve_line.serve_command.Goals as goal

pub returns : goal.returns
returns c = c.with_default.ensures _ (c.with_default-options-2.ensures _ (c.with_default-options.ensures _ c.new.ensures.app))
