use Rattle.sk_line.proofs.soak_line.soak_command.Goals as goal

pub returns : goal.returns
returns c = c.positional.ensures _ (c.positional-options.ensures _ c.new.ensures.app)
