use Rattle.sk_line.proofs.limit_line.limit_command.Goals as goal

pub returns : goal.returns
returns c = c.positional.ensures _ (c.positional-options-3.ensures _ (c.positional-options-2.ensures _ (c.positional-options.ensures _ (c.addressed-options.ensures _ c.new.ensures.app))))
