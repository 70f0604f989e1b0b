use Rattle.sk_line.proofs.push_line.push_command.Goals as goal

pub returns : goal.returns
returns c = c.positional.ensures _ (c.positional-options.ensures _ (c.optional-options-3.ensures _ (c.optional-options-2.ensures _ (c.optional-options.ensures _ (c.with_default-options-2.ensures _ (c.with_default-options.ensures _ (c.addressed-options.ensures _ c.new.ensures.app)))))))
