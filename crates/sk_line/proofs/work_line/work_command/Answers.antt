use Rattle.sk_line.proofs.work_line.work_command.Goals as goal

pub returns : goal.returns
returns c = c.positionals.ensures _ (c.with_default-options-7.ensures _ (c.with_default-options-6.ensures _ (c.with_default-options-5.ensures _ (c.with_default-options-4.ensures _ (c.with_default-options-3.ensures _ (c.flag-options.ensures _ (c.with_default-options-2.ensures _ (c.with_default-options.ensures _ (c.addressed-options.ensures _ c.new.ensures.app)))))))))
