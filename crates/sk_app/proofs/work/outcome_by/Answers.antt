use Rattle.std.proofs.Common.{refl}
use Rattle.sk_app.specs.Working.{worked}
use Rattle.sk_app.proofs.WorkRuns.{named, no_line}
use Rattle.sk_app.proofs.work.outcome_by.Goals as goal

pub returns-in_err-settings-clause-told : goal.returns-in_err-settings-clause-told
returns-in_err-settings-clause-told g c =
    no_line _ _ _ _ _ c.len.ensures c.in_err-settings.field-0.0 c.from_residual.result c.from_residual.ensures.1 c.in_err-settings.ensures (refl, refl)

pub launch-requires-clause-loops : goal.launch-requires-clause-loops
launch-requires-clause-loops g c κs within = named _ _ c.in_ok-settings.ensures.values.loops

pub returns-clause-told : goal.returns-clause-told
returns-clause-told g c = worked c.in_ok-settings.settings c.launch.result c.outcome_at.result (rw c.len.ensures at c.in_ok-settings.ensures) (_, _, c.launch.ensures.told) c.outcome_at.ensures.told
