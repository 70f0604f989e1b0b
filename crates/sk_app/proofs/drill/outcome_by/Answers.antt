use Rattle.std.proofs.Common.{refl}
use Rattle.sk_app.specs.Drilling.{drilled}
use Rattle.sk_app.proofs.DrillRuns.{no_line}
use Rattle.sk_app.proofs.drill.outcome_by.Goals as goal

pub returns-in_err-line-clause-told : goal.returns-in_err-line-clause-told
returns-in_err-line-clause-told g c =
    no_line _ _ _ _ _ c.len.ensures c.in_err-line.field-0.0 c.from_residual.result c.from_residual.ensures.1 c.in_err-line.ensures refl

pub returns-clause-told : goal.returns-clause-told
returns-clause-told g c = drilled c.in_ok-line.line c.drill-end.result c.outcome_at.result (rw c.len.ensures at c.in_ok-line.ensures) (rw c.from.ensures at c.drill-end.ensures.told) c.outcome_at.ensures.told
