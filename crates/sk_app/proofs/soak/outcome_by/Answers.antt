use Rattle.sk_app.specs.Soaking.{ran}
use Rattle.sk_app.proofs.SoakRuns.{no_line}
use Rattle.sk_app.proofs.soak.outcome_by.Goals as goal

pub returns-in_err-line : goal.returns-in_err-line
returns-in_err-line c = no_line _ c.in_err-line.field-0.0 c.from_residual.result c.from_residual.ensures.1 c.in_err-line.ensures

pub returns : goal.returns
returns c = ran c.in_ok-line.line c.summary.result c.in_ok-line.ensures c.summary.ensures.told

pub summary-requires : goal.summary-requires
summary-requires c = c.in_ok-line.ensures.values.jobs.2.most_is
