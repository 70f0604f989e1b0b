use Rattle.std.proofs.Common.{refl}
use Rattle.sk_app.specs.Logging.{opened}
use Rattle.sk_app.proofs.LogRuns.{no_line}
use Rattle.sk_app.proofs.log_pipe.outcome_by.Goals as goal

pub returns-in_err-line-clause-told : goal.returns-in_err-line-clause-told
returns-in_err-line-clause-told g c = no_line _ _ _ c.in_err-line.field-0.0 c.from_residual.result c.from_residual.ensures.1 c.in_err-line.ensures (refl, refl, refl)

pub returns-clause-told : goal.returns-clause-told
returns-clause-told g c = opened c.in_ok-line.line c.pipe_over.result c.in_ok-line.ensures c.pipe_over.ensures.told
