use Rattle.std.proofs.Common.{arith, refl}
use Rattle.sk_app.specs.Serving.{served}
use Rattle.sk_app.proofs.ServeRuns.{no_line}
use Rattle.sk_app.proofs.serve.outcome_by.Goals as goal

pub returns-in_err-line-clause-told : goal.returns-in_err-line-clause-told
returns-in_err-line-clause-told g c = no_line _ _ _ c.in_err-line.field-0.0 c.from_residual.result c.from_residual.ensures.1 c.in_err-line.ensures refl

pub returns-clause-told : goal.returns-clause-told
returns-clause-told g c = served c.in_ok-line.line c.serve_by.result c.in_ok-line.ensures c.serve_by.ensures.told

pub serve_by-requires-clause-loops : goal.serve_by-requires-clause-loops
serve_by-requires-clause-loops g c = λ κs within. let loops = c.in_ok-line.ensures.values.loops in (omega (arith, loops.2.least_is), loops.2.most_is)
