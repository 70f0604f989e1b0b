use Rattle.std.proofs.Common.{refl, ◌∙◌}
use Rattle.sk_app.specs.LogServing.{opened}
use Rattle.sk_app.proofs.LogServeRuns.{no_file, no_line}
use Rattle.sk_app.proofs.log_serve.outcome_by.Goals as goal

pub returns-in_err-line-clause-ran : goal.returns-in_err-line-clause-ran
returns-in_err-line-clause-ran g c = no_line _ _ _ _ c.in_err-line.field-0.0 c.from_residual.result c.from_residual.ensures.1 c.in_err-line.ensures (refl, refl)

pub returns-in_err-disk-clause-ran : goal.returns-in_err-disk-clause-ran
returns-in_err-disk-clause-ran g c = no_file _ _ _ _ c.in_ok-line.line c.from_residual-in_err-disk.result c.from_residual-in_err-disk.ensures.1 c.in_ok-line.ensures
    (refl, c.in_err-disk.ensures.err, c.in_err-disk.ensures.cause.failed)

pub returns-clause-ran : goal.returns-clause-ran
returns-clause-ran g c = opened c.in_ok-line.line c.serve_over-outcome.result.0 c.in_ok-line.ensures (record {
  disk = c.in_ok-disk.disk;
  back = c.serve_over-outcome.result.1;
  lends = record { without = c.open.new.self; given = c.in_ok-disk.ensures.given; left = c.leave.ensures.left; whole = c.leave.ensures.whole ∙ c.in_ok-disk.ensures.cause.whole };
  over = c.serve_over-outcome.ensures.told;
})
