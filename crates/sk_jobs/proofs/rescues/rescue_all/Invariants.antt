use Rattle.std.proofs.Common.{◌+◌, ◌-◌, length}
use Rattle.sk_model.specs.Rescue.{left_rows, rescue_row}
use Rattle.sk_store.specs.Stored.{InStep, world}
use Rattle.sk_jobs.specs.Callbacks.{AreCovered}
use Rattle.sk_jobs.specs.Rescuing.{IsPassed}
use Rattle.sk_jobs.proofs.Routing.{IsLeft}
use Rattle.sk_jobs.proofs.rescues.rescue_all.Given as goal

-- so many rows at most are still to be sent
abbrev pub decreases-loop-after : goal.decreases-loop-after
decreases-loop-after l = length (world l.initial.store).rows - (l.report.moved + l.report.buried)

abbrev pub invariant-loop-after : goal.invariant-loop-after
invariant-loop-after l = record {
  sent : IsLeft rescue_row (world l.initial.store) (world l.store) l.report (left_rows (world l.initial.store)) (left_rows (world l.store));
  passed : IsPassed l.after (world l.store);
  covered : AreCovered l.store;
  step : InStep l.initial.store l.store;
}
