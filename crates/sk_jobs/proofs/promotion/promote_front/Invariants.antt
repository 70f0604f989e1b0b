use Rattle.std.proofs.Common.{◌≡◌, ◌≤◌, ◌+◌, length, take}
use Rattle.sk_model.specs.Jobs.{promote}
use Rattle.sk_store.specs.Stored.{InStep, world}
use Rattle.sk_jobs.specs.Callbacks.{AreCovered}
use Rattle.sk_jobs.specs.Routing.{set_rows}
use Rattle.sk_jobs.proofs.Routing.{IsLeft}
use Rattle.sk_jobs.proofs.promotion.promote_front.Given as goal

abbrev pub decreases-loop-left : goal.decreases-loop-left
decreases-loop-left l = l.left

abbrev pub invariant-loop-left : goal.invariant-loop-left
invariant-loop-left l = record {
  sent : IsLeft promote (world l.initial.store) (world l.store) l.report (take l.count (set_rows l.set (world l.initial.store))) (take l.left (set_rows l.set (world l.store)));
  enough : l.left ≤ length (set_rows l.set (world l.store));
  number : l.report.moved + l.report.buried + l.left ≡ l.count;
  covered : AreCovered l.store;
  step : InStep l.initial.store l.store;
}
