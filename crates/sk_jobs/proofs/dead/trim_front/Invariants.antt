use Rattle.std.proofs.Common.{◌≡◌, ◌≤◌, ◌++◌, [], length, take}
use Rattle.sk_model.specs.Change.{perform}
use Rattle.sk_store.specs.Stored.{InStep, world}
use Rattle.sk_jobs.specs.Routing.{Takes, dead_rows, texts_of, trims}
use Rattle.sk_jobs.proofs.dead.trim_front.Given as goal

abbrev pub decreases-loop-left : goal.decreases-loop-left
decreases-loop-left l = l.left

-- those that are left to go come behind those that went
abbrev pub invariant-loop-left : goal.invariant-loop-left
invariant-loop-left l = record {
  texts : l.gone.items ++ texts_of (take l.left (dead_rows (world l.store))) ≡ texts_of (take l.count (dead_rows (world l.initial.store)));
  trimmed : perform (world l.store) (trims (take l.left (dead_rows (world l.store)))) ≡ perform (world l.initial.store) (trims (take l.count (dead_rows (world l.initial.store))));
  enough : l.left ≤ length (dead_rows (world l.store));
  aside : Takes [] l.initial.store l.store;
  step : InStep l.initial.store l.store;
}
