use Rattle.std.proofs.Common.{◌≡◌, length}
use Rattle.std.specs.Vec.Iter.{into_iter_items}
use Rattle.sk_model.specs.Change.{perform}
use Rattle.sk_model.specs.Room.{HasRoom}
use Rattle.sk_model.specs.Sets.{add_each}
use Rattle.sk_store.specs.Stored.{InStep, world}
use Rattle.sk_keyspace.proofs.sets.add_each.Given as goal

-- those that are left come on top of those that were added
abbrev pub invariant-loop-score : goal.invariant-loop-score
invariant-loop-score l = record {
  added : perform (world l.store) (add_each (world l.store) l.set (into_iter_items l.score-iterator)) ≡ perform (world l.initial.store) (add_each (world l.initial.store) l.set l.fn.pairs.items);
  room : HasRoom (length (into_iter_items l.score-iterator)) (world l.store).tally;
  step : InStep l.initial.store l.store;
}
