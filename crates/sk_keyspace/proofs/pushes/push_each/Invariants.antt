use Rattle.std.proofs.Common.{◌≡◌, length}
use Rattle.std.specs.Vec.Iter.{into_iter_items}
use Rattle.sk_places.specs.declared.row.Place.TheVariants.{Queue}
use Rattle.sk_model.specs.Change.{perform}
use Rattle.sk_model.specs.Room.{HasRoom}
use Rattle.sk_model.specs.Queues.{pushes}
use Rattle.sk_store.specs.Stored.{InStep, world}
use Rattle.sk_keyspace.proofs.pushes.push_each.Given as goal

-- whatever is left to push comes on top of what was pushed
abbrev pub invariant-loop-payload : goal.invariant-loop-payload
invariant-loop-payload l = record {
  pushed : perform (world l.store) (pushes l.end (Queue l.queue) (into_iter_items l.payload-iterator)) ≡ perform (world l.initial.store) (pushes l.end (Queue l.queue) l.fn.payloads.items);
  room : HasRoom (length (into_iter_items l.payload-iterator)) (world l.store).tally;
  step : InStep l.initial.store l.store;
}
