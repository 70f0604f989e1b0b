use Rattle.std.proofs.Common.{◌≡◌, length}
use Rattle.std.specs.Vec.Iter.{into_iter_items}
use Rattle.sk_model.specs.Batches.{push_jobs}
use Rattle.sk_model.specs.Change.{perform}
use Rattle.sk_model.specs.Room.{HasRoom}
use Rattle.sk_store.specs.Stored.{InStep, world}
use Rattle.sk_jobs.proofs.batches.push_jobs.Given as goal

-- pushing those that are left leads to what pushing all does
abbrev pub invariant-loop-payload : goal.invariant-loop-payload
invariant-loop-payload l = record {
  pushed : perform (world l.store) (push_jobs (into_iter_items l.payload-iterator)) ≡ perform (world l.initial.store) (push_jobs l.fn.payloads.items);
  room : HasRoom (length (into_iter_items l.payload-iterator)) (world l.store).tally;
  step : InStep l.initial.store l.store;
}
