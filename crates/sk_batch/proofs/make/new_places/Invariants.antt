use Rattle.std.proofs.Common.{◌≡◌, ◌++◌, ◌∷◌, drop}
use Rattle.sk_batch.specs.Places.{Climb}
use Rattle.sk_batch.proofs.Climbs.{shifted}
use Rattle.sk_batch.proofs.make.new_places.Given as goal

abbrev pub invariant-loop-place : goal.invariant-loop-place
invariant-loop-place l = record {
  climb : Climb (drop l.place-index l.place-items) l.batches.list.current;
  shifted : l.places.items ++ shifted (drop l.place-index l.place-items) ≡ 0 ∷ shifted l.place-items;
}
