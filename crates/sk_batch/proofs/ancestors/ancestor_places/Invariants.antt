use Rattle.std.proofs.Common.{◌≡◌, ◌≤◌, ◌-◌, ◌++◌, ℕ, List, length}
use Rattle.sk_batch.specs.Places.{AreAncestors, Climb, first_place}
use Rattle.sk_batch.proofs.ancestors.ancestor_places.Given as goal

abbrev pub invariant-outwards : goal.invariant-outwards
invariant-outwards l = record {
  within : l.at ≤ length l.batches.list.current;
  found : (rest : List ℕ) → first_place rest l.batches.list.current ≡ l.at → Climb rest l.batches.list.current → AreAncestors l.bid (l.places.items ++ rest) l.batches.list.current;
}

abbrev pub decreases-outwards : goal.decreases-outwards
decreases-outwards l = length l.batches.list.current - l.at
