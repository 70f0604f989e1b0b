use Rattle.std.proofs.Common.{◌≡◌, ◌+◌, ◌++◌, ◌≤◌, length, drop, take}
use Rattle.sk_batch.specs.Along.{along, along_first}
use Rattle.sk_batch.specs.Places.{Climb, first_place}
use Rattle.sk_batch.specs.States.{with_change}
use Rattle.sk_batch.proofs.ancestors.change_ancestors.Given as goal

abbrev pub invariant-loop-place : goal.invariant-loop-place
invariant-loop-place l = record {
  climb : Climb (drop l.place-index l.places) l.batches.list.current;
  changed : (let at = first_place (drop l.place-index l.places) l.batches.list.current in take at l.batches.list.current ++ along_first (with_change l.change l.bid) (drop at l.batches.list.current)) ≡ along (with_change l.change l.bid) l.initial.batches.list.current l.bid;
  saved : l.batches.list.saved ≡ l.initial.batches.list.saved;
  room : length l.places ≤ l.batches.room + l.place-index;
}
