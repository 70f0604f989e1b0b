use Rattle.std.proofs.Common.{◌≡◌, ◌≤◌, ◌+◌, ◌++◌, Some, map, true, vec_capacity, vec_len}
use Rattle.std.specs.Vec.Iter.{into_iter_items, into_iter_len}
use Rattle.sk_drill.proofs.crew.dismiss.Given as goal

abbrev pub invariant-loop-worker : goal.invariant-loop-worker
invariant-loop-worker g l = record {
  back : l.back.items ++ map (λ w. w.registry) (into_iter_items l.worker-iterator) ≡ l.fn.back.items ++ map (λ w. w.registry) l.fn.staff.items;
  lanes : l.whole ≡ true → map (λ w. w.stories) l.fn.staff.items ≡ map Some l.lanes.items ++ map (λ w. w.stories) (into_iter_items l.worker-iterator);
  room : vec_len l.back + into_iter_len l.worker-iterator ≤ vec_capacity l.back;
  lanes_room : vec_len l.lanes + into_iter_len l.worker-iterator ≤ vec_capacity l.lanes;
  capacity : vec_capacity l.back ≡ vec_capacity l.fn.back;
}
