use Rattle.std.proofs.Common.{◌≡◌, ◌+◌, ◌≤◌, length, vec_len}
use Rattle.std.specs.Vec.{vec_capacity}
use Rattle.std.specs.Vec.Iter.{into_iter_items, into_iter_len}
use Rattle.sk_value.specs.Maps.{with_pairs, all_put_back}
use Rattle.sk_value.proofs.maps.insert_noted.Given as goal

abbrev pub invariant-loop-text : goal.invariant-loop-text
invariant-loop-text g l = record {
  put : with_pairs (into_iter_items l.text-iterator) l.map.entries ≡ with_pairs l.fn.pairs.items l.initial.map.entries;
  back : all_put_back l.writes.items l.map.entries ≡ all_put_back l.initial.writes.items l.initial.map.entries;
  more : length l.initial.map.entries ≤ length l.map.entries;
  room : vec_len l.writes + into_iter_len l.text-iterator ≤ vec_capacity l.writes;
}
