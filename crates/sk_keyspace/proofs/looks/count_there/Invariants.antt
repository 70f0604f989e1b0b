use Rattle.std.proofs.Common.{◌≡◌, ◌+◌, ◌≤◌, vec_len}
use Rattle.std.specs.Vec.Iter.{into_iter_items, into_iter_len}
use Rattle.sk_model.specs.Held.{held}
use Rattle.sk_value.specs.Keys.{how_many}
use Rattle.sk_store.specs.Stored.{world}
use Rattle.sk_keyspace.proofs.looks.count_there.Given as goal

-- those counted, and those that are left
abbrev pub invariant-loop-name : goal.invariant-loop-name
invariant-loop-name l = record {
  counts : l.count + how_many (held (world l.store)) (into_iter_items l.name-iterator) ≡ how_many (held (world l.store)) l.fn.names.items;
  small : l.count + into_iter_len l.name-iterator ≤ vec_len l.fn.names;
}
