use Rattle.std.proofs.Common.{◌≡◌, ◌+◌, ◌≤◌}
use Rattle.std.specs.VecDeque.{deque_capacity, deque_len}
use Rattle.std.specs.Vec.Iter.{into_iter_items, into_iter_len}
use Rattle.sk_value.specs.Lists.{push_all}
use Rattle.sk_value.proofs.items.push_reserved.Given as goal

-- whatever is left to push comes on top of what was pushed, and there is room for it
abbrev pub invariant-loop-text : goal.invariant-loop-text
invariant-loop-text l = record {
  pushed : push_all l.side (into_iter_items l.text-iterator) l.list.items ≡ push_all l.side l.fn.texts.items l.initial.list.items;
  room : deque_len l.list + into_iter_len l.text-iterator ≤ deque_capacity l.list;
}
