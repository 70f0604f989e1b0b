use Rattle.std.proofs.Common.{◌≡◌, ◌≤◌, ◌++◌, drop, take}
use Rattle.std.specs.VecDeque.{deque_capacity, deque_len}
use Rattle.sk_value.specs.Lists.{read_from, without_first}
use Rattle.sk_value.proofs.items.remove_first.Given as goal

abbrev pub decreases-loop-rest : goal.decreases-loop-rest
decreases-loop-rest l = l.rest

-- those behind the rest have come back already
abbrev pub invariant-loop-rest : goal.invariant-loop-rest
invariant-loop-rest l = record {
  turned : drop l.rest (read_from l.side l.list.items) ++ without_first l.most l.text (take l.rest (read_from l.side l.list.items))
      ≡ without_first l.fn.most l.text (read_from l.side l.initial.list.items);
  within : l.rest ≤ deque_len l.list;
  fewer : deque_len l.list ≤ deque_len l.initial.list;
  room : deque_len l.list ≤ deque_capacity l.list;
}
