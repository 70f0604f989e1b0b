use Rattle.std.proofs.Common.{◌≡◌, ◌≤◌, ◌+◌, true}
use Rattle.std.specs.List.{count_by}
use Rattle.sk_leases.specs.Index.{covers}
use Rattle.sk_leases.specs.Lease.{names}
use Rattle.sk_leases.specs.Lists.{without}
use Rattle.sk_leases.proofs.edits.drop_named.Given as goal

abbrev pub invariant-loop-left : goal.invariant-loop-left
invariant-loop-left l = record {
  rest : without l.name l.entries.list.current ≡ without l.name l.initial.entries.list.current;
  saved : l.entries.list.saved ≡ l.initial.entries.list.saved;
  left : count_by (names l.name) l.entries.list.current ≡ l.left;
  fits : l.left ≤ l.entries.room;
  room : l.initial.entries.room + l.left ≤ l.entries.room + count_by (names l.name) l.initial.entries.list.current;
  covered : covers l.expiries l.entries.list.current ≡ true;
}

abbrev pub decreases-loop-left : goal.decreases-loop-left
decreases-loop-left l = l.left
