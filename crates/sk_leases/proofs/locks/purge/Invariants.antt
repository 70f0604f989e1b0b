use Rattle.std.proofs.Common.{◌≡◌, None, true}
use Rattle.std.specs.BTreeSet.{btree_set_len}
use Rattle.sk_leases.specs.LockIndex.{covers_locks}
use Rattle.sk_leases.specs.Locks.{locks_at}
use Rattle.sk_leases.proofs.locks.purge.Given as goal

abbrev pub invariant-loop-digest : goal.invariant-loop-digest
invariant-loop-digest l = record {
  closed : l.held.list.saved ≡ None;
  standing : locks_at l.now l.held.list.current ≡ locks_at l.now l.initial.held.list.current;
  covered : covers_locks l.expiries l.held.list.current ≡ true;
}

abbrev pub decreases-loop-digest : goal.decreases-loop-digest
decreases-loop-digest l = btree_set_len l.expiries
