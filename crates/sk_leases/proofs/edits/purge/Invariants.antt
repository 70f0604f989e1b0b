use Rattle.std.proofs.Common.{◌≡◌, None, true}
use Rattle.std.specs.BTreeSet.{btree_set_len}
use Rattle.sk_leases.specs.Index.{covers}
use Rattle.sk_leases.specs.Lists.{standing}
use Rattle.sk_leases.proofs.edits.purge.Given as goal

abbrev pub invariant-loop-name : goal.invariant-loop-name
invariant-loop-name l = record {
  closed : l.entries.list.saved ≡ None;
  standing : standing l.now l.entries.list.current ≡ standing l.now l.initial.entries.list.current;
  covered : covers l.expiries l.entries.list.current ≡ true;
}

abbrev pub decreases-loop-name : goal.decreases-loop-name
decreases-loop-name l = btree_set_len l.expiries
