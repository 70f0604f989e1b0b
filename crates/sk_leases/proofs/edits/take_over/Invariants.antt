use Rattle.std.proofs.Common.{◌≡◌, true, None, length}
use Rattle.std.specs.BTreeSet.{BTreeSet}
use Rattle.sk_leases.specs.Index.{Expiry, covers}
use Rattle.sk_leases.specs.Lists.{standing}
use Rattle.sk_leases.proofs.edits.take_over.Given as goal

abbrev pub invariant-loop-over : goal.invariant-loop-over
invariant-loop-over l = record {
  closed : l.entries.list.saved ≡ None;
  standing : standing l.now l.entries.list.current ≡ standing l.now l.initial.entries.list.current;
  covered : (expiries : BTreeSet Expiry) → covers expiries l.initial.entries.list.current ≡ true → covers expiries l.entries.list.current ≡ true;
}

abbrev pub decreases-loop-over : goal.decreases-loop-over
decreases-loop-over l = length l.entries.list.current
