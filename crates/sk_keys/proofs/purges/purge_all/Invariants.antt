use Rattle.std.proofs.Common.{◌≡◌}
use Rattle.std.specs.BTreeSet.{btree_set_len}
use Rattle.sk_value.specs.Keys.{purged}
use Rattle.sk_keys.specs.Index.{IsIndexed}
use Rattle.sk_keys.proofs.purges.purge_all.Given as goal

abbrev pub invariant-loop : goal.invariant-loop
invariant-loop l = (purged l.over l.table.entries ≡ purged l.over l.initial.table.entries) × IsIndexed l.table.entries l.table.expiries

abbrev pub decreases-loop : goal.decreases-loop
decreases-loop l = btree_set_len l.table.expiries
