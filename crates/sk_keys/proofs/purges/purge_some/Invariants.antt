use Rattle.std.proofs.Common.{◌≡◌, ◌+◌}
use Rattle.std.specs.BTreeSet.{btree_set_len}
use Rattle.sk_value.specs.Keys.{purged}
use Rattle.sk_keys.specs.Index.{IsIndexed}
use Rattle.sk_keys.proofs.purges.purge_some.Given as goal

abbrev pub invariant-loop-gone : goal.invariant-loop-gone
invariant-loop-gone l = (purged l.over l.table.entries ≡ purged l.over l.initial.table.entries) × IsIndexed l.table.entries l.table.expiries × (btree_set_len l.table.expiries + l._gone ≡ btree_set_len l.initial.table.expiries)
