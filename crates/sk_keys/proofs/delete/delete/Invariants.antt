use Rattle.std.proofs.Common.{◌≡◌, ◌+◌, ◌≤◌, drop, length}
use Rattle.sk_value.specs.Keys.{without_all}
use Rattle.sk_keys.specs.Index.{IsIndexed}
use Rattle.sk_keys.proofs.delete.delete.Given as goal

abbrev pub invariant-loop-name : goal.invariant-loop-name
invariant-loop-name l = record {
  rest : without_all (drop l.name-index l.list) l.table.entries ≡ without_all l.list l.initial.table.entries;
  count : l.count + length l.table.entries ≡ length l.initial.table.entries;
  few : l.count ≤ l.name-index;
  indexed : IsIndexed l.table.entries l.table.expiries;
}
