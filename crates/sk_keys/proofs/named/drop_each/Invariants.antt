use Rattle.std.proofs.Common.{◌≡◌, drop}
use Rattle.sk_keys.specs.Index.{IsIndexed}
use Rattle.sk_keys.specs.Past.{all_dropped}
use Rattle.sk_keys.proofs.named.drop_each.Given as goal

abbrev pub invariant-loop-name : goal.invariant-loop-name
invariant-loop-name l = record {
  rest : all_dropped l.over (drop l.name-index l.list) l.table.entries ≡ all_dropped l.over l.list l.initial.table.entries;
  indexed : IsIndexed l.table.entries l.table.expiries;
}
