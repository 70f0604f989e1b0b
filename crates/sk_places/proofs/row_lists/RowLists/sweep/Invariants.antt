use Rattle.std.proofs.Common.{◌≡◌}
use Rattle.sk_places.specs.RowLists.{AreLists, rows_in}
use Rattle.sk_places.proofs.row_lists.RowLists.sweep.Given as goal

abbrev pub invariant-loop : goal.invariant-loop
invariant-loop l = AreLists l.self × (rows_in l.self ≡ rows_in l.fn.self)
