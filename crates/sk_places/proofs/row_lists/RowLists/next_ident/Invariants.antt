use Rattle.std.proofs.Common.{◌≡◌, ◌-◌, ◌≤◌, option_map}
use Rattle.sk_places.specs.RowLists.{ident_from, rows_in}
use Rattle.sk_places.specs.Rows.{next_ident}
use Rattle.sk_places.proofs.row_lists.RowLists.next_ident.Given as goal

abbrev pub invariant-loop-at : goal.invariant-loop-at
invariant-loop-at l = record {
  within : l.at ≤ l.len;
  rest : ident_from (option_map (λ word. word.now) l.after) l.at l.self ≡ next_ident (option_map (λ word. word.now) l.after) (rows_in l.self).current;
}

abbrev pub decreases-loop-at : goal.decreases-loop-at
decreases-loop-at l = l.len - l.at
