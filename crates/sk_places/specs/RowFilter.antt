-- Which rows of a place are to go, and the list without some of them.
use Rattle.std.specs.Prelude.{ℕ, zero, suc, Bool, ◌&&◌, List}
use Rattle.sk_cmd.specs.declared.argument.Side.{Side}
use Rattle.sk_cmd.specs.declared.argument.Side.TheVariants.{Left, Right}
use Rattle.sk_places.specs.declared.row_filter.RowFilter.{RowFilter}
use Rattle.sk_places.specs.declared.row_filter.RowFilter.TheVariants.{Copies, Member}
use Rattle.sk_places.specs.declared.row.Place.{Place}
use Rattle.sk_places.specs.declared.row.Row.{Row}
use Rattle.sk_places.specs.Rows.{is_at, is_same, row_at, without_first, without_last}
use Rattle.sk_places.specs.Segments.{is_text}

-- the row is at the place, and is wanted
abbrev pub selects : Place → RowFilter → Row → Bool
selects place (Member text) row = is_at place row && is_text text.now row
selects place (Copies text) row = is_same (row_at place text.now) row

-- without the first so many that pass
abbrev pub without_firsts : ℕ → (Row → Bool) → List Row → List Row
without_firsts zero test rows = rows
without_firsts (suc n) test rows = without_firsts n test (without_first test rows)

-- without the last so many that pass
abbrev pub without_lasts : ℕ → (Row → Bool) → List Row → List Row
without_lasts zero test rows = rows
without_lasts (suc n) test rows = without_lasts n test (without_last test rows)

-- from this end
abbrev pub without_end : ℕ → Side → (Row → Bool) → List Row → List Row
without_end n Left test rows = without_firsts n test rows
without_end n Right test rows = without_lasts n test rows
