-- A set of jobs as the commands on sorted sets read it.
use Rattle.std.specs.Prelude.{ℕ, List, drop, take}
use Rattle.sk_cmd.specs.declared.argument.Scored.{Scored}
use Rattle.sk_undo.specs.Versions.{Versions}
use Rattle.sk_places.specs.declared.row.Place.TheVariants.{Set}
use Rattle.sk_places.specs.declared.row.Row.{Row}
use Rattle.sk_places.specs.Placed.{Placed}
use Rattle.sk_places.specs.Rows.{rows_at}

-- the rows of the set, by their scores
abbrev pub rows_of : Scored → Versions Placed → List Row
rows_of set places = rows_at (Set set) places.current.rows

-- those from one index to the one before another
abbrev pub rows_between : ℕ → ℕ → Scored → Versions Placed → List Row
rows_between first end set places = drop first (take end (rows_of set places))
