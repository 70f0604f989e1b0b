-- The processes that a rescue comes to, one after another.
use Rattle.std.specs.Prelude.{◌≡◌, ◌<◌, List, [], ◌++◌, true, filter, length, not, Option, Some, None}
use Rattle.std.specs.List.{list_all}
use Rattle.sk_resp.specs.Spelling.{Bytes}
use Rattle.sk_payload.specs.Head.{head}
use Rattle.sk_payload.specs.declared.head.Head.{Head}
use Rattle.sk_places.specs.Rows.{ident_at, is_at, is_past, rows_at}
use Rattle.sk_places.specs.declared.row.Place.TheVariants.{Private}
use Rattle.sk_places.specs.declared.row.Row.{Row}
use Rattle.sk_model.specs.Rescue.{bury_poison, left_rows}
use Rattle.sk_model.specs.World.{World}
use Rattle.sk_store.specs.declared.store.Store.{Store}
use Rattle.sk_jobs.specs.Routing.{Routes}
use Rattle.sk_jobs.specs.declared.report.Report.{Report}

-- the rows of a process's private list
abbrev pub own_rows : Bytes → World → List Row
own_rows ident w = rows_at (Private ident) w.rows

-- The rows that are left are all in lists of identities behind this one.
abbrev pub IsPassed : Option Bytes → World → Type 0
IsPassed after w = list_all (λ row. is_past after (ident_at row.place)) (left_rows w) ≡ true

-- the rows that are left of other processes
abbrev pub others_left : Bytes → World → List Row
others_left ident w = filter (λ row. not (is_at (Private ident) row)) (left_rows w)

-- The process has rows, and of all that are left they stand in front; the others are of identities behind it.
pub record IsFront (ident : Bytes) (w : World) : Type 0 where
  pub some : 0 < length (own_rows ident w)
  pub front : left_rows w ≡ own_rows ident w ++ others_left ident w
  pub behind : list_all (λ row. is_past (Some ident) (ident_at row.place)) (others_left ident w) ≡ true

-- the process that a rescue comes to next, or none where no row is left
abbrev pub IsNext : Option Bytes → World → Type 0
IsNext None w = left_rows w ≡ []
IsNext (Some ident) w = IsFront ident w

-- the row was buried, and the recoveries of the job that its head names were forgotten
abbrev pub BuriesPoison : Store → Row → Report → Store → Type 0
BuriesPoison old row report new = (h : Head) → head row.text ≡ Some h → Routes (λ w. bury_poison w row h.jid) old report new
