-- Jobs that go from a place to their queues, or to the dead set.
use Rattle.std.specs.Prelude.{◌≡◌, ℕ, pos, Bool, false, List, [], ◌∷◌, ◌++◌, filter, map, take, Option, Some}
use Rattle.std.specs.Ordering.{int_cmp, is_le}
use Rattle.sk_resp.specs.Spelling.{Bytes}
use Rattle.sk_cmd.specs.declared.argument.Scored.{Scored}
use Rattle.sk_cmd.specs.declared.argument.Scored.TheVariants.{Dead}
use Rattle.sk_cmd.specs.declared.argument.Side.{Side}
use Rattle.sk_cmd.specs.declared.argument.Side.TheVariants.{Left}
use Rattle.sk_payload.specs.Head.{head}
use Rattle.sk_payload.specs.declared.head.Head.{Head}
use Rattle.sk_places.specs.declared.row.Place.{Place}
use Rattle.sk_places.specs.declared.row.Place.TheVariants.{Queue, Set}
use Rattle.sk_places.specs.declared.row.Row.{Row}
use Rattle.sk_places.specs.Rows.{row_of, rows_at}
use Rattle.sk_model.specs.World.{World}
use Rattle.sk_model.specs.Change.{Carry, Change, Moves, Trim, changed, perform}
use Rattle.sk_model.specs.Jobs.{Routed, buried_by, each, kill_row, moment_score, put_dead, reports, promote}
use Rattle.sk_model.specs.Outcome.{Outcome}
use Rattle.sk_model.specs.Sets.{put_back}
use Rattle.sk_model.specs.Notify.{fired_texts}
use Rattle.sk_store.specs.Stored.{world}
use Rattle.sk_store.specs.declared.store.Store.{Store}
use Rattle.sk_jobs.specs.declared.report.Report.{Report}

-- The report tells what was sent on, and the world is as that left it.
pub record IsRouted (old new : World) (report : Report) (sent : Routed) : Type 0 where
  pub moved : report.moved ≡ sent.moved
  pub buried : report.buried ≡ sent.buried
  pub fired : report.fired.items ≡ fired_texts sent.firings
  pub trimmed : report.trimmed.items ≡ sent.trimmed
  pub world : new ≡ perform old sent.changes

-- the same from one state of the store to another
abbrev pub Routes : (World → Routed) → Store → Report → Store → Type 0
Routes sent old report new = IsRouted (world old) (world new) report (sent (world old))

-- ## Rows at their places

-- at the left end of the place stands this row, and these behind it
abbrev pub StandsFirst : Place → Store → Row → List Row → Type 0
StandsFirst place s row more = rows_at place (world s).rows ≡ row ∷ more

-- the first of this text there
abbrev pub IsNamed : Bytes → Place → Store → Row → Type 0
IsNamed text place s row = row_of text (rows_at place (world s).rows) ≡ Some row

-- the row at the left end of the place was sent on in this way
abbrev pub RoutesFirst : (World → Row → Option Head → Routed) → Place → Store → Report → Store → Type 0
RoutesFirst way place old report new = (row : Row) (more : List Row) → StandsFirst place old row more → Routes (λ w. way w row (head row.text)) old report new

-- the rows of a set, by their scores
abbrev pub set_rows : Scored → World → List Row
set_rows set w = rows_at (Set set) w.rows

-- those whose moment has come, the first so many
abbrev pub due_in : Scored → ℕ → World → List Row
due_in set limit w = take limit (filter (λ row. is_le (int_cmp row.score (moment_score w))) (set_rows set w))

-- these are sent to their queues
abbrev pub due_sent : Scored → ℕ → World → Outcome
due_sent set limit w = reports (each promote w (due_in set limit w))

-- the first of a text in the set goes to the dead set
abbrev pub killed_in : Scored → Bytes → World → Outcome
killed_in set text w = kill_row w (row_of text (set_rows set w))

-- the row went from the left end of its place to an end of a queue
abbrev pub Carries : Store → Row → Bytes → Side → Store → Type 0
Carries old row queue end new = world new ≡ changed (world old) (Moves (Carry row Left (Queue queue) (pos 0) end))

-- ## The dead set

abbrev pub dead_rows : World → List Row
dead_rows w = set_rows Dead w

abbrev pub texts_of : List Row → List Bytes
texts_of rows = map (λ row. row.text) rows

-- a text is put there, with the moment as its score; then the set is trimmed, and the job's batch is told
abbrev pub buries_text : World → Bytes → Outcome
buries_text w text = reports (buried_by w text (put_back w Dead (moment_score w, text) ∷ []))

-- it drops rows
abbrev pub trims : List Row → List Change
trims rows = map (λ row. Moves (Trim row)) rows

-- The row at its left end, of this text, was dropped, and nothing else changed there or at other places.
abbrev pub Trims : Store → Bytes → Store → Type 0
Trims old text new = (row : Row) (more : List Row) → dead_rows (world old) ≡ row ∷ more → (text ≡ row.text) × (world new ≡ changed (world old) (Moves (Trim row)))

-- ## Rows that others leave alone

-- no queue passes, and not the dead set
pub record IsAside (test : Place → Bool) : Type 0 where
  pub queues : (queue : Bytes) → test (Queue queue) ≡ false
  pub dead : test (Set Dead) ≡ false

-- the rows at places that pass
abbrev pub rows_in : (Place → Bool) → List Row → List Row
rows_in test rows = filter (λ row. test row.place) rows

-- At places aside from the queues and the dead set these rows went, from the left end, and none came.
abbrev pub Takes : List Row → Store → Store → Type 0
Takes rows old new = (test : Place → Bool) (others : List Row) → IsAside test → rows_in test (world old).rows ≡ rows ++ others → rows_in test (world new).rows ≡ others

-- the row at the left end of the place went, if there was one
abbrev pub TakesFirst : Place → Store → Store → Type 0
TakesFirst place old new = (row : Row) (more : List Row) → StandsFirst place old row more → Takes (row ∷ []) old new

-- the row went to the dead set from another place
pub record PutsDead (old : Store) (row : Row) (new : Store) : Type 0 where
  pub put : world new ≡ perform (world old) (put_dead (world old) row)
  pub left : Takes (row ∷ []) old new
