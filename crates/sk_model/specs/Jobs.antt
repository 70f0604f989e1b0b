-- Jobs that go from a set to their queues or to the dead set: SK.DUE, SK.REVIVE, SK.KILL.
use Rattle.std.specs.Prelude.{ℕ, ℤ, pos, ◌+◌, ◌-◌, ◌*◌, ◌+ℤ◌, List, [], ◌∷◌, ◌++◌, Option, Some, None, length, map, filter, take, not, Bool}
use Rattle.std.specs.Ordering.{int_cmp, is_le}
use Rattle.sk_base.specs.declared.limits.TheConstants.{DEAD_LIFE, MOST_DEAD}
use Rattle.sk_resp.specs.Spelling.{Bytes}
use Rattle.sk_resp.specs.Reply.{wire}
use Rattle.sk_resp.specs.declared.reply.Reply.TheVariants as reply
use Rattle.sk_resp.specs.declared.refusal.Refusal.TheVariants.{BadPayload}
use Rattle.sk_cmd.specs.declared.argument.Scored.{Scored}
use Rattle.sk_cmd.specs.declared.argument.Scored.TheVariants.{Dead}
use Rattle.sk_cmd.specs.declared.argument.Side.{Side}
use Rattle.sk_cmd.specs.declared.argument.Side.TheVariants.{Left}
use Rattle.sk_payload.specs.Head.{head}
use Rattle.sk_payload.specs.declared.head.Head.{Head}
use Rattle.sk_value.specs.Answer.{counted, texts}
use Rattle.sk_places.specs.declared.row.Place.TheVariants.{Queue, Set}
use Rattle.sk_places.specs.declared.row.Row.{Row}
use Rattle.sk_places.specs.Rows.{rows_at, row_of}
use Rattle.sk_model.specs.World.{World}
use Rattle.sk_model.specs.Change.{Change, Moves, Carry, Trim, Merge, perform}
use Rattle.sk_model.specs.Outcome.{Outcome, says, refuses}
use Rattle.sk_model.specs.Notify.{Notified, notify, fired}
use Rattle.sk_batch.specs.declared.event.Event.TheVariants.{Died}
use Rattle.sk_batch.specs.declared.firing.Firing.{Firing}

-- the moment as a score: millionths of seconds
abbrev pub moment_score : World → ℤ
moment_score w = pos (w.moment * 1000)

-- ## Burying

abbrev pub most_dead : ℕ
most_dead = MOST_DEAD

-- 180 days, as a score
abbrev pub kept_for : ℤ
kept_for = DEAD_LIFE

-- a row of the dead set that has been there for 180 days
abbrev pub is_old : World → Row → Bool
is_old w row = is_le (int_cmp (row.score +ℤ kept_for) (moment_score w))

-- Of the dead set's rows, those that go: the old ones, and then the lowest until as many are left as it keeps.
abbrev pub surplus : World → List Row → List Row
surplus w rows =
    let young : List Row = filter (λ row. not (is_old w row)) rows in
    filter (is_old w) rows ++ take (length young - most_dead) young

-- a row that is there becomes one with another of its text
abbrev pub merge : Option Row → List Change
merge None = []
merge (Some row) = Moves (Merge row) ∷ []

-- the row goes to the dead set, with the moment as its score
abbrev pub put_dead : World → Row → List Change
put_dead w row = merge (row_of row.text (rows_at (Set Dead) w.rows)) ++ Moves (Carry row Left (Set Dead) (moment_score w) Left) ∷ []

-- what came of rows that were sent on
pub record Routed : Type 0 where
  -- how many went to their queues
  pub moved : ℕ
  -- how many were buried
  pub buried : ℕ
  -- what their batches fired
  pub firings : List Firing
  -- the texts that were trimmed
  pub trimmed : List Bytes
  pub changes : List Change

abbrev pub nothing : Routed
nothing = record { moved = 0; buried = 0; firings = []; trimmed = []; changes = [] }

-- one of this text is buried by these changes; then the dead set is trimmed, and the job's batch is told
abbrev pub buried_by : World → Bytes → List Change → Routed
buried_by w text put =
    let after : World = perform w put in
    let gone : List Row = surplus after (rows_at (Set Dead) after.rows) in
    let done : List Change = put ++ map (λ row. Moves (Trim row)) gone in
    let told : Notified = notify Died (perform w done) text in
    record { moved = 0; buried = 1; firings = told.firings; trimmed = map (λ row. row.text) gone; changes = done ++ told.changes }

abbrev pub bury : World → Row → Routed
bury w row = buried_by w row.text (put_dead w row)

-- ## To the queues

-- to an end of the queue that its head names
abbrev pub to_queue : Side → Row → Head → Routed
to_queue end row h = record { moved = 1; buried = 0; firings = []; trimmed = []; changes = Moves (Carry row Left (Queue h.queue) (pos 0) end) ∷ [] }

-- What is due goes to the left end. A row without a head is buried.
abbrev pub promote : World → Row → Option Head → Routed
promote w row None = bury w row
promote w row (Some h) = to_queue Left row h

abbrev pub and_then : Routed → Routed → Routed
and_then one more = record { moved = one.moved + more.moved; buried = one.buried + more.buried; firings = one.firings ++ more.firings; trimmed = one.trimmed ++ more.trimmed; changes = one.changes ++ more.changes }

-- each row is sent in this way, at the world that the ones before it left
abbrev pub each : (World → Row → Option Head → Routed) → World → List Row → Routed
each way w [] = nothing
each way w (row ∷ rows) =
    let one : Routed = way w row (head row.text) in
    and_then one (each way (perform w one.changes) rows)

-- ## The commands

-- how many were moved and buried, what was fired, and the texts that were trimmed
abbrev pub reports : Routed → Outcome
reports sent = record { reply = reply.Array (wire (counted sent.moved) ∷ wire (counted sent.buried) ∷ wire (fired sent.firings) ∷ wire (texts sent.trimmed) ∷ []); changes = sent.changes }

-- the rows of a set that wait for a moment; those of the dead set wait for none
abbrev pub waiting_rows : World → Scored → List Row
waiting_rows w Dead = []
waiting_rows w set = rows_at (Set set) w.rows

-- those whose moment has come, the first so many
abbrev pub due_rows : World → Scored → ℕ → List Row
due_rows w set limit = take limit (filter (λ row. is_le (int_cmp row.score (moment_score w))) (waiting_rows w set))

-- SK.DUE
abbrev pub due : World → Scored → ℕ → Outcome
due w set limit = reports (each promote w (due_rows w set limit))

-- SK.KILL
abbrev pub kill_row : World → Option Row → Outcome
kill_row w None = reports nothing
kill_row w (Some row) = reports (bury w row)

abbrev pub kill : World → Scored → Bytes → Outcome
kill w set text = kill_row w (row_of text (waiting_rows w set))

-- SK.REVIVE
abbrev pub revive_as : Row → Option Head → Outcome
revive_as row None = refuses BadPayload
revive_as row (Some h) = record { reply = counted 1; changes = (to_queue Left row h).changes }

abbrev pub revive_row : Option Row → Outcome
revive_row None = says (counted 0)
revive_row (Some row) = revive_as row (head row.text)

abbrev pub revive : World → Scored → Bytes → Outcome
revive w set text = revive_row (row_of text (rows_at (Set set) w.rows))
