-- What a command does to the world: a list of changes, one after another. Rows change by moves alone.
use Rattle.std.specs.Prelude.{ℕ, ℤ, List, [], ◌∷◌, Option, Some, None, min, max}
use Rattle.sk_base.specs.Score.{last_moment}
use Rattle.sk_resp.specs.Spelling.{Bytes}
use Rattle.sk_cmd.specs.declared.argument.Side.{Side}
use Rattle.sk_cmd.specs.declared.argument.Side.TheVariants.{Left}
use Rattle.sk_value.specs.Keys.{Keys, purged}
use Rattle.sk_payload.specs.Head.{jid_of}
use Rattle.sk_places.specs.declared.row.Place.{Place}
use Rattle.sk_places.specs.declared.row.Row.{Row}
use Rattle.sk_places.specs.declared.row.Place.TheVariants.{Private}
use Rattle.sk_places.specs.Rows.{put_row, take_row, row_at}
pub use Rattle.sk_places.specs.Placed.{carried, named, with_name, without_name}
use Rattle.sk_model.specs.World.{World, phase_of}
use Rattle.sk_seats.specs.Phases.{turned}
use Rattle.sk_counters.specs.Counters.{counted_at}
use Rattle.sk_places.specs.declared.ending.Ending.{Ending}
use Rattle.sk_places.specs.declared.ending.Ending.TheVariants.{Returned, Discarded, Deleted, Trimmed}
use Rattle.sk_places.specs.declared.origin.Origin.{Origin}
use Rattle.sk_places.specs.Totals.{count_push}
use Rattle.sk_model.specs.Live.{born, count_job, with_end}
use Rattle.sk_seats.specs.declared.work.End.{End}
use Rattle.sk_seats.specs.declared.work.End.TheVariants as end
use Rattle.sk_batch.specs.Batched.{Batched, has_bid}
use Rattle.sk_batch.specs.Events.{joined, marked, unfired}
use Rattle.sk_batch.specs.Fires.{retagged, with_kind}
use Rattle.sk_batch.specs.Notify.{mark_of}
use Rattle.sk_batch.specs.declared.batch.Batch.{Batch}
use Rattle.sk_batch.specs.declared.event.Event.{Event}
use Rattle.sk_batch.specs.declared.firing.Kind.{Kind}
use Rattle.sk_leases.specs.Leased.{beat, recovered, forgotten, locked, unlocked, led, marked as slotted, purged as still_leased}
use Rattle.sk_seats.specs.declared.phase.Phase.{Phase}
use Rattle.sk_seats.specs.declared.phase.Phase.TheVariants.{Plain, Joined}
use Rattle.sk_seats.specs.declared.work.Stage.{Stage}
use Rattle.sk_seats.specs.declared.work.Stage.TheVariants.{Held, Put, Settled}
use Rattle.sk_seats.specs.declared.work.Work.{Work}
use Rattle.sk_seats.specs.Works.{first, is_done_as}

pub data Move : Type 0 where
  -- a push adds a row at an end of its place
  Add : (row : Row) → (end : Side) → (from : Origin) → Move
  -- The row goes from this end of its place to that end of another, or of the same, with the same text and a score of its own there.
  Carry : (row : Row) → (from : Side) → (to : Place) → (score : ℤ) → (end : Side) → Move
  -- A client's command removes the row. Of several with its text it is the nearest to this end of the place.
  Take : (row : Row) → (from : Side) → Move
  -- The row is dropped from the dead set, which keeps no more and no longer.
  Trim : (row : Row) → Move
  -- The row of a set becomes one with another row of its text, which is to stand there.
  Merge : (row : Row) → Move
  -- A worker puts the text of its failed job into a set, where it isn't yet.
  PutBack : (row : Row) → Move
  -- A worker's seat releases a job of this text: the leftmost row of it in the private list goes, if there is one.
  Free : (seat : ℕ) → (text : Bytes) → Move
  -- A batch is complete, has succeeded or has died. Its callback is pushed next, where it has one.
  Fire : (bid : Bytes) → (kind : Kind) → Move

pub data Change : Type 0 where
  Moves : (move : Move) → Change
  -- the store is handed a moment
  Passes : (now : ℕ) → Change
  -- a queue's name comes into `queues`
  Names : (queue : Bytes) → Change
  -- a queue's name goes
  Unnames : (queue : Bytes) → Change
  -- the plain keys are these now
  Keeps : (keys : Keys) → Change
  -- a seat turns to a phase
  Turns : (seat : ℕ) → (phase : Phase) → Change
  -- a process's heartbeat stands for a minute from now on
  Beats : (ident : Bytes) → Change
  -- one more counts under `stat:`
  Counts : (name : Bytes) → Change
  -- a job is recovered from the private list of a process that is gone
  Recovers : (jid : Bytes) → Change
  -- its recoveries are forgotten
  Forgets : (jid : Bytes) → Change
  -- a job gets the lock under a digest, for so many seconds from now on
  Locks : (digest jid : Bytes) → (seconds : ℕ) → Change
  -- a job lets go of the lock under a digest, if it is the holder
  Unlocks : (digest jid : Bytes) → Change
  -- a process leads for half a minute from now on
  Elects : (ident : Bytes) → Change
  -- This is the last slot of a periodic job now. The text is pushed next.
  TakesSlot : (loop : Bytes) → (slot : ℕ) → (text : Bytes) → Change
  -- a batch is made, with its first jobs
  Makes : (batch : Batch) → (jids : List Bytes) → Change
  -- a batch gets more jobs
  Joins : (bid : Bytes) → (jids : List Bytes) → Change
  -- a batch is told what has come of a job
  Notifies : (event : Event) → (bid jid : Bytes) → Change

-- how a worker that is done with a job ends it
abbrev pub ending_of : End → Ending
ending_of end.Returned = Returned
ending_of end.Discarded = Discarded

abbrev pub freed_at : Stage → Bytes → Bytes → World → World
freed_at Held ident text w = w
freed_at Put ident text w = record w { rows = take_row Left (row_at (Private ident) text) w.rows }
freed_at (Settled end) ident text w = record (with_end (ending_of end) text w) { rows = take_row Left (row_at (Private ident) text) w.rows }

abbrev pub freed_work : Bytes → World → Option Work → World
freed_work ident w None = w
freed_work ident w (Some work) = freed_at work.stage ident work.payload w

-- a seat in this phase releases its first work of the text that was put back or is settled
abbrev pub freed : Bytes → World → Phase → World
freed text w Plain = w
freed text w (Joined ident works) = freed_work ident w (first (is_done_as text) works)

-- it is kept of a batch what was fired of it
abbrev pub after_fire : Bytes → Kind → Batched → Batched
after_fire bid kind s = record s { batches = retagged (has_bid bid) (with_kind kind) s.batches }

-- one more batch, of which nothing was fired
abbrev pub with_batch : Batch → Batched → Batched
with_batch batch s = record s { batches = (unfired, batch) ∷ s.batches }

abbrev pub moved : World → Move → World
moved w (Add row end from) = record w { rows = put_row end row w.rows; names = named row.place w.names; live = born w (jid_of row.text); tally = count_job w (jid_of row.text) (count_push from w.tally) }
moved w (Carry row from to score end) = record w { rows = put_row end (carried row to score) (take_row from row w.rows); names = named to w.names }
moved w (Take row from) = record (with_end Deleted row.text w) { rows = take_row from row w.rows }
moved w (Trim row) = record (with_end Trimmed row.text w) { rows = take_row Left row w.rows }
moved w (Merge row) = record w { rows = take_row Left row w.rows }
moved w (PutBack row) = record w { rows = put_row Left row w.rows; names = named row.place w.names }
moved w (Free seat text) = freed text w (phase_of w seat)
moved w (Fire bid kind) = record w { batches = after_fire bid kind w.batches }

-- The greatest moment counts, up to the last one that is told apart. Plain keys, heartbeats, recoveries, locks and the lease of the leader are gone
-- whose deadline it has reached.
abbrev pub moment_after : ℕ → World → ℕ
moment_after now w = max w.moment (min now last_moment)

abbrev pub passed : ℕ → World → World
passed now w = record w { moment = moment_after now w; keys = purged (moment_after now w) w.keys; leases = still_leased (moment_after now w) w.leases }

abbrev pub changed : World → Change → World
changed w (Moves move) = moved w move
changed w (Passes now) = passed now w
changed w (Names queue) = record w { names = with_name queue w.names }
changed w (Unnames queue) = record w { names = without_name queue w.names }
changed w (Keeps keys) = record w { keys = keys }
changed w (Turns seat phase) = record w { phases = turned seat phase w.phases }
changed w (Beats ident) = record w { leases = beat ident w.moment w.leases }
changed w (Counts name) = record w { counters = counted_at w.moment name w.counters }
changed w (Recovers jid) = record w { leases = recovered jid w.moment w.leases }
changed w (Forgets jid) = record w { leases = forgotten jid w.leases }
changed w (Locks digest jid seconds) = record w { leases = locked digest jid seconds w.moment w.leases }
changed w (Unlocks digest jid) = record w { leases = unlocked digest jid w.leases }
changed w (Elects ident) = record w { leases = led ident w.moment w.leases }
changed w (TakesSlot loop slot text) = record w { leases = slotted loop slot w.leases }
changed w (Makes batch jids) = record w { batches = joined batch.bid jids (with_batch batch w.batches) }
changed w (Joins bid jids) = record w { batches = joined bid jids w.batches }
changed w (Notifies event bid jid) = record w { batches = marked (mark_of event) bid jid w.batches }

-- the world after changes, in order
abbrev pub perform : World → List Change → World
perform w [] = w
perform w (change ∷ changes) = perform (changed w change) changes
