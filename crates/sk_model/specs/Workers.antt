-- The life of a worker's seat: it joins, fetches a job, tells of its run, puts it back or is done with it, and releases it (Sidekiq's wiki,
-- "Reliability"). The job never leaves the rows: a fetch carries it to the process's private list, where it stands until the release.
use Rattle.std.specs.Prelude.{ℕ, pos, [], ◌∷◌, ◌++◌, Option, Some, None, not, ◌&&◌, cond, length, nat_lt}
use Rattle.std.specs.List.{list_any}
use Rattle.std.specs.Option.{is_some}
use Rattle.sk_base.specs.declared.limits.TheConstants.{LONGEST_NAME}
use Rattle.sk_resp.specs.Spelling.{Bytes}
use Rattle.sk_resp.specs.declared.reply.Reply.TheVariants as reply
use Rattle.sk_resp.specs.declared.say.Say.TheVariants as say
use Rattle.sk_resp.specs.declared.refusal.Refusal.TheVariants.{OutOfTurn, HandsFull, NoProcess, BadPayload, NotWorker}
use Rattle.sk_cmd.specs.declared.argument.Side.TheVariants.{Left, Right}
use Rattle.sk_cmd.specs.declared.argument.Scored.TheVariants.{Retry, Dead}
use Rattle.sk_payload.specs.Head.{head}
use Rattle.sk_payload.specs.declared.head.Head.{Head}
use Rattle.sk_payload.specs.Member.{is_name}
use Rattle.sk_value.specs.Answer.{counted, one_if}
use Rattle.sk_value.specs.declared.action.Action.{Action}
use Rattle.sk_value.specs.declared.action.Action.TheVariants as action
use Rattle.sk_value.specs.declared.write_op.WriteOp.{WriteOp}
use Rattle.sk_value.specs.declared.write_op.WriteOp.TheVariants as edit
use Rattle.sk_zset.specs.Pair.{Pair}
use Rattle.sk_places.specs.declared.row.Place.TheVariants.{Queue, Private, Set}
use Rattle.sk_places.specs.declared.row.Row.{Row}
use Rattle.sk_places.specs.Rows.{row_at_end, row_of, rows_at}
use Rattle.sk_seats.specs.declared.phase.Phase.{Phase}
use Rattle.sk_seats.specs.declared.phase.Phase.TheVariants.{Plain, Joined}
use Rattle.sk_seats.specs.declared.work.End.TheVariants.{Returned, Discarded}
use Rattle.sk_seats.specs.declared.work.Stage.TheVariants.{Put, Settled}
use Rattle.sk_seats.specs.Phases.{holding, releasing, staging, works_of}
use Rattle.sk_seats.specs.Works.{is_buried_as, is_done_as, is_held_as, is_retried_as, most_works}
use Rattle.sk_model.specs.World.{World}
use Rattle.sk_leases.specs.Leased.{is_alive}
use Rattle.sk_model.specs.Change.{Moves, Carry, Free, Turns, Beats, Counts}
use Rattle.sk_counters.specs.Counters.{processed, failed}
use Rattle.sk_model.specs.Outcome.{Outcome, says, tells, refuses}
use Rattle.sk_model.specs.Seats.{fetched_from, only, released_by, where_held, where_some}
use Rattle.sk_model.specs.Sets.{put_back}
use Rattle.sk_model.specs.Notify.{and_notify}
use Rattle.sk_model.specs.Unique.{unlocks}
use Rattle.sk_payload.specs.declared.head.Until.TheVariants as until
use Rattle.sk_batch.specs.declared.event.Event.TheVariants as event
use Rattle.sk_batch.specs.declared.event.Event.TheVariants.{Reported}
use Rattle.sk_model.specs.Jobs.{Routed, buried_by, reports, moment_score}

-- ## The process

-- SK.BEAT: the process's heartbeat stands for a minute
abbrev pub beat : Bytes → Outcome
beat ident = cond (is_name LONGEST_NAME ident) (record { reply = reply.Say say.Ok; changes = Beats ident ∷ [] }) (refuses NoProcess)

-- SK.JOIN: the seat is one of the process's
abbrev pub join : World → ℕ → Bytes → Outcome
join w seat ident = cond (is_name LONGEST_NAME ident && is_alive ident w.moment w.leases) (record { reply = reply.Say say.Ok; changes = Turns seat (Joined ident []) ∷ [] }) (refuses NoProcess)

-- ## A job comes, and goes

-- The fetch: the row goes from the right end of its queue to the left of the private list, and is the last of the seat's works. An empty queue
-- answers null.
abbrev pub fetch_row : ℕ → Phase → Bytes → Option Row → Outcome
fetch_row seat phase ident None = says reply.Null
fetch_row seat phase ident (Some row) = record { reply = reply.Bulk row.text; changes = Moves (Carry row Right (Private ident) (pos 0) Left) ∷ Turns seat (holding row.text phase) ∷ [] }

-- a seat with sixteen works fetches no more
abbrev pub fetch : World → ℕ → Phase → Bytes → Option Bytes → Outcome
fetch w seat phase ident None = refuses OutOfTurn
fetch w seat phase ident (Some queue) = cond (nat_lt (length (works_of phase)) most_works) (fetch_row seat phase ident (row_at_end Right (Queue queue) w.rows)) (refuses HandsFull)

-- the leftmost row of the text in the private list
abbrev pub listed : World → Bytes → Bytes → Option Row
listed w ident text = row_of text (rows_at (Private ident) w.rows)

-- The release of the first work of this text that was put back or is settled: the leftmost row of the text in the private list goes, if a rescue
-- didn't take it.
abbrev pub release : World → ℕ → Phase → Bytes → Bytes → Outcome
release w seat phase ident text = record { reply = one_if (is_some (listed w ident text)); changes = Moves (Free seat text) ∷ Turns seat (releasing (is_done_as text) phase) ∷ [] }

-- the seat has no work of this text, or another has
abbrev pub release_of : World → ℕ → Phase → Bytes → Option Bytes → Outcome
release_of w seat phase ident None = refuses OutOfTurn
release_of w seat phase ident (Some text) = cond (list_any (is_done_as text) (works_of phase)) (release w seat phase ident text) (refuses OutOfTurn)

-- SK.BACK: the job goes back to the right end of its queue, to be fetched first.
abbrev pub give_row : ℕ → Phase → Head → Option Row → Outcome
give_row seat phase h None = record { reply = counted 0; changes = Turns seat phase ∷ [] }
give_row seat phase h (Some row) = record { reply = counted 1; changes = Moves (Carry row Left (Queue h.queue) (pos 0) Right) ∷ Turns seat phase ∷ [] }

abbrev pub give : World → ℕ → Phase → Bytes → Bytes → Option Head → Outcome
give w seat phase ident text None = refuses BadPayload
give w seat phase ident text (Some h) = give_row seat (releasing (is_held_as text) phase) h (listed w ident text)

abbrev pub back : World → ℕ → Phase → Bytes → Outcome
back w seat phase text = where_held phase text (λ ident. give w seat phase ident text (head text))

-- ## A job runs

-- SK.START: it is about to run. A lock until then ends.
abbrev pub start : Phase → Bytes → Outcome
start phase text = where_held phase text (λ ident. record { reply = reply.Say say.Ok; changes = unlocks until.Start text })

-- SK.FAIL: it has raised
abbrev pub fail : World → Phase → Bytes → Outcome
fail w phase text = where_held phase text (λ ident. and_notify Reported w text (Counts processed ∷ Counts failed ∷ []))

-- a lock until its success ends
abbrev pub and_unlock : Bytes → Outcome → Outcome
and_unlock text o = record o { changes = o.changes ++ unlocks until.Success text }

-- SK.OK: it has returned; then it is released.
abbrev pub ok : World → ℕ → Phase → Bytes → Outcome
ok w seat phase text = where_held phase text (λ ident. and_unlock text (and_notify event.Returned w text (Turns seat (staging (is_held_as text) (Settled Returned) phase) ∷ Counts processed ∷ [])))

-- SK.DROP: it is given up; then it is released. Its batch hears nothing of it.
abbrev pub drop : ℕ → Phase → Bytes → Outcome
drop seat phase text = where_held phase text (λ ident. record { reply = reply.Say say.Ok; changes = Turns seat (staging (is_held_as text) (Settled Discarded) phase) ∷ [] })

-- ## A job has failed

-- ZADD on `retry`: the failed text waits there for its next run. The reply tells how many are new.
abbrev pub retry_pair : World → ℕ → Phase → Pair → Outcome
retry_pair w seat phase pair = record {
  reply = one_if (not (is_some (row_of pair.1 (rows_at (Set Retry) w.rows))));
  changes = put_back w Retry pair ∷ Turns seat (staging (is_retried_as pair.1) Put phase) ∷ [];
}

abbrev pub retry : World → ℕ → Phase → Option Pair → Outcome
retry w seat phase None = refuses OutOfTurn
retry w seat phase (Some pair) = cond (list_any (is_retried_as pair.1) (works_of phase)) (retry_pair w seat phase pair) (refuses OutOfTurn)

-- SK.BURY: the failed text goes to the dead set, or the payload itself where it has no head.
abbrev pub bury_text : World → ℕ → Phase → Bytes → Routed
bury_text w seat phase text = buried_by w text (put_back w Dead (moment_score w, text) ∷ Turns seat (staging (is_buried_as text) Put phase) ∷ [])

abbrev pub bury : World → ℕ → Phase → Bytes → Outcome
bury w seat phase text = where_some phase (is_buried_as text) (λ ident. reports (bury_text w seat phase text))

-- ## The table

-- a worker's edits: ZADD on `retry`, and LREM on a private list
abbrev pub work_edit : World → ℕ → Phase → Bytes → Bytes → WriteOp → Outcome
work_edit w seat phase ident key (edit.Zadd pairs) = retry w seat phase (only pairs)
work_edit w seat phase ident key other = release_of w seat phase ident (released_by ident key other)

-- a worker's edits, and the fetch
abbrev pub work_as : World → ℕ → Phase → Bytes → Action → Outcome
work_as w seat phase ident (action.WriteOp key e) = work_edit w seat phase ident key e
work_as w seat phase ident other = fetch w seat phase ident (fetched_from ident other)

-- what a worker's command on keys does
abbrev pub work : World → ℕ → Phase → Action → Outcome
work w seat Plain a = refuses NotWorker
work w seat (Joined ident works) a = work_as w seat (Joined ident works) ident a
