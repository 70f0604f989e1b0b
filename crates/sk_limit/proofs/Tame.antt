-- The commands that don't write plain keys: neither these nor the moment change.
use Rattle.std.proofs.Common.{◌≡◌, ℕ, zero, suc, List, [], ◌∷◌, ◌++◌, refl, Bool, true, false, ◌&&◌, cond, not, length, nat_lt}
use Rattle.std.specs.List.{list_all, list_any}
use Rattle.std.specs.Prelude.{ℤ, nat_abs, Option, Some, None, filter, map}
use Rattle.sk_resp.specs.Spelling.{Bytes}
use Rattle.sk_resp.specs.WordOrder.{is_member}
use Rattle.sk_cmd.specs.declared.argument.Scored.{Scored}
use Rattle.sk_cmd.specs.declared.argument.Scored.TheVariants.{Schedule, Retry, Dead}
use Rattle.sk_cmd.specs.declared.argument.Side.{Side}
use Rattle.sk_cmd.specs.declared.argument.Side.TheVariants.{Left, Right}
use Rattle.sk_cmd.specs.declared.command.ScriptCommand.{ScriptCommand}
use Rattle.sk_cmd.specs.declared.command.ScriptCommand.TheVariants as script
use Rattle.sk_payload.specs.Digest.{digest}
use Rattle.sk_payload.specs.Head.{head}
use Rattle.sk_payload.specs.Member.{is_name}
use Rattle.sk_payload.specs.declared.head.Head.{Head}
use Rattle.sk_payload.specs.declared.head.Lock.{Lock}
use Rattle.sk_payload.specs.declared.head.Until.{Until}
use Rattle.sk_payload.specs.declared.head.Until.TheVariants.{Start, Success}
use Rattle.sk_batch.specs.Events.{made_fires}
use Rattle.sk_batch.specs.Faults.{bid_fault, batch_fault, jids_fault, breaks, is_full as is_full_of}
use Rattle.sk_batch.specs.Notify.{fires_of}
use Rattle.sk_batch.specs.Stat.{stat}
use Rattle.sk_batch.specs.declared.batch.Batch.{Batch}
use Rattle.sk_batch.specs.declared.batch_fault.BatchFault.{BatchFault}
use Rattle.sk_batch.specs.declared.batch_fault.BatchFault.TheVariants as fault
use Rattle.sk_batch.specs.declared.batch_stat.BatchStat.{BatchStat}
use Rattle.sk_batch.specs.declared.event.Event.{Event}
use Rattle.sk_batch.specs.declared.event.Event.TheVariants.{Died, Reported, Returned}
use Rattle.sk_batch.specs.declared.firing.Firing.{Firing}
use Rattle.sk_counters.specs.Counters.{processed, failed}
use Rattle.sk_leases.specs.Leased.{holder_at, is_alive, is_led_by_another, last, leads}
use Rattle.sk_zset.specs.Bounds.{is_between}
use Rattle.sk_zset.specs.Pair.{Pair}
use Rattle.sk_places.specs.Rows.{copies_of, end_taken, number_taken, pair_of, row_at, row_at_end, row_of, rows_at}
use Rattle.sk_places.specs.declared.origin.Origin.{Origin}
use Rattle.sk_places.specs.declared.origin.Origin.TheVariants.{Inner, Outside}
use Rattle.sk_places.specs.declared.row.Place.{Place}
use Rattle.sk_places.specs.declared.row.Place.TheVariants.{Queue, Set}
use Rattle.sk_places.specs.declared.row.Row.{Row}
use Rattle.sk_seats.specs.Phases.{staging, works_of}
use Rattle.sk_seats.specs.Works.{is_buried_as, is_done_as, is_held_as, is_retried_as, most_works}
use Rattle.sk_seats.specs.declared.work.End.TheVariants as end
use Rattle.sk_seats.specs.declared.work.Stage.TheVariants.{Put, Settled}
use Rattle.sk_seats.specs.declared.phase.Phase.{Phase}
use Rattle.sk_seats.specs.declared.phase.Phase.TheVariants.{Plain, Joined}
use Rattle.sk_seats.specs.declared.work.Work.{Work}
use Rattle.sk_value.specs.Lists.{range_of}
use Rattle.sk_value.specs.declared.action.Action.{Action}
use Rattle.sk_value.specs.declared.action.Action.TheVariants as action
use Rattle.sk_value.specs.declared.write_op.WriteOp.{WriteOp}
use Rattle.sk_value.specs.declared.write_op.WriteOp.TheVariants as edit
use Rattle.sk_model.specs.Batches.{all_may_join, are_callbacks, batch_add, batch_of, batch_push, jids_of, may_call, push_jobs, tells_stat, unless}
use Rattle.sk_model.specs.Change.{Change, Carry, Moves, Trim, Names, Counts, Forgets, Keeps, Passes, Recovers, Turns, Unnames, changed, perform}
use Rattle.sk_model.specs.Deletes.{take_all}
use Rattle.sk_model.specs.Jobs.{Routed, bury, buried_by, due_rows, each, kill_row, merge, moment_score, promote, put_dead, revive_as, revive_row, surplus, waiting_rows}
use Rattle.sk_model.specs.Notify.{and_notify, fire_all, notify, notify_in, notify_of, push_callback, push_job, push_to}
use Rattle.sk_model.specs.Outcome.{Outcome}
use Rattle.sk_model.specs.Periodic.{cron, has_loop, is_above, is_in_time, is_process, lead}
use Rattle.sk_model.specs.Queues.{move_row, pushes, takes}
use Rattle.sk_model.specs.Rescue.{is_poison, left_rows, recover, rescue_row}
use Rattle.sk_model.specs.Room.{is_full, is_too_much}
use Rattle.sk_model.specs.Seats.{fetched_from, only, released_by, where_held, where_plain, where_some}
use Rattle.sk_model.specs.Sets.{add_each, add_one, add_as, add_to, edit_jobs, put_as, put_back}
use Rattle.sk_model.specs.Step.{edit_names, edit_queue, run}
use Rattle.sk_model.specs.Unique.{is_until, or_holder, push_locked, push_or_schedule, unique_push_by, unique_push_of, unlocks, unlocks_at, unlocks_of}
use Rattle.sk_model.specs.Workers.{and_unlock, bury_text, fetch, fetch_row, give, give_row, listed, release_of, retry, work, work_as, work_edit}
use Rattle.sk_model.specs.World.{World}

-- neither the plain keys nor the moment change
abbrev pub is_tame : Change → Bool
is_tame (Keeps keys) = false
is_tame (Passes now) = false
is_tame other = true

abbrev pub Tame : List Change → Type 0
Tame changes = list_all is_tame changes ≡ true

both : (a b : Bool) → a ≡ true → b ≡ true → a && b ≡ true
both true b e f = f
both false b e f = absurd (cc e)

both_of : (a b : Bool) → a && b ≡ true → (a ≡ true) × (b ≡ true)
both_of true b e = (refl, e)
both_of false b e = absurd (cc e)

pub tame_append : (a b : List Change) → Tame a → Tame b → Tame (a ++ b)
tame_append [] b p q = q
tame_append (change ∷ a) b p q =
    let is = both_of (is_tame change) (list_all is_tame a) p in
    both (is_tame change) (list_all is_tame (a ++ b)) is.0 (tame_append a b is.1 q)

-- an outcome whose changes are tame
pub record Calm (o : Outcome) : Type 0 where
  pub tame : Tame o.changes

calm : {o : Outcome} → Tame o.changes → Calm o
calm is = record { tame = is }

pub tame_cond : (b : Bool) (x y : Outcome) → Calm x → Calm y → Calm (cond b x y)
tame_cond true x y p q = p
tame_cond false x y p q = q

tame_if : (b : Bool) (x y : List Change) → Tame x → Tame y → Tame (cond b x y)
tame_if true x y p q = p
tame_if false x y p q = q

-- ## Queues

pushes_tame : (end : Side) (place : Place) (texts : List Bytes) → Tame (pushes end place texts)
pushes_tame end place [] = refl
pushes_tame end place (text ∷ texts) = pushes_tame end place texts

takes_tame : (n : ℕ) (row : Row) (end : Side) → Tame (takes n row end)
takes_tame zero row end = refl
takes_tame (suc n) row end = takes_tame n row end

pub take_all_tame : (rows : List Row) → Tame (take_all rows)
take_all_tame [] = refl
take_all_tame (row ∷ rows) = take_all_tame rows

names_tame : (names : List Bytes) → Tame (map Names names)
names_tame [] = refl
names_tame (name ∷ names) = names_tame names

pub unnames_tame : (names : List Bytes) → Tame (map Unnames names)
unnames_tame [] = refl
unnames_tame (name ∷ names) = unnames_tame names

trims_tame : (rows : List Row) → Tame (map (λ row. Moves (Trim row)) rows)
trims_tame [] = refl
trims_tame (row ∷ rows) = trims_tame rows

pub move_row_tame : (found : Option Row) (from to : Side) (place : Place) → Calm (move_row found from place to)
move_row_tame None from to place = (calm refl)
move_row_tame (Some row) from to place = (calm refl)

pub edit_queue_tame : (w : World) (queue : Bytes) (e : WriteOp) → Calm (edit_queue w queue e)
edit_queue_tame w queue (edit.Push side texts) = tame_cond (is_full w texts) _ _ (calm refl) (calm (pushes_tame side (Queue queue) texts))
edit_queue_tame w queue (edit.Lrem count text) = calm (takes_tame (number_taken count (copies_of (row_at (Queue queue) text) w.rows)) (row_at (Queue queue) text) (end_taken count))
edit_queue_tame w queue other = (calm refl)

pub edit_names_tame : (w : World) (e : WriteOp) → Calm (edit_names w e)
edit_names_tame w (edit.Sadd names) = tame_cond (list_all (is_name 255) names) _ _ (calm (names_tame names)) (calm refl)
edit_names_tame w other = (calm refl)

-- ## Firings

push_to_tame : (from : Origin) (text : Bytes) (found : Option Head) → Tame (push_to from text found)
push_to_tame from text None = refl
push_to_tame from text (Some h) = refl

push_job_tame : (from : Origin) (text : Bytes) → Tame (push_job from text)
push_job_tame from text = push_to_tame from text (head text)

push_callback_tame : (callback : Option Bytes) → Tame (push_callback callback)
push_callback_tame None = refl
push_callback_tame (Some text) = push_job_tame Inner text

fire_all_tame : (firings : List Firing) → Tame (fire_all firings)
fire_all_tame [] = refl
fire_all_tame (f ∷ firings) = tame_append (push_callback f.payload) (fire_all firings) (push_callback_tame f.payload) (fire_all_tame firings)

notify_in_tame : (event : Event) (w : World) (jid : Bytes) (bid : Option Bytes) → Tame (notify_in event w jid bid).changes
notify_in_tame event w jid None = refl
notify_in_tame event w jid (Some bid) = fire_all_tame (fires_of event bid jid w.batches)

notify_of_tame : (event : Event) (w : World) (found : Option Head) → Tame (notify_of event w found).changes
notify_of_tame event w None = refl
notify_of_tame event w (Some h) = notify_in_tame event w h.jid h.bid

notify_tame : (event : Event) (w : World) (text : Bytes) → Tame (notify event w text).changes
notify_tame event w text = notify_of_tame event w (head text)

-- ## Sets

merge_tame : (found : Option Row) → Tame (merge found)
merge_tame None = refl
merge_tame (Some row) = refl

put_dead_tame : (w : World) (row : Row) → Tame (put_dead w row)
put_dead_tame w row = tame_append (merge (row_of row.text (rows_at (Set Dead) w.rows))) (Moves (Carry row Left (Set Dead) (moment_score w) Left) ∷ []) (merge_tame (row_of row.text (rows_at (Set Dead) w.rows))) refl

buried_by_tame : (w : World) (text : Bytes) (put : List Change) → Tame put → Tame (buried_by w text put).changes
buried_by_tame w text put p =
    let after_ : World = perform w put in
    let gone : List Row = surplus after_ (rows_at (Set Dead) after_.rows) in
    let trims : List Change = map (λ row. Moves (Trim row)) gone in
    tame_append (put ++ trims) (notify Died (perform w (put ++ trims)) text).changes (tame_append put trims p (trims_tame gone)) (notify_tame Died (perform w (put ++ trims)) text)

bury_tame : (w : World) (row : Row) → Tame (bury w row).changes
bury_tame w row = buried_by_tame w row.text (put_dead w row) (put_dead_tame w row)

promote_tame : (w : World) (row : Row) (found : Option Head) → Tame (promote w row found).changes
promote_tame w row None = bury_tame w row
promote_tame w row (Some h) = refl

each_tame : (way : World → Row → Option Head → Routed) → ((w : World) (row : Row) (found : Option Head) → Tame (way w row found).changes) → (w : World) (rows : List Row)
    → Tame (each way w rows).changes
each_tame way t w [] = refl
each_tame way t w (row ∷ rows) =
    tame_append (way w row (head row.text)).changes (each way (perform w (way w row (head row.text)).changes) rows).changes (t w row (head row.text))
    (each_tame way t (perform w (way w row (head row.text)).changes) rows)

kill_row_tame : (w : World) (found : Option Row) → Calm (kill_row w found)
kill_row_tame w None = (calm refl)
kill_row_tame w (Some row) = calm (bury_tame w row)

revive_as_tame : (row : Row) (found : Option Head) → Calm (revive_as row found)
revive_as_tame row None = (calm refl)
revive_as_tame row (Some h) = (calm refl)

revive_row_tame : (found : Option Row) → Calm (revive_row found)
revive_row_tame None = (calm refl)
revive_row_tame (Some row) = revive_as_tame row (head row.text)

add_as_tame : (set : Scored) (pair : Pair) (found : Option Row) → is_tame (add_as set pair found) ≡ true
add_as_tame set pair None = refl
add_as_tame set pair (Some row) = refl

add_each_tame : (w : World) (set : Scored) (pairs : List Pair) → Tame (add_each w set pairs)
add_each_tame w set [] = refl
add_each_tame w set (pair ∷ pairs) =
    both (is_tame (add_one w set pair)) (list_all is_tame (add_each (changed w (add_one w set pair)) set pairs)) (add_as_tame set pair (row_of pair.1 (rows_at (Set set) w.rows)))
    (add_each_tame (changed w (add_one w set pair)) set pairs)

add_to_tame : (w : World) (pairs : List Pair) (set : Scored) → Calm (add_to w pairs set)
add_to_tame w pairs Schedule = tame_cond (is_full w (map (λ pair. pair.1) pairs)) _ _ (calm refl) (calm (add_each_tame w Schedule pairs))
add_to_tame w pairs Retry = (calm refl)
add_to_tame w pairs Dead = (calm refl)

pub edit_jobs_tame : (w : World) (set : Scored) (e : WriteOp) → Calm (edit_jobs w set e)
edit_jobs_tame w set (edit.Zadd pairs) = add_to_tame w pairs set
edit_jobs_tame w set (edit.Zrem members) = calm (take_all_tame (filter (λ row. is_member row.text members) (rows_at (Set set) w.rows)))
edit_jobs_tame w set (edit.Zremrangebyrank first last) = calm (take_all_tame (range_of first last (rows_at (Set set) w.rows)))
edit_jobs_tame w set (edit.Zremrangebyscore least greatest) = calm (take_all_tame (filter (λ row. is_between least greatest (pair_of row)) (rows_at (Set set) w.rows)))
edit_jobs_tame w set other = (calm refl)

put_as_tame : (set : Scored) (pair : Pair) (found : Option Row) → is_tame (put_as set pair found) ≡ true
put_as_tame set pair None = refl
put_as_tame set pair (Some row) = refl

-- ## Rescue

routed_cond : (b : Bool) (x y : Routed) → Tame x.changes → Tame y.changes → Tame (cond b x y).changes
routed_cond true x y p q = p
routed_cond false x y p q = q

recover_tame : (w : World) (row : Row) (h : Head) → Tame (recover w row h).changes
recover_tame w row h = routed_cond (is_poison w h.jid) _ _ (tame_append (bury w row).changes (Forgets h.jid ∷ []) (bury_tame w row) refl) refl

rescue_row_tame : (w : World) (row : Row) (found : Option Head) → Tame (rescue_row w row found).changes
rescue_row_tame w row None = bury_tame w row
rescue_row_tame w row (Some h) = recover_tame (changed w (Recovers h.jid)) row h

-- ## Unique jobs

unlocks_at_tame : (end : Until) (h : Head) (lock : Option Lock) → Tame (unlocks_at end h lock)
unlocks_at_tame end h None = refl
unlocks_at_tame end h (Some lock) = tame_if (is_until end lock.until) _ _ refl refl

unlocks_of_tame : (end : Until) (found : Option Head) → Tame (unlocks_of end found)
unlocks_of_tame end None = refl
unlocks_of_tame end (Some h) = unlocks_at_tame end h h.lock

unlocks_tame : (end : Until) (text : Bytes) → Tame (unlocks end text)
unlocks_tame end text = unlocks_of_tame end (head text)

push_or_schedule_tame : (w : World) (text : Bytes) (score : Option ℤ) → Tame (push_or_schedule w text score)
push_or_schedule_tame w text None = push_job_tame Outside text
push_or_schedule_tame w text (Some score) =
    both (is_tame (add_one w Schedule (score, text))) true (add_as_tame Schedule (score, text) (row_of text (rows_at (Set Schedule) w.rows))) refl

or_holder_tame : (found : Option Bytes) (o : Outcome) → Calm o → Calm (or_holder found o)
or_holder_tame None o p = p
or_holder_tame (Some jid) o p = (calm refl)

unique_push_of_tame : (w : World) (text : Bytes) (score : Option ℤ) (h : Head) (lock : Option Lock) (bid : Option Bytes) → Calm (unique_push_of w text score h lock bid)
unique_push_of_tame w text score h None bid = (calm refl)
unique_push_of_tame w text score h (Some lock) None =
    tame_cond (is_full w (text ∷ [])) _ _ (calm refl) (or_holder_tame (holder_at (digest h) w.moment w.leases) (push_locked w h lock text score) (calm (push_or_schedule_tame w text score)))
unique_push_of_tame w text score h (Some lock) (Some bid) = (calm refl)

unique_push_by_tame : (w : World) (text : Bytes) (score : Option ℤ) (found : Option Head) → Calm (unique_push_by w text score found)
unique_push_by_tame w text score None = (calm refl)
unique_push_by_tame w text score (Some h) = unique_push_of_tame w text score h h.lock h.bid

-- ## The leader and periodic jobs

lead_tame : (w : World) (ident : Bytes) → Calm (lead w ident)
lead_tame w ident = tame_cond (is_process w ident) _ _ (tame_cond (is_led_by_another ident w.moment w.leases) _ _ (calm refl) (calm refl)) (calm refl)

cron_tame : (w : World) (ident loop : Bytes) (slot : ℕ) (text : Bytes) → Calm (cron w ident loop slot text)
cron_tame w ident loop slot text =
    tame_cond (not (is_process w ident)) _ _ (calm refl)
    (tame_cond (not (may_call (head text) && is_name 255 loop)) _ _ (calm refl)
    (tame_cond (not (leads ident w.moment w.leases)) _ _ (calm refl)
    (tame_cond (not (is_above slot (last loop w.leases))) _ _ (calm refl)
    (tame_cond (not (is_in_time w slot)) _ _ (calm refl)
    (tame_cond (not (has_loop w loop)) _ _ (calm refl)
    (tame_cond (is_full w (text ∷ [])) _ _ (calm refl) (calm (push_job_tame Inner text))))))))

-- ## Batches

push_jobs_tame : (texts : List Bytes) → Tame (push_jobs texts)
push_jobs_tame [] = refl
push_jobs_tame (text ∷ texts) = tame_append (push_job Outside text) (push_jobs texts) (push_job_tame Outside text) (push_jobs_tame texts)

unless_tame : (fault : Option BatchFault) (o : Outcome) → Calm o → Calm (unless fault o)
unless_tame None o p = p
unless_tame (Some f) o p = (calm refl)

batch_push_tame : (w : World) (batch : Batch) (texts : List Bytes) → Calm (batch_push w batch texts)
batch_push_tame w batch texts =
    tame_cond (not (is_name 64 batch.bid)) _ _ (calm refl)
    (unless_tame (bid_fault batch.bid batch.parent w.batches None) _
    (tame_cond (not (are_callbacks batch.callbacks && all_may_join batch.bid texts)) _ _ (calm refl)
    (unless_tame (jids_fault batch.bid (jids_of texts) w.batches (breaks (is_full_of w.batches) fault.Full None)) _
    (tame_cond (is_too_much w texts) _ _ (calm refl)
    (calm (tame_append (push_jobs texts) (fire_all (made_fires batch (jids_of texts))) (push_jobs_tame texts) (fire_all_tame (made_fires batch (jids_of texts)))))))))

batch_add_tame : (w : World) (bid : Bytes) (texts : List Bytes) → Calm (batch_add w bid texts)
batch_add_tame w bid texts =
    unless_tame (batch_fault bid w.batches None) _
    (tame_cond (not (all_may_join bid texts)) _ _ (calm refl)
    (unless_tame (jids_fault bid (jids_of texts) w.batches None) _ (tame_cond (is_too_much w texts) _ _ (calm refl) (calm (push_jobs_tame texts)))))

stat_tame : (found : Option BatchStat) → Calm (tells_stat found)
stat_tame None = (calm refl)
stat_tame (Some s) = (calm refl)

-- ## Workers

where_plain_tame : (phase : Phase) (o : Outcome) → Calm o → Calm (where_plain phase o)
where_plain_tame Plain o p = p
where_plain_tame (Joined ident works) o p = (calm refl)

where_some_tame : (phase : Phase) (test : Work → Bool) (o : Bytes → Outcome) → ((ident : Bytes) → Calm (o ident)) → Calm (where_some phase test o)
where_some_tame Plain test o p = (calm refl)
where_some_tame (Joined ident works) test o p = tame_cond (list_any test works) (o ident) _ (p ident) (calm refl)

where_held_tame : (phase : Phase) (text : Bytes) (o : Bytes → Outcome) → ((ident : Bytes) → Calm (o ident)) → Calm (where_held phase text o)
where_held_tame phase text o p = where_some_tame phase (is_held_as text) o p

and_notify_tame : (event : Event) (w : World) (text : Bytes) (changes : List Change) → Tame changes → Calm (and_notify event w text changes)
and_notify_tame event w text changes p = calm (tame_append changes (notify event (perform w changes) text).changes p (notify_tame event (perform w changes) text))

and_unlock_tame : (text : Bytes) (o : Outcome) → Calm o → Calm (and_unlock text o)
and_unlock_tame text o p = calm (tame_append o.changes (unlocks Success text) p.tame (unlocks_tame Success text))

fetch_row_tame : (seat : ℕ) (phase : Phase) (ident : Bytes) (found : Option Row) → Calm (fetch_row seat phase ident found)
fetch_row_tame seat phase ident None = (calm refl)
fetch_row_tame seat phase ident (Some row) = (calm refl)

fetch_tame : (w : World) (seat : ℕ) (phase : Phase) (ident : Bytes) (queue : Option Bytes) → Calm (fetch w seat phase ident queue)
fetch_tame w seat phase ident None = (calm refl)
fetch_tame w seat phase ident (Some queue) = tame_cond (nat_lt (length (works_of phase)) most_works) _ _ (fetch_row_tame seat phase ident (row_at_end Right (Queue queue) w.rows)) (calm refl)

release_of_tame : (w : World) (seat : ℕ) (phase : Phase) (ident : Bytes) (text : Option Bytes) → Calm (release_of w seat phase ident text)
release_of_tame w seat phase ident None = (calm refl)
release_of_tame w seat phase ident (Some text) = tame_cond (list_any (is_done_as text) (works_of phase)) _ _ (calm refl) (calm refl)

give_row_tame : (seat : ℕ) (phase : Phase) (h : Head) (found : Option Row) → Calm (give_row seat phase h found)
give_row_tame seat phase h None = (calm refl)
give_row_tame seat phase h (Some row) = (calm refl)

give_tame : (w : World) (seat : ℕ) (phase : Phase) (ident text : Bytes) (found : Option Head) → Calm (give w seat phase ident text found)
give_tame w seat phase ident text None = (calm refl)
give_tame w seat phase ident text (Some h) = give_row_tame seat _ h (listed w ident text)

retry_tame : (w : World) (seat : ℕ) (phase : Phase) (pair : Option Pair) → Calm (retry w seat phase pair)
retry_tame w seat phase None = (calm refl)
retry_tame w seat phase (Some pair) =
    tame_cond (list_any (is_retried_as pair.1) (works_of phase)) _ _ (calm (both (is_tame (put_back w Retry pair)) true (put_as_tame Retry pair (row_of pair.1 (rows_at (Set Retry) w.rows))) refl)) (calm refl)

bury_text_tame : (w : World) (seat : ℕ) (phase : Phase) (text : Bytes) → Tame (bury_text w seat phase text).changes
bury_text_tame w seat phase text =
    buried_by_tame w text (put_back w Dead (moment_score w, text) ∷ Turns seat (staging (is_buried_as text) Put phase) ∷ []) (both (is_tame (put_back w Dead (moment_score w, text))) true (put_as_tame Dead (moment_score w, text) (row_of text (rows_at (Set Dead) w.rows))) refl)

work_edit_tame : (w : World) (seat : ℕ) (phase : Phase) (ident key : Bytes) (e : WriteOp) → Calm (work_edit w seat phase ident key e)
work_edit_tame w seat phase ident key (edit.Zadd pairs) = retry_tame w seat phase (only pairs)
work_edit_tame w seat phase ident key other = release_of_tame w seat phase ident (released_by ident key other)

work_as_tame : (w : World) (seat : ℕ) (phase : Phase) (ident : Bytes) (a : Action) → Calm (work_as w seat phase ident a)
work_as_tame w seat phase ident (action.WriteOp key e) = work_edit_tame w seat phase ident key e
work_as_tame w seat phase ident other = fetch_tame w seat phase ident (fetched_from ident other)

pub work_tame : (w : World) (seat : ℕ) (phase : Phase) (a : Action) → Calm (work w seat phase a)
work_tame w seat Plain a = (calm refl)
work_tame w seat (Joined ident works) a = work_as_tame w seat (Joined ident works) ident a

-- ## The commands of the store's own

pub run_tame : (w : World) (seat : ℕ) (phase : Phase) (c : ScriptCommand) → Calm (run w seat phase c)
run_tame w seat phase (script.Beat ident) = tame_cond (is_name 255 ident) _ _ (calm refl) (calm refl)
run_tame w seat phase (script.Join ident) = where_plain_tame phase _ (tame_cond (is_name 255 ident && is_alive ident w.moment w.leases) _ _ (calm refl) (calm refl))
run_tame w seat phase (script.Start text) = where_held_tame phase text _ (λ ident. calm (unlocks_tame Start text))
run_tame w seat phase (script.Ok text) =
    let changes : List Change = Turns seat (staging (is_held_as text) (Settled end.Returned) phase) ∷ Counts processed ∷ [] in
    where_held_tame phase text (λ ident. and_unlock text (and_notify Returned w text changes))
    (λ ident. and_unlock_tame text (and_notify Returned w text changes) (and_notify_tame Returned w text changes refl))
run_tame w seat phase (script.Fail text) =
    let changes : List Change = Counts processed ∷ Counts failed ∷ [] in
    where_held_tame phase text (λ ident. and_notify Reported w text changes) (λ ident. and_notify_tame Reported w text changes refl)
run_tame w seat phase (script.Drop text) = where_held_tame phase text _ (λ ident. (calm refl))
run_tame w seat phase (script.Bury text) = where_some_tame phase (is_buried_as text) _ (λ ident. calm (bury_text_tame w seat phase text))
run_tame w seat phase (script.Back text) = where_held_tame phase text _ (λ ident. give_tame w seat phase ident text (head text))
run_tame w seat phase (script.Due set limit) = where_plain_tame phase _ (calm (each_tame promote promote_tame w (due_rows w set (nat_abs limit))))
run_tame w seat phase (script.Revive set text) = where_plain_tame phase _ (revive_row_tame (row_of text (rows_at (Set set) w.rows)))
run_tame w seat phase (script.Kill set text) = where_plain_tame phase _ (kill_row_tame w (row_of text (waiting_rows w set)))
run_tame w seat phase script.Rescue = where_plain_tame phase _ (calm (each_tame rescue_row rescue_row_tame w (left_rows w)))
run_tame w seat phase (script.Upush text score) = unique_push_by_tame w text score (head text)
run_tame w seat phase (script.Bpush bid parent complete success death texts) = batch_push_tame w (batch_of bid parent complete success death) texts
run_tame w seat phase (script.Badd bid texts) = batch_add_tame w bid texts
run_tame w seat phase (script.Bstat bid) = stat_tame (stat bid w.batches)
run_tame w seat phase (script.Lead ident) = where_plain_tame phase _ (lead_tame w ident)
run_tame w seat phase (script.Cron ident loop slot text) = where_plain_tame phase _ (cron_tame w ident loop (nat_abs slot) text)
run_tame w seat phase (script.Where jid) = (calm refl)
run_tame w seat phase script.Status = (calm refl)
