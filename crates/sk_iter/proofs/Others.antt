-- An event that may not write a plain key leaves what stands there, where it has no deadline.
use Rattle.std.proofs.Common.{◌≡◌, ◌∙◌, inl, inr, ◌==◌, ◌&&◌, ◌||◌, ◌++◌, ◌∷◌, [], ℕ, zero, suc, Bool, true, false, cond, not, List, map, length, refl, sym, ap, subst, Option, Some, None, Ok, Err, bytes_eq, is_some}
use Rattle.std.specs.Prelude.{ℤ, filter, nat_abs, nat_lt}
use Rattle.std.specs.List.{list_all, list_any}
use Rattle.std.specs.Ordering.{is_eq}
use Rattle.std.proofs.lemmas.Cmp.{nat_list_cmp_total}
use Rattle.std.proofs.lemmas.List.Folds.{list_all-append}
use Rattle.std.proofs.lemmas.Map.Text.{is_eq-slice_cmp}
use Rattle.std.proofs.lemmas.Slice.Eq.{bytes_eq-Decides}
use Rattle.sk_resp.specs.Spelling.{Bytes}
use Rattle.sk_resp.specs.WordOrder.{text_cmp}
use Rattle.sk_cmd.specs.Reading.{Read}
use Rattle.sk_cmd.specs.Table.{IsRead}
use Rattle.sk_cmd.specs.declared.argument.Scored.{Scored}
use Rattle.sk_cmd.specs.declared.argument.Scored.TheVariants.{Schedule, Retry, Dead}
use Rattle.sk_cmd.specs.declared.argument.Side.{Side}
use Rattle.sk_cmd.specs.declared.argument.Side.TheVariants.{Left, Right}
use Rattle.sk_cmd.specs.declared.command.Command.{Command}
use Rattle.sk_cmd.specs.declared.command.Command.TheVariants as command
use Rattle.sk_cmd.specs.declared.command.PlainCommand.{PlainCommand}
use Rattle.sk_cmd.specs.declared.command.ScriptCommand.{ScriptCommand}
use Rattle.sk_cmd.specs.declared.command.ScriptCommand.TheVariants as script
use Rattle.sk_payload.specs.Head.{head}
use Rattle.sk_payload.specs.Member.{is_name}
use Rattle.sk_payload.specs.declared.head.Head.{Head}
use Rattle.sk_payload.specs.declared.head.Lock.{Lock}
use Rattle.sk_payload.specs.declared.head.Until.{Until}
use Rattle.sk_value.specs.Action.{action_of}
use Rattle.sk_value.specs.Apply.{Applied, Change as KeyChange, Stays, Goes, Becomes, applied, carry, deadline_at, list_at, move_keys, move_list, put_list, turn_list}
use Rattle.sk_value.specs.Apply.{changed as key_changed}
use Rattle.sk_value.specs.Keys.{Keys, at, put, without, without_all}
use Rattle.sk_value.specs.declared.action.Action.{Action}
use Rattle.sk_value.specs.declared.action.Action.TheVariants as action
use Rattle.sk_value.specs.declared.entry.Entry.{Entry}
use Rattle.sk_value.specs.declared.write_op.WriteOp.{WriteOp}
use Rattle.sk_value.specs.declared.write_op.WriteOp.TheVariants as edit
use Rattle.sk_key.specs.Class.{class_of, is_plain, is_queue, queue_of}
use Rattle.sk_key.specs.declared.key_class.KeyClass.{KeyClass}
use Rattle.sk_key.specs.declared.key_class.KeyClass.TheVariants as class
use Rattle.sk_batch.proofs.Indexed.{lookup_put}
use Rattle.sk_batch.specs.declared.batch.Batch.{Batch}
use Rattle.sk_batch.specs.declared.batch_fault.BatchFault.{BatchFault}
use Rattle.sk_batch.specs.declared.batch_stat.BatchStat.{BatchStat}
use Rattle.sk_batch.specs.declared.event.Event.{Event as BatchEvent}
use Rattle.sk_batch.specs.declared.firing.Firing.{Firing}
use Rattle.sk_batch.specs.Events.{made_fires}
use Rattle.sk_batch.specs.Notify.{fires_of}
use Rattle.sk_batch.specs.Faults.{batch_fault, bid_fault, breaks, jids_fault}
use Rattle.sk_batch.specs.Faults.{is_full as is_batch_full}
use Rattle.sk_batch.specs.Stat.{stat}
use Rattle.sk_batch.specs.declared.batch_fault.BatchFault.TheVariants as fault
use Rattle.sk_batch.specs.declared.event.Event.TheVariants as event
use Rattle.sk_batch.specs.declared.event.Event.TheVariants.{Died}
use Rattle.sk_leases.specs.Leased.{holder_at, is_alive, is_led_by_another, last, leads}
use Rattle.sk_payload.specs.Digest.{digest}
use Rattle.sk_payload.specs.declared.head.Until.TheVariants as until
use Rattle.sk_counters.specs.Counters.{failed, processed}
use Rattle.sk_resp.specs.WordOrder.{is_member}
use Rattle.sk_seats.specs.Phases.{releasing, staging, works_of}
use Rattle.sk_seats.specs.declared.work.End.TheVariants as end
use Rattle.sk_value.specs.Lists.{range_of, take_one}
use Rattle.sk_zset.specs.Bounds.{is_between}
use Rattle.sk_places.specs.Rows.{copies_of, end_taken, number_taken, pair_of, row_at, row_at_end, row_of, rows_at}
use Rattle.sk_places.specs.declared.origin.Origin.TheVariants.{Inner, Outside}
use Rattle.sk_places.specs.declared.row.Place.TheVariants.{Queue, Set}
use Rattle.sk_places.specs.declared.origin.Origin.{Origin}
use Rattle.sk_places.specs.declared.row.Place.{Place}
use Rattle.sk_places.specs.declared.row.Row.{Row}
use Rattle.sk_seats.specs.Works.{first, is_buried_as, is_done_as, is_held_as, is_retried_as, most_works}
use Rattle.sk_seats.specs.declared.phase.Phase.{Phase}
use Rattle.sk_seats.specs.declared.phase.Phase.TheVariants.{Plain, Joined}
use Rattle.sk_seats.specs.declared.work.Stage.{Stage}
use Rattle.sk_seats.specs.declared.work.Stage.TheVariants.{Held, Put, Settled}
use Rattle.sk_seats.specs.declared.work.Work.{Work}
use Rattle.sk_zset.specs.Pair.{Pair}
use Rattle.sk_model.proofs.Changes.Fired.{perform-append}
use Rattle.sk_model.specs.Batches.{all_may_join, are_callbacks, batch_add, batch_of, batch_push, jids_of, may_call, push_jobs, tells_stat, unless}
use Rattle.sk_model.specs.Change.{Add, Carry, Take, Trim, Merge, PutBack, Free, Fire, Change, Move, Moves, Passes, Names, Unnames, Keeps, Turns, Beats, Counts, Recovers, Forgets, Locks, Unlocks, Elects, TakesSlot, Makes, Joins, Notifies, changed, freed, freed_at, freed_work, moved, perform}
use Rattle.sk_model.specs.Deletes.{delete, delete_as, delete_each, may_go, take_all}
use Rattle.sk_model.specs.Event.{Ask, Cut, Event, Happens, ResultsIn}
use Rattle.sk_model.specs.Jobs.{Routed, buried_by, bury, due, due_rows, each, kill, kill_row, merge, moment_score, promote, put_dead, revive, revive_as, revive_row, surplus, to_queue, waiting_rows}
use Rattle.sk_model.specs.Notify.{and_notify, fire_all, notify, notify_in, notify_of, push_callback, push_to}
use Rattle.sk_model.specs.Outcome.{Outcome}
use Rattle.sk_model.specs.Periodic.{cron, has_loop, is_above, is_in_time, is_process, lead}
use Rattle.sk_model.specs.Room.{is_full, is_too_much}
use Rattle.sk_model.specs.Queues.{move_row, pushes, takes}
use Rattle.sk_model.specs.Rescue.{bury_poison, is_poison, left_rows, recover, rescue, rescue_row}
use Rattle.sk_model.specs.Seats.{fetched_from, is_open_to_all, is_worker_action, only, released_by, where_plain, where_some}
use Rattle.sk_model.specs.Sets.{add_as, add_each, add_one, add_to, edit_jobs, put_as, put_back}
use Rattle.sk_model.specs.Step.{MayComeTo, act, by_seat, edit_names, edit_queue, edits, moves, on_keys, on_plain, outcome, run}
use Rattle.sk_model.specs.Unique.{is_until, or_holder, push_locked, push_or_schedule, unique_push_by, unique_push_of, unlocks, unlocks_at, unlocks_of}
use Rattle.sk_model.specs.Workers.{fetch, fetch_row, give, give_row, listed, release_of, retry, work, work_as, work_edit}
use Rattle.sk_model.specs.World.{World, phase_of}
use Rattle.sk_seats.specs.Phases.{is_plain as is_plain_seat}
use Rattle.sk_iter.specs.Writes.{IsOther, may_write, writes}
use Rattle.sk_iter.proofs.Store.{Endless, at_purged}

-- ## Changes that leave the plain keys

abbrev is_tame : Change → Bool
is_tame (Keeps keys) = false
is_tame other = true

record Tame (changes : List Change) : Type 0 where
  is : list_all is_tame changes ≡ true

both : (a b : Bool) → a ≡ true → b ≡ true → (a && b) ≡ true
both a b e f = ap (λ x. x && b) e ∙ f

parts : (a b : Bool) → (a && b) ≡ true → (a ≡ true) × (b ≡ true)
parts true b e = (refl, e)
parts false b e = absurd (cc e)

tame_append : (xs ys : List Change) → Tame xs → Tame ys → Tame (xs ++ ys)
tame_append xs ys p q = record { is = list_all-append is_tame xs ys ∙ both (list_all is_tame xs) (list_all is_tame ys) p.is q.is }

tame_cons : (change : Change) (changes : List Change) → is_tame change ≡ true → Tame changes → Tame (change ∷ changes)
tame_cons change changes e t = record { is = both (is_tame change) (list_all is_tame changes) e t.is }

tame_none : Tame []
tame_none = record { is = refl }

freed_at_keys : (stage : Stage) (ident text : Bytes) (w : World) → (freed_at stage ident text w).keys ≡ w.keys
freed_at_keys Held ident text w = refl
freed_at_keys Put ident text w = refl
freed_at_keys (Settled end) ident text w = refl

freed_work_keys : (ident : Bytes) (w : World) (o : Option Work) → (freed_work ident w o).keys ≡ w.keys
freed_work_keys ident w None = refl
freed_work_keys ident w (Some work) = freed_at_keys work.stage ident work.payload w

freed_keys : (text : Bytes) (w : World) (phase : Phase) → (freed text w phase).keys ≡ w.keys
freed_keys text w Plain = refl
freed_keys text w (Joined ident works) = freed_work_keys ident w _

moved_keys : (w : World) (move : Move) → (moved w move).keys ≡ w.keys
moved_keys w (Add row end from) = refl
moved_keys w (Carry row from to score end) = refl
moved_keys w (Take row from) = refl
moved_keys w (Trim row) = refl
moved_keys w (Merge row) = refl
moved_keys w (PutBack row) = refl
moved_keys w (Free seat text) = freed_keys text w (phase_of w seat)
moved_keys w (Fire bid kind) = refl

-- What stands under the key, without a deadline, stands behind the changes.
abbrev Spares : Bytes → World → List Change → Type 0
Spares key w changes = (x : Option Entry) → at key w.keys ≡ x → Endless x → at key (perform w changes).keys ≡ x

tame_one : (key : Bytes) (w : World) (change : Change) → is_tame change ≡ true → (x : Option Entry) → at key w.keys ≡ x → Endless x → at key (changed w change).keys ≡ x
tame_one key w (Moves move) t x is endless = ap (at key) (moved_keys w move) ∙ is
tame_one key w (Passes now_) t x is endless = at_purged _ key w.keys x is endless
tame_one key w (Names queue) t x is endless = is
tame_one key w (Unnames queue) t x is endless = is
tame_one key w (Keeps keys) t x is endless = absurd (cc t)
tame_one key w (Turns seat phase) t x is endless = is
tame_one key w (Beats ident) t x is endless = is
tame_one key w (Counts name) t x is endless = is
tame_one key w (Recovers jid) t x is endless = is
tame_one key w (Forgets jid) t x is endless = is
tame_one key w (Locks digest jid seconds) t x is endless = is
tame_one key w (Unlocks digest jid) t x is endless = is
tame_one key w (Elects ident) t x is endless = is
tame_one key w (TakesSlot loop slot text) t x is endless = is
tame_one key w (Makes batch jids) t x is endless = is
tame_one key w (Joins bid jids) t x is endless = is
tame_one key w (Notifies event bid jid) t x is endless = is

spares : (key : Bytes) (w : World) (changes : List Change) → Tame changes → Spares key w changes
spares key w [] t x is endless = is
spares key w (change ∷ changes) t x is endless =
    let p = parts (is_tame change) (list_all is_tame changes) t.is in
    spares key (changed w change) changes (record { is = p.1 }) x (tame_one key w change p.0 x is endless) endless

spares_append : (key : Bytes) (w : World) (one more : List Change) → Spares key w one → Spares key (perform w one) more → Spares key w (one ++ more)
spares_append key w one more p q x is endless = ap (λ (v : World). at key v.keys) (perform-append w one more) ∙ q x (p x is endless) endless

-- ## The commands on queues and sets

tame_cond : (b : Bool) (o p : Outcome) → Tame o.changes → Tame p.changes → Tame (cond b o p).changes
tame_cond true o p s t = s
tame_cond false o p s t = t

tame_pushes : (end : Side) (place : Place) (texts : List Bytes) → Tame (pushes end place texts)
tame_pushes end place [] = record { is = refl }
tame_pushes end place (text ∷ texts) = tame_cons _ _ refl (tame_pushes end place texts)

tame_takes : (n : ℕ) (row : Row) (end : Side) → Tame (takes n row end)
tame_takes zero row end = record { is = refl }
tame_takes (suc n) row end = tame_cons _ _ refl (tame_takes n row end)

tame_move_row : (found : Option Row) (from : Side) (to : Place) (end : Side) → Tame (move_row found from to end).changes
tame_move_row None from to end = record { is = refl }
tame_move_row (Some row) from to end = record { is = refl }

tame_map : {A : Type 0} (f : A → Change) (xs : List A) → ((x : A) → is_tame (f x) ≡ true) → Tame (map f xs)
tame_map f [] t = record { is = refl }
tame_map f (x ∷ xs) t = tame_cons (f x) (map f xs) (t x) (tame_map f xs t)

tame_add_as : (set : Scored) (pair : Pair) (found : Option Row) → is_tame (add_as set pair found) ≡ true
tame_add_as set pair None = refl
tame_add_as set pair (Some row) = refl

tame_put_as : (set : Scored) (pair : Pair) (found : Option Row) → is_tame (put_as set pair found) ≡ true
tame_put_as set pair None = refl
tame_put_as set pair (Some row) = refl

tame_add_each : (w : World) (set : Scored) (pairs : List Pair) → Tame (add_each w set pairs)
tame_add_each w set [] = record { is = refl }
tame_add_each w set (pair ∷ pairs) =
    tame_cons (add_one w set pair) (add_each (changed w (add_one w set pair)) set pairs) (tame_add_as set pair (row_of pair.1 (rows_at (Set set) w.rows))) (tame_add_each (changed w (add_one w set pair)) set pairs)

tame_add_to : (w : World) (pairs : List Pair) (set : Scored) → Tame (add_to w pairs set).changes
tame_add_to w pairs Schedule = tame_cond (is_full w (map (λ pair. pair.1) pairs)) _ _ tame_none (tame_add_each w Schedule pairs)
tame_add_to w pairs Retry = record { is = refl }
tame_add_to w pairs Dead = record { is = refl }

tame_take_all : (rows : List Row) → Tame (take_all rows)
tame_take_all rows = tame_map (λ row. Moves (Take row Left)) rows (λ row. refl)

tame_edit_jobs : (w : World) (set : Scored) (e : WriteOp) → Tame (edit_jobs w set e).changes
tame_edit_jobs w set (edit.Zadd pairs) = tame_add_to w pairs set
tame_edit_jobs w set (edit.Zrem members) = tame_take_all (filter (λ row. is_member row.text members) (rows_at (Set set) w.rows))
tame_edit_jobs w set (edit.Zremrangebyrank first last) = tame_take_all (range_of first last (rows_at (Set set) w.rows))
tame_edit_jobs w set (edit.Zremrangebyscore least greatest) = tame_take_all (filter (λ row. is_between least greatest (pair_of row)) (rows_at (Set set) w.rows))
tame_edit_jobs w set (edit.Incrby n) = record { is = refl }
tame_edit_jobs w set (edit.Push side texts) = record { is = refl }
tame_edit_jobs w set (edit.Lrem count text) = record { is = refl }
tame_edit_jobs w set (edit.Sadd members) = record { is = refl }
tame_edit_jobs w set (edit.Srem members) = record { is = refl }
tame_edit_jobs w set (edit.Hset pairs) = record { is = refl }
tame_edit_jobs w set (edit.Hdel fields) = record { is = refl }

tame_edit_queue : (w : World) (queue : Bytes) (e : WriteOp) → Tame (edit_queue w queue e).changes
tame_edit_queue w queue (edit.Push side texts) = tame_cond (is_full w texts) _ _ tame_none (tame_pushes side (Queue queue) texts)
tame_edit_queue w queue (edit.Lrem count text) = tame_takes (number_taken count (copies_of (row_at (Queue queue) text) w.rows)) (row_at (Queue queue) text) (end_taken count)
tame_edit_queue w queue (edit.Incrby n) = record { is = refl }
tame_edit_queue w queue (edit.Sadd members) = record { is = refl }
tame_edit_queue w queue (edit.Srem members) = record { is = refl }
tame_edit_queue w queue (edit.Hset pairs) = record { is = refl }
tame_edit_queue w queue (edit.Hdel fields) = record { is = refl }
tame_edit_queue w queue (edit.Zadd scores) = record { is = refl }
tame_edit_queue w queue (edit.Zrem members) = record { is = refl }
tame_edit_queue w queue (edit.Zremrangebyrank first last) = record { is = refl }
tame_edit_queue w queue (edit.Zremrangebyscore least greatest) = record { is = refl }

tame_edit_names : (w : World) (e : WriteOp) → Tame (edit_names w e).changes
tame_edit_names w (edit.Sadd names) = tame_cond (list_all (is_name 255) names) _ _ (tame_map Names names (λ n. refl)) tame_none
tame_edit_names w (edit.Push side texts) = record { is = refl }
tame_edit_names w (edit.Lrem count text) = record { is = refl }
tame_edit_names w (edit.Incrby n) = record { is = refl }
tame_edit_names w (edit.Srem members) = record { is = refl }
tame_edit_names w (edit.Hset pairs) = record { is = refl }
tame_edit_names w (edit.Hdel fields) = record { is = refl }
tame_edit_names w (edit.Zadd scores) = record { is = refl }
tame_edit_names w (edit.Zrem members) = record { is = refl }
tame_edit_names w (edit.Zremrangebyrank first last) = record { is = refl }
tame_edit_names w (edit.Zremrangebyscore least greatest) = record { is = refl }

-- ## Jobs that are sent on, and what is told

tame_push_to : (from : Origin) (text : Bytes) (h : Option Head) → Tame (push_to from text h)
tame_push_to from text None = record { is = refl }
tame_push_to from text (Some h) = record { is = refl }

tame_push_callback : (o : Option Bytes) → Tame (push_callback o)
tame_push_callback None = record { is = refl }
tame_push_callback (Some text) = tame_push_to Inner text (head text)

tame_fire_all : (firings : List Firing) → Tame (fire_all firings)
tame_fire_all [] = record { is = refl }
tame_fire_all (f ∷ firings) = tame_cons _ _ refl (tame_append (push_callback f.payload) (fire_all firings) (tame_push_callback f.payload) (tame_fire_all firings))

tame_notify_in : (event : BatchEvent) (w : World) (jid : Bytes) (bid : Option Bytes) → Tame (notify_in event w jid bid).changes
tame_notify_in event w jid None = record { is = refl }
tame_notify_in event w jid (Some bid) = tame_cons _ _ refl (tame_fire_all (fires_of event bid jid w.batches))

tame_notify_of : (event : BatchEvent) (w : World) (h : Option Head) → Tame (notify_of event w h).changes
tame_notify_of event w None = record { is = refl }
tame_notify_of event w (Some h) = tame_notify_in event w h.jid h.bid

tame_merge : (found : Option Row) → Tame (merge found)
tame_merge None = record { is = refl }
tame_merge (Some row) = record { is = refl }

tame_buried_by : (w : World) (text : Bytes) (put : List Change) → Tame put → Tame (buried_by w text put).changes
tame_buried_by w text put t =
    let after_ : World = perform w put in
    let gone : List Row = surplus after_ (rows_at (Set Dead) after_.rows) in
    let trims : List Change = map (λ row. Moves (Trim row)) gone in
    tame_append (put ++ trims) (notify Died (perform w (put ++ trims)) text).changes (tame_append put trims t (tame_map (λ row. Moves (Trim row)) gone (λ row. refl)))
    (tame_notify_of Died (perform w (put ++ trims)) (head text))

tame_bury : (w : World) (row : Row) → Tame (bury w row).changes
tame_bury w row =
    let found = row_of row.text (rows_at (Set Dead) w.rows) in
    tame_buried_by w row.text (put_dead w row) (tame_append (merge found) (Moves (Carry row Left (Set Dead) (moment_score w) Left) ∷ []) (tame_merge found) (record { is = refl }))

tame_promote : (w : World) (row : Row) (h : Option Head) → Tame (promote w row h).changes
tame_promote w row None = tame_bury w row
tame_promote w row (Some h) = record { is = refl }

tame_each : (way : World → Row → Option Head → Routed) (w : World) (rows : List Row) → ((v : World) (row : Row) (h : Option Head) → Tame (way v row h).changes) → Tame (each way w rows).changes
tame_each way w [] t = record { is = refl }
tame_each way w (row ∷ rows) t =
    tame_append (way w row (head row.text)).changes (each way (perform w (way w row (head row.text)).changes) rows).changes (t w row (head row.text)) (tame_each way (perform w (way w row (head row.text)).changes) rows t)

tame_kill_row : (w : World) (found : Option Row) → Tame (kill_row w found).changes
tame_kill_row w None = record { is = refl }
tame_kill_row w (Some row) = tame_bury w row

tame_revive_as : (row : Row) (h : Option Head) → Tame (revive_as row h).changes
tame_revive_as row None = record { is = refl }
tame_revive_as row (Some h) = record { is = refl }

tame_revive_row : (found : Option Row) → Tame (revive_row found).changes
tame_revive_row None = record { is = refl }
tame_revive_row (Some row) = tame_revive_as row (head row.text)

routed_cond : (b : Bool) (r s : Routed) → Tame r.changes → Tame s.changes → Tame (cond b r s).changes
routed_cond true r s p q = p
routed_cond false r s p q = q

tame_recover : (w : World) (row : Row) (h : Head) → Tame (recover w row h).changes
tame_recover w row h =
    routed_cond (is_poison w h.jid) (bury_poison w row h.jid) (to_queue Right row h) (tame_append (bury w row).changes (Forgets h.jid ∷ []) (tame_bury w row) (record { is = refl })) (record { is = refl })

tame_rescue_row : (w : World) (row : Row) (h : Option Head) → Tame (rescue_row w row h).changes
tame_rescue_row w row None = tame_bury w row
tame_rescue_row w row (Some h) = tame_cons (Recovers h.jid) _ refl (tame_recover (changed w (Recovers h.jid)) row h)

-- ## Workers

tame_where_plain : (phase : Phase) (o : Outcome) → Tame o.changes → Tame (where_plain phase o).changes
tame_where_plain Plain o t = t
tame_where_plain (Joined ident works) o t = record { is = refl }

tame_where_some : (phase : Phase) (test : Work → Bool) (o : Bytes → Outcome) → ((ident : Bytes) → Tame (o ident).changes) → Tame (where_some phase test o).changes
tame_where_some Plain test o t = record { is = refl }
tame_where_some (Joined ident works) test o t = tame_cond (list_any test works) _ _ (t ident) tame_none

tame_fetch_row : (seat : ℕ) (phase : Phase) (ident : Bytes) (found : Option Row) → Tame (fetch_row seat phase ident found).changes
tame_fetch_row seat phase ident None = record { is = refl }
tame_fetch_row seat phase ident (Some row) = record { is = refl }

tame_fetch : (w : World) (seat : ℕ) (phase : Phase) (ident : Bytes) (queue : Option Bytes) → Tame (fetch w seat phase ident queue).changes
tame_fetch w seat phase ident None = record { is = refl }
tame_fetch w seat phase ident (Some queue) =
    tame_cond (nat_lt (length (works_of phase)) most_works) _ _ (tame_fetch_row seat phase ident (row_at_end Right (Queue queue) w.rows)) tame_none

tame_release_of : (w : World) (seat : ℕ) (phase : Phase) (ident : Bytes) (text : Option Bytes) → Tame (release_of w seat phase ident text).changes
tame_release_of w seat phase ident None = record { is = refl }
tame_release_of w seat phase ident (Some text) = tame_cond (list_any (is_done_as text) (works_of phase)) _ _ (record { is = refl }) tame_none

tame_retry : (w : World) (seat : ℕ) (phase : Phase) (pair : Option Pair) → Tame (retry w seat phase pair).changes
tame_retry w seat phase None = record { is = refl }
tame_retry w seat phase (Some pair) =
    tame_cond (list_any (is_retried_as pair.1) (works_of phase)) _ _ (tame_cons (put_back w Retry pair) _ (tame_put_as Retry pair (row_of pair.1 (rows_at (Set Retry) w.rows))) (record { is = refl })) tame_none

tame_work_edit : (w : World) (seat : ℕ) (phase : Phase) (ident key : Bytes) (e : WriteOp) → Tame (work_edit w seat phase ident key e).changes
tame_work_edit w seat phase ident key (edit.Zadd pairs) = tame_retry w seat phase (only pairs)
tame_work_edit w seat phase ident key (edit.Incrby n) = tame_release_of w seat phase ident (released_by ident key (edit.Incrby n))
tame_work_edit w seat phase ident key (edit.Push side texts) = tame_release_of w seat phase ident (released_by ident key (edit.Push side texts))
tame_work_edit w seat phase ident key (edit.Lrem count text) = tame_release_of w seat phase ident (released_by ident key (edit.Lrem count text))
tame_work_edit w seat phase ident key (edit.Sadd members) = tame_release_of w seat phase ident (released_by ident key (edit.Sadd members))
tame_work_edit w seat phase ident key (edit.Srem members) = tame_release_of w seat phase ident (released_by ident key (edit.Srem members))
tame_work_edit w seat phase ident key (edit.Hset pairs) = tame_release_of w seat phase ident (released_by ident key (edit.Hset pairs))
tame_work_edit w seat phase ident key (edit.Hdel fields) = tame_release_of w seat phase ident (released_by ident key (edit.Hdel fields))
tame_work_edit w seat phase ident key (edit.Zrem members) = tame_release_of w seat phase ident (released_by ident key (edit.Zrem members))
tame_work_edit w seat phase ident key (edit.Zremrangebyrank first last) = tame_release_of w seat phase ident (released_by ident key (edit.Zremrangebyrank first last))
tame_work_edit w seat phase ident key (edit.Zremrangebyscore least greatest) = tame_release_of w seat phase ident (released_by ident key (edit.Zremrangebyscore least greatest))

tame_work_as : (w : World) (seat : ℕ) (phase : Phase) (ident : Bytes) (a : Action) → Tame (work_as w seat phase ident a).changes
tame_work_as w seat phase ident (action.WriteOp key e) = tame_work_edit w seat phase ident key e
tame_work_as w seat phase ident action.Ping = tame_fetch w seat phase ident (fetched_from ident action.Ping)
tame_work_as w seat phase ident (action.Echo text) = tame_fetch w seat phase ident (fetched_from ident (action.Echo text))
tame_work_as w seat phase ident action.Quit = tame_fetch w seat phase ident (fetched_from ident action.Quit)
tame_work_as w seat phase ident (action.ReadOp key look) = tame_fetch w seat phase ident (fetched_from ident (action.ReadOp key look))
tame_work_as w seat phase ident (action.Set key text options) = tame_fetch w seat phase ident (fetched_from ident (action.Set key text options))
tame_work_as w seat phase ident (action.Expire key millis) = tame_fetch w seat phase ident (fetched_from ident (action.Expire key millis))
tame_work_as w seat phase ident (action.Give key text) = tame_fetch w seat phase ident (fetched_from ident (action.Give key text))
tame_work_as w seat phase ident (action.Exists keys) = tame_fetch w seat phase ident (fetched_from ident (action.Exists keys))
tame_work_as w seat phase ident (action.Delete keys) = tame_fetch w seat phase ident (fetched_from ident (action.Delete keys))
tame_work_as w seat phase ident (action.Move source destination from to) = tame_fetch w seat phase ident (fetched_from ident (action.Move source destination from to))
tame_work_as w seat phase ident action.Flush = tame_fetch w seat phase ident (fetched_from ident action.Flush)

tame_work : (w : World) (seat : ℕ) (phase : Phase) (a : Action) → Tame (work w seat phase a).changes
tame_work w seat Plain a = record { is = refl }
tame_work w seat (Joined ident works) a = tame_work_as w seat (Joined ident works) ident a

tame_give_row : (seat : ℕ) (phase : Phase) (h : Head) (found : Option Row) → Tame (give_row seat phase h found).changes
tame_give_row seat phase h None = record { is = refl }
tame_give_row seat phase h (Some row) = record { is = refl }

tame_give : (w : World) (seat : ℕ) (phase : Phase) (ident text : Bytes) (h : Option Head) → Tame (give w seat phase ident text h).changes
tame_give w seat phase ident text None = record { is = refl }
tame_give w seat phase ident text (Some h) = tame_give_row seat (releasing (is_held_as text) phase) h (listed w ident text)

list_cond : (b : Bool) (xs ys : List Change) → Tame xs → Tame ys → Tame (cond b xs ys)
list_cond true xs ys p q = p
list_cond false xs ys p q = q

tame_unlocks_at : (until : Until) (h : Head) (lock : Option Lock) → Tame (unlocks_at until h lock)
tame_unlocks_at until h None = record { is = refl }
tame_unlocks_at until h (Some lock) = list_cond (is_until until lock.until) _ _ (record { is = refl }) tame_none

tame_unlocks_of : (until : Until) (h : Option Head) → Tame (unlocks_of until h)
tame_unlocks_of until None = record { is = refl }
tame_unlocks_of until (Some h) = tame_unlocks_at until h h.lock

tame_and_notify : (event : BatchEvent) (w : World) (text : Bytes) (changes : List Change) → Tame changes → Tame (and_notify event w text changes).changes
tame_and_notify event w text changes t = tame_append changes (notify event (perform w changes) text).changes t (tame_notify_of event (perform w changes) (head text))

-- ## Unique and periodic jobs, and batches

tame_push_or_schedule : (w : World) (text : Bytes) (score : Option ℤ) → Tame (push_or_schedule w text score)
tame_push_or_schedule w text None = tame_push_to Outside text (head text)
tame_push_or_schedule w text (Some score) =
    tame_cons (add_one w Schedule (score, text)) [] (tame_add_as Schedule (score, text) (row_of text (rows_at (Set Schedule) w.rows))) tame_none

tame_or_holder : (holder : Option Bytes) (o : Outcome) → Tame o.changes → Tame (or_holder holder o).changes
tame_or_holder None o t = t
tame_or_holder (Some jid) o t = record { is = refl }

tame_unique_of : (w : World) (text : Bytes) (score : Option ℤ) (h : Head) (lock : Option Lock) (bid : Option Bytes) → Tame (unique_push_of w text score h lock bid).changes
tame_unique_of w text score h None bid = record { is = refl }
tame_unique_of w text score h (Some lock) None =
    tame_cond (is_full w (text ∷ [])) _ _ tame_none (tame_or_holder (holder_at (digest h) w.moment w.leases) (push_locked w h lock text score) (tame_cons _ _ refl (tame_push_or_schedule w text score)))
tame_unique_of w text score h (Some lock) (Some bid) = record { is = refl }

tame_unique_by : (w : World) (text : Bytes) (score : Option ℤ) (h : Option Head) → Tame (unique_push_by w text score h).changes
tame_unique_by w text score None = record { is = refl }
tame_unique_by w text score (Some h) = tame_unique_of w text score h h.lock h.bid

tame_lead : (w : World) (ident : Bytes) → Tame (lead w ident).changes
tame_lead w ident = tame_cond (is_process w ident) _ _ (tame_cond (is_led_by_another ident w.moment w.leases) _ _ tame_none (record { is = refl })) tame_none

tame_cron : (w : World) (ident loop : Bytes) (slot : ℕ) (text : Bytes) → Tame (cron w ident loop slot text).changes
tame_cron w ident loop slot text =
    tame_cond (not (is_process w ident)) _ _ tame_none
    (tame_cond (not (may_call (head text) && is_name 255 loop)) _ _ tame_none
    (tame_cond (not (leads ident w.moment w.leases)) _ _ tame_none
    (tame_cond (not (is_above slot (last loop w.leases))) _ _ tame_none
    (tame_cond (not (is_in_time w slot)) _ _ tame_none
    (tame_cond (not (has_loop w loop)) _ _ tame_none
    (tame_cond (is_full w (text ∷ [])) _ _ tame_none (tame_cons (TakesSlot loop slot text) _ refl (tame_push_to Inner text (head text)))))))))

tame_unless : (fault : Option BatchFault) (o : Outcome) → Tame o.changes → Tame (unless fault o).changes
tame_unless None o t = t
tame_unless (Some fault) o t = record { is = refl }

tame_push_jobs : (texts : List Bytes) → Tame (push_jobs texts)
tame_push_jobs [] = record { is = refl }
tame_push_jobs (text ∷ texts) = tame_append (push_to Outside text (head text)) (push_jobs texts) (tame_push_to Outside text (head text)) (tame_push_jobs texts)

tame_batch_push : (w : World) (batch : Batch) (texts : List Bytes) → Tame (batch_push w batch texts).changes
tame_batch_push w batch texts =
    let jids : List Bytes = jids_of texts in
    tame_cond (not (is_name 64 batch.bid)) _ _ tame_none
    (tame_unless (bid_fault batch.bid batch.parent w.batches None) _
    (tame_cond (not (are_callbacks batch.callbacks && all_may_join batch.bid texts)) _ _ tame_none
    (tame_unless (jids_fault batch.bid jids w.batches (breaks (is_batch_full w.batches) fault.Full None)) _
    (tame_cond (is_too_much w texts) _ _ tame_none
    (tame_cons (Makes batch jids) _ refl (tame_append (push_jobs texts) (fire_all (made_fires batch jids)) (tame_push_jobs texts) (tame_fire_all (made_fires batch jids))))))))

tame_batch_add : (w : World) (bid : Bytes) (texts : List Bytes) → Tame (batch_add w bid texts).changes
tame_batch_add w bid texts =
    tame_unless (batch_fault bid w.batches None) _
    (tame_cond (not (all_may_join bid texts)) _ _ tame_none
    (tame_unless (jids_fault bid (jids_of texts) w.batches None) _
    (tame_cond (is_too_much w texts) _ _ tame_none (tame_cons _ _ refl (tame_push_jobs texts)))))

tame_stat : (found : Option BatchStat) → Tame (tells_stat found).changes
tame_stat None = record { is = refl }
tame_stat (Some s) = record { is = refl }

-- ## The commands of the store's own

tame_run : (w : World) (seat : ℕ) (phase : Phase) (c : ScriptCommand) → Tame (run w seat phase c).changes
tame_run w seat phase (script.Beat ident) = tame_cond (is_name 255 ident) _ _ (record { is = refl }) tame_none
tame_run w seat phase (script.Join ident) = tame_where_plain phase _ (tame_cond (is_name 255 ident && is_alive ident w.moment w.leases) _ _ (record { is = refl }) tame_none)
tame_run w seat phase (script.Start text) = tame_where_some phase (is_held_as text) _ (λ ident. tame_unlocks_of until.Start (head text))
tame_run w seat phase (script.Ok text) = tame_where_some phase (is_held_as text) _ (λ ident.
    let changes : List Change = Turns seat (staging (is_held_as text) (Settled end.Returned) phase) ∷ Counts processed ∷ [] in
    tame_append (and_notify event.Returned w text changes).changes (unlocks until.Success text) (tame_and_notify event.Returned w text changes (record { is = refl })) (tame_unlocks_of until.Success (head text)))
tame_run w seat phase (script.Fail text) = tame_where_some phase (is_held_as text) _ (λ ident. tame_and_notify event.Reported w text (Counts processed ∷ Counts failed ∷ []) (record { is = refl }))
tame_run w seat phase (script.Drop text) = tame_where_some phase (is_held_as text) _ (λ ident. record { is = refl })
tame_run w seat phase (script.Bury text) = tame_where_some phase (is_buried_as text) _ (λ ident.
    let put_ : Change = put_back w Dead (moment_score w, text) in
    tame_buried_by w text (put_ ∷ Turns seat (staging (is_buried_as text) Put phase) ∷ []) (tame_cons put_ _ (tame_put_as Dead (moment_score w, text) (row_of text (rows_at (Set Dead) w.rows))) (record { is = refl })))
tame_run w seat phase (script.Back text) = tame_where_some phase (is_held_as text) _ (λ ident. tame_give w seat phase ident text (head text))
tame_run w seat phase (script.Due set limit) = tame_where_plain phase (due w set (nat_abs limit)) (tame_each promote w (due_rows w set (nat_abs limit)) tame_promote)
tame_run w seat phase (script.Revive set text) = tame_where_plain phase (revive w set text) (tame_revive_row (row_of text (rows_at (Set set) w.rows)))
tame_run w seat phase (script.Kill set text) = tame_where_plain phase (kill w set text) (tame_kill_row w (row_of text (waiting_rows w set)))
tame_run w seat phase script.Rescue = tame_where_plain phase (rescue w) (tame_each rescue_row w (left_rows w) tame_rescue_row)
tame_run w seat phase (script.Upush text score) = tame_unique_by w text score (head text)
tame_run w seat phase (script.Bpush bid parent complete success death texts) = tame_batch_push w (batch_of bid parent complete success death) texts
tame_run w seat phase (script.Badd bid texts) = tame_batch_add w bid texts
tame_run w seat phase (script.Bstat bid) = tame_stat (stat bid w.batches)
tame_run w seat phase (script.Where jid) = record { is = refl }
tame_run w seat phase script.Status = record { is = refl }
tame_run w seat phase (script.Lead ident) = tame_where_plain phase (lead w ident) (tame_lead w ident)
tame_run w seat phase (script.Cron ident loop slot text) = tame_where_plain phase (cron w ident loop (nat_abs slot) text) (tame_cron w ident loop (nat_abs slot) text)

-- ## The commands on plain keys

neither : (a b : Bool) → (a || b) ≡ false → (a ≡ false) × (b ≡ false)
neither true b e = absurd (cc e)
neither false b e = (refl, e)

module _ (key : Bytes) where
  apart : (other : Bytes) → is_eq (text_cmp key other) ≡ bytes_eq key other
  apart other = is_eq-slice_cmp key other

  at_put : (other : Bytes) (entry : Entry) (keys : Keys) → bytes_eq key other ≡ false → at key (put other entry keys) ≡ at key keys
  at_put other entry keys e = lookup_put nat_list_cmp_total keys other entry key ∙ ap (λ b. cond b (Some entry) (at key keys)) (apart other ∙ e)

  at_without : (other : Bytes) (keys : Keys) → bytes_eq key other ≡ false → at key (without other keys) ≡ at key keys
  at_without other [] e = refl
  at_without other (k ∷ keys) e = by_test (is_eq (text_cmp other k.0)) refl (at_without other keys e) where
    by_test : (b : Bool) → is_eq (text_cmp other k.0) ≡ b → at key (without other keys) ≡ at key keys → at key (cond b keys (k ∷ without other keys)) ≡ at key (k ∷ keys)
    by_test true is rest =
        let same : other ≡ k.0 = (bytes_eq-Decides other k.0).0 (sym (is_eq-slice_cmp other k.0) ∙ is) in
        let here : is_eq (text_cmp key k.0) ≡ false = apart k.0 ∙ ap (bytes_eq key) (sym same) ∙ e in
        ap (λ b. cond b (Some k.1) (at key keys)) (sym here)
    by_test false is rest = ap (λ o. cond (is_eq (text_cmp key k.0)) (Some k.1) o) rest

  at_changed : (other : Bytes) (change : KeyChange) (keys : Keys) → bytes_eq key other ≡ false → at key (key_changed other change keys) ≡ at key keys
  at_changed other Stays keys e = refl
  at_changed other Goes keys e = at_without other keys e
  at_changed other (Becomes entry) keys e = at_put other entry keys e

  keys_cond : (b : Bool) (one other keys : Keys) → at key one ≡ at key keys → at key other ≡ at key keys → at key (cond b one other) ≡ at key keys
  keys_cond true one other keys p q = p
  keys_cond false one other keys p q = q

  at_put_list : (other : Bytes) (list : List Bytes) (deadline : Option ℕ) (keys : Keys) → bytes_eq key other ≡ false → at key (put_list other list deadline keys) ≡ at key keys
  at_put_list other list deadline keys e = keys_cond (length list == 0) _ _ keys (at_without other keys e) (at_put other _ keys e)

  at_without_all : (names : List Bytes) (keys : Keys) → list_any (bytes_eq key) names ≡ false → at key (without_all names keys) ≡ at key keys
  at_without_all [] keys e = refl
  at_without_all (n ∷ names) keys e = let p = neither (bytes_eq key n) (list_any (bytes_eq key) names) e in at_without_all names (without n keys) p.1 ∙ at_without n keys p.0

  at_turn_list : (other : Bytes) (to : Side) (deadline : Option ℕ) (taken : Option (Bytes × List Bytes)) (keys : Keys) → bytes_eq key other ≡ false →
      at key (turn_list other to deadline taken keys).keys ≡ at key keys
  at_turn_list other to deadline None keys e = refl
  at_turn_list other to deadline (Some taken) keys e = at_put_list other _ deadline keys e

  at_carry : (source : Bytes) (from : Option Entry) (destination : Bytes) (to : Side) (there : Option Entry) (taken : Option (Bytes × List Bytes)) (list : Option (List Bytes)) (keys : Keys) →
      bytes_eq key source ≡ false → bytes_eq key destination ≡ false → at key (carry source from destination to there taken list keys).keys ≡ at key keys
  at_carry source from destination to there taken None keys e f = refl
  at_carry source from destination to there None (Some list) keys e f = refl
  at_carry source from destination to there (Some taken) (Some list) keys e f = at_put_list destination _ _ _ f ∙ at_put_list source taken.1 _ keys e

  applied_cond : (b : Bool) (one other : Applied) (keys : Keys) → at key one.keys ≡ at key keys → at key other.keys ≡ at key keys → at key (cond b one other).keys ≡ at key keys
  applied_cond true one other keys p q = p
  applied_cond false one other keys p q = q

  at_move_list : (source destination : Bytes) (from to : Side) (list : Option (List Bytes)) (keys : Keys) → bytes_eq key source ≡ false → bytes_eq key destination ≡ false →
      at key (move_list source destination from to list keys).keys ≡ at key keys
  at_move_list source destination from to None keys e f = refl
  at_move_list source destination from to (Some list) keys e f =
      applied_cond (bytes_eq source destination) _ _ keys (at_turn_list source to (deadline_at (at source keys)) (take_one from list) keys e)
      (at_carry source (at source keys) destination to (at destination keys) (take_one from list) (list_at (at destination keys)) keys e f)

  at_move : (source destination : Bytes) (from to : Side) (keys : Keys) → bytes_eq key source ≡ false → bytes_eq key destination ≡ false →
      at key (move_keys source destination from to keys).keys ≡ at key keys
  unfolding move_keys
  at_move source destination from to keys e f =
      applied_cond (is_some (at source keys)) _ _ keys (at_move_list source destination from to (list_at (at source keys)) keys e f) refl

  at_applied : (now_ : ℕ) (a : Action) (keys : Keys) → may_write key a ≡ false → at key (applied now_ a keys).keys ≡ at key keys
  at_applied now_ action.Ping keys e = refl
  at_applied now_ (action.Echo text) keys e = refl
  at_applied now_ action.Quit keys e = refl
  at_applied now_ (action.ReadOp other look) keys e = refl
  at_applied now_ (action.WriteOp other op) keys e = at_changed other _ keys e
  at_applied now_ (action.Set other text options) keys e = at_changed other _ keys e
  at_applied now_ (action.Expire other millis) keys e = at_changed other _ keys e
  at_applied now_ (action.Give other text) keys e = at_changed other _ keys e
  at_applied now_ (action.Exists others) keys e = refl
  at_applied now_ (action.Delete others) keys e = at_without_all others keys e
  at_applied now_ (action.Move source destination from to) keys e =
      let p = neither (bytes_eq key source) (bytes_eq key destination) e in at_move source destination from to keys p.0 p.1
  at_applied now_ action.Flush keys e = absurd (cc e)

  -- ## Every command

  spares_cond : (w : World) (b : Bool) (o p : Outcome) → Spares key w o.changes → Spares key w p.changes → Spares key w (cond b o p).changes
  spares_cond w true o p s t = s
  spares_cond w false o p s t = t

  spares_keys : (w : World) (a : Action) → may_write key a ≡ false → Spares key w (on_keys w a).changes
  spares_keys w a e x is endless = at_applied w.moment a w.keys e ∙ is

  spares_edits : (w : World) (other : Bytes) (op : WriteOp) (c : KeyClass) → bytes_eq key other ≡ false → Spares key w (edits w other op c).changes
  spares_edits w other op class.Plain e = spares_keys w (action.WriteOp other op) e
  spares_edits w other op class.Queue e = spares key w _ (tame_edit_queue w _ op)
  spares_edits w other op class.Queues e = spares key w _ (tame_edit_names w op)
  spares_edits w other op (class.Jobs set) e = spares key w _ (tame_edit_jobs w set op)
  spares_edits w other op class.NoQueue e = spares key w [] tame_none
  spares_edits w other op class.Private e = spares key w [] tame_none
  spares_edits w other op class.NoPrivate e = spares key w [] tame_none
  spares_edits w other op class.Processes e = spares key w [] tame_none
  spares_edits w other op class.Counter e = spares key w [] tame_none

  spares_on_plain : (w : World) (a : Action) (c : KeyClass) → may_write key a ≡ false → Spares key w (on_plain w a c).changes
  spares_on_plain w a c e = spares_cond w (is_plain c) _ _ (spares_keys w a e) (spares key w [] tame_none)

  spares_moves : (w : World) (source destination : Bytes) (from to : Side) (c d : KeyClass) → may_write key (action.Move source destination from to) ≡ false →
      Spares key w (moves w source destination from to c d).changes
  spares_moves w source destination from to c d e =
      spares_cond w (is_plain c && is_plain d) _ _ (spares_keys w (action.Move source destination from to) e)
      (spares_cond w (is_queue c && is_queue d) _ _
      (spares key w _ (tame_move_row (row_at_end from (Queue (queue_of source)) w.rows) from (Queue (queue_of destination)) to)) (spares key w [] tame_none))

  spares_delete_as : (w : World) (other : Bytes) (c : KeyClass) → bytes_eq key other ≡ false → Spares key w (delete_as w other c).changes
  spares_delete_as w other class.Plain e = λ x is endless. at_without other w.keys e ∙ is
  spares_delete_as w other class.Queue e =
      let rows : List Row = rows_at (Queue (queue_of other)) w.rows in
      spares key w (take_all rows ++ Unnames (queue_of other) ∷ []) (tame_append (take_all rows) (Unnames (queue_of other) ∷ []) (tame_take_all rows) (record { is = refl }))
  spares_delete_as w other (class.Jobs set) e = spares key w (take_all (rows_at (Set set) w.rows)) (tame_take_all (rows_at (Set set) w.rows))
  spares_delete_as w other class.NoQueue e = spares key w [] tame_none
  spares_delete_as w other class.Private e = spares key w [] tame_none
  spares_delete_as w other class.NoPrivate e = spares key w [] tame_none
  spares_delete_as w other class.Processes e = spares key w [] tame_none
  spares_delete_as w other class.Queues e = spares key w [] tame_none
  spares_delete_as w other class.Counter e = spares key w [] tame_none

  spares_delete_each : (w : World) (others : List Bytes) → list_any (bytes_eq key) others ≡ false → Spares key w (delete_each w others).changes
  spares_delete_each w [] e = spares key w [] tame_none
  spares_delete_each w (other ∷ others) e =
      let p = neither (bytes_eq key other) (list_any (bytes_eq key) others) e in
      let one = (delete_as w other (class_of other)).changes in
      spares_append key w one _ (spares_delete_as w other (class_of other) p.0) (spares_delete_each (perform w one) others p.1)

  spares_delete : (w : World) (others : List Bytes) → list_any (bytes_eq key) others ≡ false → Spares key w (delete w others).changes
  spares_delete w others e = spares_cond w (list_all (λ k. may_go (class_of k)) others) _ _ (spares_delete_each w others e) (spares key w [] tame_none)

  spares_act : (w : World) (a : Action) → may_write key a ≡ false → Spares key w (act w a).changes
  spares_act w action.Ping e = spares key w [] tame_none
  spares_act w (action.Echo text) e = spares key w [] tame_none
  spares_act w action.Quit e = spares key w [] tame_none
  spares_act w (action.ReadOp other look) e = spares key w [] tame_none
  spares_act w (action.WriteOp other op) e = spares_edits w other op (class_of other) e
  spares_act w (action.Set other text options) e = spares_on_plain w (action.Set other text options) (class_of other) e
  spares_act w (action.Expire other millis) e = spares_on_plain w (action.Expire other millis) (class_of other) e
  spares_act w (action.Give other text) e = spares_on_plain w (action.Give other text) (class_of other) e
  spares_act w (action.Exists others) e = spares key w [] tame_none
  spares_act w (action.Delete others) e = spares_delete w others e
  spares_act w (action.Move source destination from to) e = spares_moves w source destination from to (class_of source) (class_of destination) e
  spares_act w action.Flush e = absurd (cc e)

  spares_by_seat : (w : World) (seat : ℕ) (phase : Phase) (c : PlainCommand) → may_write key (action_of c) ≡ false → Spares key w (by_seat w seat phase c).changes
  spares_by_seat w seat phase c e =
      spares_cond w (is_worker_action (action_of c)) _ _ (spares key w _ (tame_work w seat phase (action_of c)))
      (spares_cond w (is_plain_seat phase || is_open_to_all c) _ _ (spares_act w (action_of c) e) (spares key w [] tame_none))

  spares_passes : (w : World) (now_ : ℕ) (changes : List Change) → Spares key (changed w (Passes now_)) changes → Spares key w (Passes now_ ∷ changes)
  spares_passes w now_ changes s x is endless = s x (at_purged _ key w.keys x is endless) endless

  spares_outcome : (w : World) (seat now_ : ℕ) (c : Command) → writes key c ≡ false → Spares key w (outcome w seat now_ c).changes
  spares_outcome w seat now_ (command.Plain c) e =
      spares_passes w now_ (by_seat (changed w (Passes now_)) seat (phase_of w seat) c).changes (spares_by_seat (changed w (Passes now_)) seat (phase_of w seat) c e)
  spares_outcome w seat now_ (command.Script c) e =
      let later : World = changed w (Passes now_) in
      let made : List Change = (run later seat (phase_of w seat) c).changes in
      spares_passes w now_ made (spares key later made (tame_run later seat (phase_of w seat) c))

  spares_step : (w : World) (seat now_ : ℕ) (c : Command) (o : Outcome) → writes key c ≡ false → MayComeTo w seat now_ c o → Spares key w o.changes
  spares_step w seat now_ c o e (inl is) = subst (λ (u : Outcome). Spares key w u.changes) (sym is) (spares_outcome w seat now_ c e)
  spares_step w seat now_ c o e (inr (may, is)) = subst (λ (u : Outcome). Spares key w u.changes) (sym is) (spares key w (Passes now_ ∷ []) (record { is = refl }))

  spares_read : (w : World) (seat now_ : ℕ) (r : Read Command) (o : Outcome) → ((c : Command) → r ≡ Ok c → writes key c ≡ false) → ResultsIn w seat now_ r o → Spares key w o.changes
  spares_read w seat now_ (Ok c) o other comes = spares_step w seat now_ c o (other c refl) comes
  spares_read w seat now_ (Err fault) o other is = subst (λ (u : Outcome). Spares key w u.changes) (sym is) (spares key w [] tame_none)

  pub others_leave : (w : World) (event : Event) (o : Outcome) → IsOther key event → Happens w event o → (x : Option Entry) → at key w.keys ≡ x → Endless x →
      at key (perform w o.changes).keys ≡ x
  others_leave w (Ask seat now_ words) o other (r, read, comes) =
      spares_read w seat now_ r o (λ c is. other c (subst (IsRead words) is read)) comes
  others_leave w (Cut seat) o other is = subst (λ (u : Outcome). Spares key w u.changes) (sym is) (spares key w (Turns seat Plain ∷ []) (record { is = refl }))
