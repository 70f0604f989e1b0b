-- The rows that a step pushes from outside are those that its reply acknowledges.
use Rattle.std.proofs.Common.{◌≡◌, ◌≤◌, ℤ, ◌+◌, ◌∙◌, ℕ, zero, suc, List, [], ◌∷◌, ◌++◌, refl, sym, ap, subst, inl, inr, arith, Bool, true, false, cond, not, ◌||◌, ◌&&◌, length, map}
use Rattle.std.specs.Prelude.{nat_abs, nat_lt, filter, Option, Some, None}
use Rattle.std.specs.List.{list_all, list_any}
use Rattle.sk_resp.specs.Spelling.{Bytes}
use Rattle.sk_resp.specs.declared.reply.Reply.{Reply}
use Rattle.sk_resp.specs.declared.reply.Reply.TheVariants as reply
use Rattle.sk_resp.specs.declared.say.Say.{Say}
use Rattle.sk_resp.specs.declared.say.Say.TheVariants as say
use Rattle.sk_cmd.specs.declared.argument.Side.{Side}
use Rattle.sk_cmd.specs.declared.argument.Side.TheVariants.{Left}
use Rattle.sk_cmd.specs.declared.argument.Scored.{Scored}
use Rattle.sk_cmd.specs.declared.argument.Scored.TheVariants.{Schedule, Retry, Dead}
use Rattle.sk_cmd.specs.declared.command.Command.{Command}
use Rattle.sk_cmd.specs.declared.command.Command.TheVariants as command
use Rattle.sk_cmd.specs.declared.command.PlainCommand.{PlainCommand}
use Rattle.sk_cmd.specs.declared.command.ScriptCommand.{ScriptCommand}
use Rattle.sk_cmd.specs.declared.command.ScriptCommand.TheVariants as script
use Rattle.sk_payload.specs.Head.{head, jid_of}
use Rattle.sk_payload.specs.Member.{is_name}
use Rattle.sk_payload.specs.declared.head.Head.{Head}
use Rattle.sk_payload.specs.declared.head.Lock.{Lock}
use Rattle.sk_payload.specs.declared.head.Until.{Until}
use Rattle.sk_payload.specs.declared.head.Until.TheVariants as until
use Rattle.sk_zset.specs.Pair.{Pair}
use Rattle.sk_zset.specs.Bounds.{is_between}
use Rattle.sk_resp.specs.WordOrder.{is_member}
use Rattle.sk_value.specs.Lists.{range_of}
use Rattle.sk_value.specs.Action.{action_of}
use Rattle.sk_value.specs.declared.action.Action.{Action}
use Rattle.sk_value.specs.declared.action.Action.TheVariants as action
use Rattle.sk_value.specs.declared.write_op.WriteOp.{WriteOp}
use Rattle.sk_value.specs.declared.write_op.WriteOp.TheVariants as edit
use Rattle.sk_key.specs.declared.key_class.KeyClass.{KeyClass}
use Rattle.sk_key.specs.declared.key_class.KeyClass.TheVariants as class
use Rattle.sk_key.specs.Class.{class_of, queue_of, is_plain, is_queue}
use Rattle.sk_batch.specs.Faults.{bid_fault, batch_fault, jids_fault, breaks, is_full}
use Rattle.sk_batch.specs.Events.{made_fires}
use Rattle.sk_batch.specs.Stat.{stat}
use Rattle.sk_batch.specs.Notify.{fires_of}
use Rattle.sk_batch.specs.declared.batch.Batch.{Batch}
use Rattle.sk_batch.specs.declared.batch_fault.BatchFault.{BatchFault}
use Rattle.sk_batch.specs.declared.batch_fault.BatchFault.TheVariants.{Full}
use Rattle.sk_batch.specs.declared.batch_stat.BatchStat.{BatchStat}
use Rattle.sk_batch.specs.declared.event.Event.{Event as Notified}
use Rattle.sk_batch.specs.declared.event.Event.TheVariants as event
use Rattle.sk_counters.specs.Counters.{failed, processed}
use Rattle.sk_batch.specs.declared.firing.Firing.{Firing}
use Rattle.sk_places.specs.LiveJobs.{one_if}
use Rattle.sk_places.specs.Totals.{count_end, count_push}
use Rattle.sk_places.specs.Rows.{copies_of, end_taken, first_row, insert_after, is_at, is_same, number_taken, pair_of, row_at, row_of, rows_at, without_first}
use Rattle.sk_places.specs.declared.ending.Ending.{Ending}
use Rattle.sk_places.specs.declared.ending.Ending.TheVariants.{Returned, Discarded, Deleted, Trimmed, Muddled}
use Rattle.sk_places.specs.declared.origin.Origin.{Origin}
use Rattle.sk_places.specs.declared.origin.Origin.TheVariants.{Outside, Inner}
use Rattle.sk_places.specs.declared.row.Place.{Place}
use Rattle.sk_places.specs.declared.row.Place.TheVariants.{Queue, Set}
use Rattle.sk_places.specs.declared.row.Row.{Row}
use Rattle.sk_places.specs.declared.totals.Totals.{Totals}
use Rattle.sk_seats.specs.Phases.{is_plain as is_plain_seat, staging, works_of}
use Rattle.sk_seats.specs.Works.{first as first_work, is_buried_as, is_done_as, is_held_as, is_retried_as, most_works}
use Rattle.sk_seats.specs.declared.work.End.TheVariants as end
use Rattle.sk_seats.specs.declared.phase.Phase.{Phase}
use Rattle.sk_seats.specs.declared.phase.Phase.TheVariants.{Plain, Joined}
use Rattle.sk_seats.specs.declared.work.Stage.{Stage}
use Rattle.sk_seats.specs.declared.work.Stage.TheVariants.{Held, Put, Settled}
use Rattle.sk_seats.specs.declared.work.Work.{Work}
use Rattle.sk_leases.specs.Leased.{holder_at, is_alive, is_led_by_another, last, leads}
use Rattle.sk_model.specs.World.{World, phase_of}
use Rattle.sk_model.specs.Live.{count_job, fresh, with_end}
use Rattle.sk_model.specs.Change.{Add, Carry, Take, Trim, Free, Change, Moves, Passes, Names, Unnames, Turns, Counts, Recovers, Unlocks, ending_of, changed, freed, freed_at, freed_work, perform}
use Rattle.sk_model.specs.Outcome.{Outcome}
use Rattle.sk_payload.specs.Digest.{digest}
use Rattle.sk_model.specs.Periodic.{cron, has_loop, is_above, is_in_time, is_process, lead, push_slot}
use Rattle.sk_model.specs.Unique.{is_until, or_holder, push_locked, unique_push, unique_push_by, unique_push_of, unlocks, unlocks_at, unlocks_of}
use Rattle.sk_model.specs.Room.{is_full as is_store_full, is_too_much}
use Rattle.sk_model.specs.Queues.{pushes, takes, move_row, length_at}
use Rattle.sk_model.specs.Deletes.{take_all, delete_as, delete_each, may_go}
use Rattle.sk_model.specs.Sets.{add_as, add_each, add_one, edit_jobs, put_as, put_back}
use Rattle.sk_model.specs.Seats.{fetched_from, is_open_to_all, is_worker_action, only, released_by, where_plain, where_some, is_worker_write}
use Rattle.sk_model.specs.Notify.{and_notify, push_callback, fire_all, push_job, push_to, notify, notify_in, notify_of}
use Rattle.sk_model.specs.Jobs.{Routed, bury, buried_by, due_rows, each, kill_row, merge, moment_score, put_dead, revive_as, revive_row, promote, surplus}
use Rattle.sk_model.specs.Rescue.{bury_poison, is_poison, left_rows, rescue_row}
use Rattle.sk_model.specs.Batches.{all_may_join, are_callbacks, may_call, batch_add, batch_of, batch_push, jids_of, make, may_join, push_jobs, tells_stat, unless}
use Rattle.sk_model.specs.Workers.{and_unlock, bury_text, fetch, fetch_row, give, give_row, listed, release_of, retry, work, work_as, work_edit}
use Rattle.sk_model.specs.Step.{MayComeTo, act, by_seat, edit_names, edit_queue, edits, moves, on_plain, outcome, run}
use Rattle.sk_model.specs.Acked.{Acks, AcksScript, AcksUnique, RepliesAcknowledge, acked_by, acked_by_edit, number_in, where_array, where_number}
use Rattle.sk_model.specs.Run.{is_ok}
use Rattle.sk_model.proofs.Commands.Sets.{all_filter, all_own, row_there}
use Rattle.sk_model.proofs.Tools.Texts.{same_is}

-- ## What changes push from outside

abbrev pub is_push : Change → Bool
is_push (Moves (Add row end Outside)) = true
is_push other = false

abbrev pub pushed_in : List Change → ℕ
pushed_in [] = 0
pushed_in (change ∷ changes) = cond (is_push change) (suc (pushed_in changes)) (pushed_in changes)

-- what one change adds comes to what the others add
grows : (b : Bool) (after mid before n : ℕ) → after ≡ mid + n → mid ≡ cond b (suc before) before → after ≡ before + cond b (suc n) n
grows true after mid before n e f = omega (arith, e, f)
grows false after mid before n e f = omega (arith, e, f)

one_more : (b : Bool) (all one more : ℕ) → all ≡ one + more → cond b (suc all) all ≡ cond b (suc one) one + more
one_more true all one more e = omega (arith, e)
one_more false all one more e = e

pushed-append : (one more : List Change) → pushed_in (one ++ more) ≡ pushed_in one + pushed_in more
pushed-append [] more = omega arith
pushed-append (change ∷ one) more = one_more (is_push change) _ _ _ (pushed-append one more)

none_pushed : (one more : List Change) → pushed_in one ≡ 0 → pushed_in more ≡ 0 → pushed_in (one ++ more) ≡ 0
none_pushed one more e f = omega (arith, e, f, pushed-append one more)

-- ## The tally counts it

end_count : (how : Ending) (n : ℕ) (t : Totals) → (count_end how n t).outside ≡ t.outside
end_count Returned n t = refl
end_count Discarded n t = refl
end_count Deleted n t = refl
end_count Trimmed n t = refl
end_count Muddled n t = refl

with_end_count : (how : Ending) (text : Bytes) (w : World) → (with_end how text w).tally.outside ≡ w.tally.outside
with_end_count how text w = end_count how _ w.tally

at_count : (ident text : Bytes) (w : World) (stage : Stage) → (freed_at stage ident text w).tally.outside ≡ w.tally.outside
at_count ident text w Held = refl
at_count ident text w Put = refl
at_count ident text w (Settled end) = with_end_count (ending_of end) text w

work_count : (ident : Bytes) (w : World) (found : Option Work) → (freed_work ident w found).tally.outside ≡ w.tally.outside
work_count ident w None = refl
work_count ident w (Some work) = at_count ident work.payload w work.stage

freed_count : (text : Bytes) (w : World) (phase : Phase) → (freed text w phase).tally.outside ≡ w.tally.outside
freed_count text w Plain = refl
freed_count text w (Joined ident works) = work_count ident w (first_work (is_done_as text) works)

either_count : (b : Bool) (one other : Totals) → one.outside ≡ other.outside → (cond b one other).outside ≡ other.outside
either_count true one other e = e
either_count false one other e = refl

job_count : (w : World) (jid : Option Bytes) (t : Totals) → (count_job w jid t).outside ≡ t.outside
job_count w None t = refl
job_count w (Some jid) t = either_count (fresh w jid) t _ refl

push_count : (from : Origin) (row : Row) (end : Side) (t : Totals) → (count_push from t).outside ≡ cond (is_push (Moves (Add row end from))) (suc t.outside) t.outside
push_count Outside row end t = omega arith
push_count Inner row end t = refl

changed_count : (w : World) (change : Change) → (changed w change).tally.outside ≡ cond (is_push change) (suc w.tally.outside) w.tally.outside
changed_count w (Moves (Add row end from)) = job_count w (jid_of row.text) (count_push from w.tally) ∙ push_count from row end w.tally
changed_count w (Moves (Free seat text)) = freed_count text w (phase_of w seat)
changed_count w (Moves (Take row from)) = with_end_count Deleted row.text w
changed_count w (Moves (Trim row)) = with_end_count Trimmed row.text w
changed_count w other = refl

outside_counts : (w : World) (changes : List Change) → (perform w changes).tally.outside ≡ w.tally.outside + pushed_in changes
outside_counts w [] = omega arith
outside_counts w (change ∷ changes) = grows (is_push change) _ _ _ _ (outside_counts (changed w change) changes) (changed_count w change)

-- ## Which outcome it is

either : (P : Outcome → Type 0) (b : Bool) (one other : Outcome) → (b ≡ true → P one) → (b ≡ false → P other) → P (cond b one other)
either P true one other f g = f refl
either P false one other f g = g refl

in_plain : (P : Outcome → Type 0) (phase : Phase) (o : Outcome) → ((s : Say) → P (record { reply = reply.Say s; changes = [] })) → P o → P (where_plain phase o)
in_plain P Plain o none one = one
in_plain P (Joined ident works) o none one = none _

in_some : (P : Outcome → Type 0) (phase : Phase) (test : Work → Bool) (o : Bytes → Outcome) → ((s : Say) → P (record { reply = reply.Say s; changes = [] })) → ((ident : Bytes) → P (o ident)) → P (where_some phase test o)
in_some P Plain test o none one = none _
in_some P (Joined ident works) test o none one = either P (list_any test works) _ _ (λ y. one ident) (λ n. none _)

-- it pushes nothing from outside
abbrev Quiet : Outcome → Type 0
Quiet o = pushed_in o.changes ≡ 0

-- it pushes so many as its reply tells
abbrev Counted : (Reply → ℕ) → Outcome → Type 0
Counted count o = pushed_in o.changes ≡ count o.reply

-- ## Lists of changes of one kind

pushes_counted : (end : Side) (place : Place) (texts : List Bytes) → pushed_in (pushes end place texts) ≡ length texts
pushes_counted end place [] = refl
pushes_counted end place (text ∷ texts) = let rest = pushes_counted end place texts in omega (arith, rest)

takes_none : (n : ℕ) (row : Row) (end : Side) → pushed_in (takes n row end) ≡ 0
takes_none zero row end = refl
takes_none (suc n) row end = takes_none n row end

take_all_none : (rows : List Row) → pushed_in (take_all rows) ≡ 0
take_all_none [] = refl
take_all_none (row ∷ rows) = take_all_none rows

trims_none : (rows : List Row) → pushed_in (map (λ row. Moves (Trim row)) rows) ≡ 0
trims_none [] = refl
trims_none (row ∷ rows) = trims_none rows

names_none : (names : List Bytes) → pushed_in (map Names names) ≡ 0
names_none [] = refl
names_none (name ∷ names) = names_none names

unnames_none : (names : List Bytes) → pushed_in (map Unnames names) ≡ 0
unnames_none [] = refl
unnames_none (name ∷ names) = unnames_none names

-- ## ZADD on schedule

-- how many rows are at a place once one is put in
length_put : (test before : Row → Bool) (new : Row) (rows : List Row) → test new ≡ true → length (filter test (insert_after before new rows)) ≡ suc (length (filter test rows))
length_put test before new [] at = grind (arith, at)
length_put test before new (row ∷ rows) at = grind (arith, at, length_put test before new rows)

-- and once one goes that was there
length_taken : (test : Row → Bool) (row : Row) (rows : List Row) → list_any (is_same row) rows ≡ true → test row ≡ true → suc (length (filter test (without_first (is_same row) rows))) ≡ length (filter test rows)
length_taken test row [] there at = absurd (cc there)
length_taken test row (other ∷ rows) there at = grind (arith, at, length_taken test row rows, same_is row other)

first_all : (test : Row → Bool) (rows : List Row) (row : Row) → first_row rows ≡ Some row → list_all test rows ≡ true → test row ≡ true
first_all test [] row e all = absurd (cc e)
first_all test (other ∷ rows) row e all = grind (arith, e, all)

-- what is found in a set is there, and at its place
found_at : (place : Place) (text : Bytes) (rows : List Row) (row : Row) → row_of text (rows_at place rows) ≡ Some row → is_at place row ≡ true
found_at place text rows row e = first_all (is_at place) _ row e (all_filter (is_at place) _ (rows_at place rows) (all_own (is_at place) rows))

abbrev scheduled : World → ℕ
scheduled w = length_at (Set Schedule) w

add_as_counted : (w : World) (pair : Pair) (found : Option Row) → row_of pair.1 (rows_at (Set Schedule) w.rows) ≡ found
    → scheduled (changed w (add_as Schedule pair found)) ≡ cond (is_push (add_as Schedule pair found)) (suc (scheduled w)) (scheduled w)
add_as_counted w pair None e = length_put (is_at (Set Schedule)) _ _ w.rows refl
add_as_counted w pair (Some row) e =
    let taken = length_taken (is_at (Set Schedule)) row w.rows (row_there pair.1 row (Set Schedule) w.rows e) (found_at (Set Schedule) pair.1 w.rows row e) in
    length_put (is_at (Set Schedule)) _ _ (without_first (is_same row) w.rows) refl ∙ taken

add_each_counted : (w : World) (pairs : List Pair) → scheduled (perform w (add_each w Schedule pairs)) ≡ scheduled w + pushed_in (add_each w Schedule pairs)
add_each_counted w [] = omega arith
add_each_counted w (pair ∷ pairs) =
    let one : Change = add_one w Schedule pair in
    grows (is_push one) _ _ _ _ (add_each_counted (changed w one) pairs) (add_as_counted w pair _ refl)

zadd_counted : (w : World) (set : Scored) (pairs : List Pair) → Counted (acked_by_edit (class.Jobs set) (edit.Zadd pairs)) (edit_jobs w set (edit.Zadd pairs))
zadd_counted w Schedule pairs = either (Counted (acked_by_edit (class.Jobs Schedule) (edit.Zadd pairs))) (is_store_full w (map (λ pair. pair.1) pairs)) _ _ (λ y. refl) (λ n. omega (arith, add_each_counted w pairs))
zadd_counted w Retry pairs = refl
zadd_counted w Dead pairs = refl

-- ## What clients do to keys

abbrev is_zadd : WriteOp → Bool
is_zadd (edit.Zadd pairs) = true
is_zadd other = false

-- of what is written on a set of jobs, ZADD alone is acknowledged
jobs_ack_none : (set : Scored) (e : WriteOp) (answer : Reply) → is_zadd e ≡ false → acked_by_edit (class.Jobs set) e answer ≡ 0
jobs_ack_none set (edit.Zadd pairs) answer none = absurd (cc none)
jobs_ack_none Schedule other answer none = refl
jobs_ack_none Retry other answer none = refl
jobs_ack_none Dead other answer none = refl

edit_jobs_counted : (w : World) (set : Scored) (e : WriteOp) → Counted (acked_by_edit (class.Jobs set) e) (edit_jobs w set e)
edit_jobs_counted w set (edit.Zadd pairs) = zadd_counted w set pairs
edit_jobs_counted w set (edit.Zrem members) = take_all_none (filter (λ row. is_member row.text members) (rows_at (Set set) w.rows)) ∙ sym (jobs_ack_none set (edit.Zrem members) _ refl)
edit_jobs_counted w set (edit.Zremrangebyrank first last) = take_all_none (range_of first last (rows_at (Set set) w.rows)) ∙ sym (jobs_ack_none set (edit.Zremrangebyrank first last) _ refl)
edit_jobs_counted w set (edit.Zremrangebyscore least greatest) =
    take_all_none (filter (λ row. is_between least greatest (pair_of row)) (rows_at (Set set) w.rows)) ∙ sym (jobs_ack_none set (edit.Zremrangebyscore least greatest) _ refl)
edit_jobs_counted w set other = sym (jobs_ack_none set other _ refl)

edit_queue_counted : (w : World) (queue : Bytes) (e : WriteOp) → Counted (acked_by_edit class.Queue e) (edit_queue w queue e)
edit_queue_counted w queue (edit.Push side texts) = either (Counted (λ answer. where_number answer (length texts))) (is_store_full w texts) _ _ (λ y. refl) (λ n. pushes_counted side (Queue queue) texts)
edit_queue_counted w queue (edit.Lrem count text) = let row : Row = row_at (Queue queue) text in takes_none (number_taken count (copies_of row w.rows)) row (end_taken count)
edit_queue_counted w queue other = refl

edit_names_quiet : (w : World) (e : WriteOp) → Quiet (edit_names w e)
edit_names_quiet w (edit.Sadd names) = either Quiet (list_all (is_name 255) names) _ _ (λ y. names_none names) (λ n. refl)
edit_names_quiet w other = refl

edits_counted : (w : World) (key : Bytes) (e : WriteOp) (c : KeyClass) → Counted (acked_by_edit c e) (edits w key e c)
edits_counted w key e class.Plain = refl
edits_counted w key e class.Queue = edit_queue_counted w (queue_of key) e
edits_counted w key e class.Queues = edit_names_quiet w e
edits_counted w key e (class.Jobs set) = edit_jobs_counted w set e
edits_counted w key e other = refl

on_plain_quiet : (w : World) (a : Action) (c : KeyClass) → Quiet (on_plain w a c)
on_plain_quiet w a c = either Quiet (is_plain c) _ _ (λ y. refl) (λ n. refl)

move_row_quiet : (found : Option Row) (from : Side) (to : Place) (end : Side) → Quiet (move_row found from to end)
move_row_quiet None from to end = refl
move_row_quiet (Some row) from to end = refl

moves_quiet : (w : World) (source destination : Bytes) (from to : Side) (c d : KeyClass) → Quiet (moves w source destination from to c d)
moves_quiet w source destination from to c d = either Quiet (is_plain c && is_plain d) _ _ (λ y. refl)
    (λ n. either Quiet (is_queue c && is_queue d) _ _ (λ y. move_row_quiet _ from (Queue (queue_of destination)) to) (λ n. refl))

delete_as_none : (w : World) (key : Bytes) (c : KeyClass) → pushed_in (delete_as w key c).changes ≡ 0
delete_as_none w key class.Plain = refl
delete_as_none w key class.Queue = none_pushed (take_all (rows_at (Queue (queue_of key)) w.rows)) _ (take_all_none (rows_at (Queue (queue_of key)) w.rows)) refl
delete_as_none w key (class.Jobs set) = take_all_none (rows_at (Set set) w.rows)
delete_as_none w key other = refl

delete_each_none : (w : World) (keys : List Bytes) → pushed_in (delete_each w keys).changes ≡ 0
delete_each_none w [] = refl
delete_each_none w (key ∷ keys) = let one = (delete_as w key (class_of key)).changes in
    none_pushed one (delete_each (perform w one) keys).changes (delete_as_none w key (class_of key)) (delete_each_none (perform w one) keys)

act_counted : (w : World) (a : Action) → Counted (acked_by a) (act w a)
act_counted w (action.WriteOp key e) = edits_counted w key e (class_of key)
act_counted w (action.Set key text options) = on_plain_quiet w (action.Set key text options) (class_of key)
act_counted w (action.Expire key millis) = on_plain_quiet w (action.Expire key millis) (class_of key)
act_counted w (action.Give key text) = on_plain_quiet w (action.Give key text) (class_of key)
act_counted w (action.Delete keys) = either Quiet (list_all (λ key. may_go (class_of key)) keys) _ _ (λ y. delete_each_none w keys) (λ n. refl)
act_counted w (action.Move source destination from to) = moves_quiet w source destination from to (class_of source) (class_of destination)
act_counted w action.Flush = none_pushed (take_all w.rows ++ map Unnames w.names) _ (none_pushed (take_all w.rows) (map Unnames w.names) (take_all_none w.rows) (unnames_none w.names)) refl
act_counted w other = refl

-- ## What batches fire

push_callback_none : (found : Option Head) (text : Bytes) → pushed_in (push_to Inner text found) ≡ 0
push_callback_none None text = refl
push_callback_none (Some h) text = refl

fire_call_none : (o : Option Bytes) → pushed_in (push_callback o) ≡ 0
fire_call_none None = refl
fire_call_none (Some text) = push_callback_none (head text) text

fire_all_none : (firings : List Firing) → pushed_in (fire_all firings) ≡ 0
fire_all_none [] = refl
fire_all_none (f ∷ firings) = none_pushed (push_callback f.payload) (fire_all firings) (fire_call_none f.payload) (fire_all_none firings)

notify_in_none : (event : Notified) (w : World) (jid : Bytes) (bid : Option Bytes) → pushed_in (notify_in event w jid bid).changes ≡ 0
notify_in_none event w jid None = refl
notify_in_none event w jid (Some bid) = fire_all_none (fires_of event bid jid w.batches)

notify_of_none : (event : Notified) (w : World) (found : Option Head) → pushed_in (notify_of event w found).changes ≡ 0
notify_of_none event w None = refl
notify_of_none event w (Some h) = notify_in_none event w h.jid h.bid

and_notify_none : (event : Notified) (w : World) (text : Bytes) (changes : List Change) → pushed_in changes ≡ 0 → pushed_in (changes ++ (notify event (perform w changes) text).changes) ≡ 0
and_notify_none event w text changes none = none_pushed changes _ none (notify_of_none event (perform w changes) (head text))

-- ## Jobs that are sent from one place to another

merge_none : (found : Option Row) (row : Row) (w : World) → pushed_in (merge found ++ Moves (Carry row Left (Set Dead) (moment_score w) Left) ∷ []) ≡ 0
merge_none None row w = refl
merge_none (Some other) row w = refl

buried_by_none : (w : World) (text : Bytes) (put : List Change) → pushed_in put ≡ 0 → pushed_in (buried_by w text put).changes ≡ 0
buried_by_none w text put none =
    let gone : List Row = surplus (perform w put) (rows_at (Set Dead) (perform w put).rows) in
    let trims : List Change = map (λ row. Moves (Trim row)) gone in
    none_pushed (put ++ trims) _ (none_pushed put trims none (trims_none gone)) (notify_of_none event.Died (perform w (put ++ trims)) (head text))

bury_none : (w : World) (row : Row) → pushed_in (bury w row).changes ≡ 0
bury_none w row = buried_by_none w row.text (put_dead w row) (merge_none _ row w)

either_sent : (b : Bool) (one other : Routed) → pushed_in one.changes ≡ 0 → pushed_in other.changes ≡ 0 → pushed_in (cond b one other).changes ≡ 0
either_sent true one other e f = e
either_sent false one other e f = f

promote_none : (w : World) (row : Row) (found : Option Head) → pushed_in (promote w row found).changes ≡ 0
promote_none w row None = bury_none w row
promote_none w row (Some h) = refl

rescue_row_none : (w : World) (row : Row) (found : Option Head) → pushed_in (rescue_row w row found).changes ≡ 0
rescue_row_none w row None = bury_none w row
rescue_row_none w row (Some h) = let noted : World = changed w (Recovers h.jid) in
    either_sent (is_poison noted h.jid) (bury_poison noted row h.jid) _ (none_pushed (bury noted row).changes _ (bury_none noted row) refl) refl

each_none : (way : World → Row → Option Head → Routed) → ((w : World) (row : Row) (found : Option Head) → pushed_in (way w row found).changes ≡ 0) → (w : World) (rows : List Row) → pushed_in (each way w rows).changes ≡ 0
each_none way one w [] = refl
each_none way one w (row ∷ rows) = let sent = (way w row (head row.text)).changes in
    none_pushed sent (each way (perform w sent) rows).changes (one w row (head row.text)) (each_none way one (perform w sent) rows)

kill_row_quiet : (w : World) (found : Option Row) → Quiet (kill_row w found)
kill_row_quiet w None = refl
kill_row_quiet w (Some row) = bury_none w row

revive_as_quiet : (row : Row) (found : Option Head) → Quiet (revive_as row found)
revive_as_quiet row None = refl
revive_as_quiet row (Some h) = refl

revive_row_quiet : (found : Option Row) → Quiet (revive_row found)
revive_row_quiet None = refl
revive_row_quiet (Some row) = revive_as_quiet row (head row.text)

-- ## What workers do

fetch_row_quiet : (seat : ℕ) (phase : Phase) (ident : Bytes) (found : Option Row) → Quiet (fetch_row seat phase ident found)
fetch_row_quiet seat phase ident None = refl
fetch_row_quiet seat phase ident (Some row) = refl

fetch_quiet : (w : World) (seat : ℕ) (phase : Phase) (ident : Bytes) (queue : Option Bytes) → Quiet (fetch w seat phase ident queue)
fetch_quiet w seat phase ident None = refl
fetch_quiet w seat phase ident (Some queue) = either Quiet (nat_lt (length (works_of phase)) most_works) _ _ (λ y. fetch_row_quiet seat phase ident _) (λ n. refl)

put_none : (set : Scored) (pair : Pair) (found : Option Row) (seat : ℕ) (phase : Phase) → pushed_in (put_as set pair found ∷ Turns seat phase ∷ []) ≡ 0
put_none set pair None seat phase = refl
put_none set pair (Some row) seat phase = refl

retry_quiet : (w : World) (seat : ℕ) (phase : Phase) (pair : Option Pair) → Quiet (retry w seat phase pair)
retry_quiet w seat phase None = refl
retry_quiet w seat phase (Some pair) = either Quiet (list_any (is_retried_as pair.1) (works_of phase)) _ _ (λ y. put_none Retry pair _ seat (staging (is_retried_as pair.1) Put phase)) (λ n. refl)

release_quiet : (w : World) (seat : ℕ) (phase : Phase) (ident : Bytes) (text : Option Bytes) → Quiet (release_of w seat phase ident text)
release_quiet w seat phase ident None = refl
release_quiet w seat phase ident (Some text) = either Quiet (list_any (is_done_as text) (works_of phase)) _ _ (λ y. refl) (λ n. refl)

work_edit_quiet : (w : World) (seat : ℕ) (phase : Phase) (ident key : Bytes) (e : WriteOp) → Quiet (work_edit w seat phase ident key e)
work_edit_quiet w seat phase ident key (edit.Zadd pairs) = retry_quiet w seat phase (only pairs)
work_edit_quiet w seat phase ident key other = release_quiet w seat phase ident (released_by ident key other)

work_as_quiet : (w : World) (seat : ℕ) (phase : Phase) (ident : Bytes) (a : Action) → Quiet (work_as w seat phase ident a)
work_as_quiet w seat phase ident (action.WriteOp key e) = work_edit_quiet w seat phase ident key e
work_as_quiet w seat phase ident other = fetch_quiet w seat phase ident (fetched_from ident other)

work_quiet : (w : World) (seat : ℕ) (phase : Phase) (a : Action) → Quiet (work w seat phase a)
work_quiet w seat Plain a = refl
work_quiet w seat (Joined ident works) a = work_as_quiet w seat (Joined ident works) ident a

-- and no reply to it acknowledges a row
works_ack_none : (c : KeyClass) (e : WriteOp) (answer : Reply) → is_worker_write c e ≡ true → acked_by_edit c e answer ≡ 0
works_ack_none c e answer is = grind (arith, is)

worker_acks_none : (a : Action) (answer : Reply) → is_worker_action a ≡ true → acked_by a answer ≡ 0
worker_acks_none (action.WriteOp key e) answer is = works_ack_none (class_of key) e answer is
worker_acks_none other answer is = refl

work_counted : (w : World) (seat : ℕ) (phase : Phase) (a : Action) → is_worker_action a ≡ true → Counted (acked_by a) (work w seat phase a)
work_counted w seat phase a is = work_quiet w seat phase a ∙ sym (worker_acks_none a _ is)

-- a text that only tells acknowledges nothing
say_acks_none : (a : Action) (s : Say) → acked_by a (reply.Say s) ≡ 0
say_acks_none (action.WriteOp key e) s = by_class (class_of key) e where
  by_class : (c : KeyClass) (e : WriteOp) → acked_by_edit c e (reply.Say s) ≡ 0
  by_class c e = grind arith
say_acks_none other s = refl

by_seat_counted : (w : World) (seat : ℕ) (phase : Phase) (c : PlainCommand) → Counted (acked_by (action_of c)) (by_seat w seat phase c)
by_seat_counted w seat phase c = either (Counted (acked_by (action_of c))) (is_worker_action (action_of c)) _ _ (λ y. work_counted w seat phase (action_of c) y)
    (λ n. either (Counted (acked_by (action_of c))) (is_plain_seat phase || is_open_to_all c) _ _ (λ y. act_counted w (action_of c)) (λ n. sym (say_acks_none (action_of c) _)))

-- ## Reports of workers

give_row_quiet : (seat : ℕ) (phase : Phase) (h : Head) (found : Option Row) → Quiet (give_row seat phase h found)
give_row_quiet seat phase h None = refl
give_row_quiet seat phase h (Some row) = refl

give_quiet : (w : World) (seat : ℕ) (phase : Phase) (ident text : Bytes) (found : Option Head) → Quiet (give w seat phase ident text found)
give_quiet w seat phase ident text None = refl
give_quiet w seat phase ident text (Some h) = give_row_quiet seat _ h (listed w ident text)

bury_text_none : (w : World) (seat : ℕ) (phase : Phase) (text : Bytes) → pushed_in (bury_text w seat phase text).changes ≡ 0
bury_text_none w seat phase text =
    let after : Phase = staging (is_buried_as text) Put phase in
    buried_by_none w text (put_back w Dead (moment_score w, text) ∷ Turns seat after ∷ []) (put_none Dead (moment_score w, text) (row_of text (rows_at (Set Dead) w.rows)) seat after)

-- ## Unique jobs

unlocks_at_none : (until : Until) (h : Head) (lock : Option Lock) → pushed_in (unlocks_at until h lock) ≡ 0
unlocks_at_none until h None = refl
unlocks_at_none until h (Some lock) = by_until (is_until until lock.until) where
  by_until : (b : Bool) → pushed_in (cond b (Unlocks (digest h) h.jid ∷ []) []) ≡ 0
  by_until true = refl
  by_until false = refl

unlocks_of_none : (until : Until) (found : Option Head) → pushed_in (unlocks_of until found) ≡ 0
unlocks_of_none until None = refl
unlocks_of_none until (Some h) = unlocks_at_none until h h.lock

unlocks_none : (until : Until) (text : Bytes) → pushed_in (unlocks until text) ≡ 0
unlocks_none until text = unlocks_of_none until (head text)

-- a job that has returned
ok_none : (w : World) (seat : ℕ) (phase : Phase) (text : Bytes)
    → pushed_in (and_unlock text (and_notify event.Returned w text (Turns seat (staging (is_held_as text) (Settled end.Returned) phase) ∷ Counts processed ∷ []))).changes ≡ 0
ok_none w seat phase text =
    let changes : List Change = Turns seat (staging (is_held_as text) (Settled end.Returned) phase) ∷ Counts processed ∷ [] in
    none_pushed (and_notify event.Returned w text changes).changes (unlocks until.Success text) (and_notify_none event.Returned w text changes refl) (unlocks_none until.Success text)

-- what the reply to SK.UPUSH acknowledges is pushed
abbrev IsUnique : Option ℤ → Outcome → Type 0
IsUnique score o = AcksUnique score o.reply (pushed_in o.changes)

turned_away : (score : Option ℤ) (answer : Reply) → is_ok answer ≡ false → AcksUnique score answer 0
turned_away None answer other = sym (ap one_if other)
turned_away (Some score) answer other = omega arith

-- a text that is in the schedule already gets the score
scheduled_once : (pair : Pair) (found : Option Row) → pushed_in (add_as Schedule pair found ∷ []) ≤ 1
scheduled_once pair None = omega arith
scheduled_once pair (Some row) = omega arith

push_locked_acked : (w : World) (h : Head) (lock : Lock) (text : Bytes) (score : Option ℤ) → head text ≡ Some h → IsUnique score (push_locked w h lock text score)
push_locked_acked w h lock text None is = subst (λ found. pushed_in (push_to Outside text found) ≡ 1) (sym is) refl
push_locked_acked w h lock text (Some score) is = scheduled_once (score, text) (row_of text (rows_at (Set Schedule) w.rows))

or_holder_acked : (score : Option ℤ) (holder : Option Bytes) (o : Outcome) → IsUnique score o → IsUnique score (or_holder holder o)
or_holder_acked score None o one = one
or_holder_acked score (Some jid) o one = turned_away score (reply.Bulk jid) refl

unique_push_of_acked : (w : World) (text : Bytes) (score : Option ℤ) (h : Head) (lock : Option Lock) (bid : Option Bytes) → head text ≡ Some h → IsUnique score (unique_push_of w text score h lock bid)
unique_push_of_acked w text score h None bid is = turned_away score _ refl
unique_push_of_acked w text score h (Some lock) (Some bid) is = turned_away score _ refl
unique_push_of_acked w text score h (Some lock) None is = either (IsUnique score) (is_store_full w (text ∷ [])) _ _ (λ y. turned_away score _ refl)
    (λ n. or_holder_acked score (holder_at (digest h) w.moment w.leases) (push_locked w h lock text score) (push_locked_acked w h lock text score is))

unique_push_by_acked : (w : World) (text : Bytes) (score : Option ℤ) (found : Option Head) → head text ≡ found → IsUnique score (unique_push_by w text score found)
unique_push_by_acked w text score None is = turned_away score _ refl
unique_push_by_acked w text score (Some h) is = unique_push_of_acked w text score h h.lock h.bid is

unique_push_acked : (w : World) (text : Bytes) (score : Option ℤ) → IsUnique score (unique_push w text score)
unique_push_acked w text score = unique_push_by_acked w text score (head text) refl

-- ## The leader and periodic jobs

lead_quiet : (w : World) (ident : Bytes) → Quiet (lead w ident)
lead_quiet w ident = either Quiet (is_process w ident) _ _ (λ y. either Quiet (is_led_by_another ident w.moment w.leases) _ _ (λ y. refl) (λ n. refl)) (λ n. refl)

-- a periodic job is the store's own push
slot_quiet : (w : World) (loop : Bytes) (slot : ℕ) (text : Bytes) → Quiet (push_slot w loop slot text)
slot_quiet w loop slot text = either Quiet (is_store_full w (text ∷ [])) _ _ (λ y. refl) (λ n. push_callback_none (head text) text)

cron_quiet : (w : World) (ident loop : Bytes) (slot : ℕ) (text : Bytes) → Quiet (cron w ident loop slot text)
cron_quiet w ident loop slot text =
    either Quiet (not (is_process w ident)) _ _ (λ y. refl) (λ n.
    either Quiet (not (may_call (head text) && is_name 255 loop)) _ _ (λ y. refl) (λ n.
    either Quiet (not (leads ident w.moment w.leases)) _ _ (λ y. refl) (λ n.
    either Quiet (not (is_above slot (last loop w.leases))) _ _ (λ y. refl) (λ n.
    either Quiet (not (is_in_time w slot)) _ _ (λ y. refl) (λ n.
    either Quiet (not (has_loop w loop)) _ _ (λ y. refl) (λ n.
    slot_quiet w loop slot text))))))

-- ## Batches

job_counted : (text : Bytes) (bid : Bytes) (found : Option Head) → may_join bid found ≡ true → pushed_in (push_to Outside text found) ≡ 1
job_counted text bid None joins = absurd (cc joins)
job_counted text bid (Some h) joins = refl

both_of : (a b : Bool) → a && b ≡ true → (a ≡ true) × (b ≡ true)
both_of true b e = (refl, e)
both_of false b e = absurd (cc e)

-- each text that may join has a head, and so is pushed
jobs_counted : (bid : Bytes) (texts : List Bytes) → all_may_join bid texts ≡ true → pushed_in (push_jobs texts) ≡ length texts
jobs_counted bid [] all = refl
jobs_counted bid (text ∷ texts) all =
    let one = job_counted text bid (head text) (both_of (may_join bid (head text)) (all_may_join bid texts) all).0 in
    let rest = jobs_counted bid texts (both_of (may_join bid (head text)) (all_may_join bid texts) all).1 in
    omega (arith, one, rest, pushed-append (push_job Outside text) (push_jobs texts))

not_true : (b : Bool) → not b ≡ false → b ≡ true
not_true true e = refl
not_true false e = absurd (cc e)

both_true : (a b : Bool) → not (a && b) ≡ false → b ≡ true
both_true true b e = not_true b e
both_true false b e = absurd (cc e)

fault_or : (P : Outcome → Type 0) → ((s : Say) → P (record { reply = reply.Say s; changes = [] })) → (fault : Option BatchFault) (o : Outcome) → P o → P (unless fault o)
fault_or P none None o one = one
fault_or P none (Some fault) o one = none _

make_counted : (batch : Batch) (texts : List Bytes) → all_may_join batch.bid texts ≡ true → pushed_in (make batch texts).changes ≡ length texts
make_counted batch texts all =
    let firings : List Firing = made_fires batch (jids_of texts) in
    omega (arith, jobs_counted batch.bid texts all, fire_all_none firings, pushed-append (push_jobs texts) (fire_all firings))

batch_push_counted : (w : World) (batch : Batch) (texts : List Bytes) → Counted (λ answer. where_array answer (length texts)) (batch_push w batch texts)
batch_push_counted w batch texts =
    let P : Outcome → Type 0 = Counted (λ answer. where_array answer (length texts)) in
    either P (not (is_name 64 batch.bid)) _ _ (λ y. refl) (λ n.
    fault_or P (λ s. refl) (bid_fault batch.bid batch.parent w.batches None) _ (
    either P (not (are_callbacks batch.callbacks && all_may_join batch.bid texts)) _ _ (λ y. refl) (λ all.
    fault_or P (λ s. refl) (jids_fault batch.bid (jids_of texts) w.batches (breaks (is_full w.batches) Full None)) _ (
    either P (is_too_much w texts) _ _ (λ y. refl) (λ n. make_counted batch texts (both_true _ _ all))))))

batch_add_counted : (w : World) (bid : Bytes) (texts : List Bytes) → Counted number_in (batch_add w bid texts)
batch_add_counted w bid texts =
    fault_or (Counted number_in) (λ s. refl) (batch_fault bid w.batches None) _ (
    either (Counted number_in) (not (all_may_join bid texts)) _ _ (λ y. refl) (λ all.
    fault_or (Counted number_in) (λ s. refl) (jids_fault bid (jids_of texts) w.batches None) _ (
    either (Counted number_in) (is_too_much w texts) _ _ (λ y. refl) (λ n. jobs_counted bid texts (not_true _ all)))))

stat_quiet : (found : Option BatchStat) → Quiet (tells_stat found)
stat_quiet None = refl
stat_quiet (Some s) = refl

-- ## The store's own commands

-- its reply acknowledges what it pushes
abbrev IsAcked : ScriptCommand → Outcome → Type 0
IsAcked c o = AcksScript c o.reply (pushed_in o.changes)

run_acked : (w : World) (seat : ℕ) (phase : Phase) (c : ScriptCommand) → IsAcked c (run w seat phase c)
run_acked w seat phase (script.Beat ident) = either Quiet (is_name 255 ident) _ _ (λ y. refl) (λ n. refl)
run_acked w seat phase (script.Join ident) = in_plain Quiet phase _ (λ s. refl) (either Quiet (is_name 255 ident && is_alive ident w.moment w.leases) _ _ (λ y. refl) (λ n. refl))
run_acked w seat phase (script.Start text) = in_some Quiet phase (is_held_as text) _ (λ s. refl) (λ ident. unlocks_none until.Start text)
run_acked w seat phase (script.Ok text) = in_some Quiet phase (is_held_as text) _ (λ s. refl) (λ ident. ok_none w seat phase text)
run_acked w seat phase (script.Fail text) = in_some Quiet phase (is_held_as text) _ (λ s. refl) (λ ident. and_notify_none event.Reported w text (Counts processed ∷ Counts failed ∷ []) refl)
run_acked w seat phase (script.Drop text) = in_some Quiet phase (is_held_as text) _ (λ s. refl) (λ ident. refl)
run_acked w seat phase (script.Bury text) = in_some Quiet phase (is_buried_as text) _ (λ s. refl) (λ ident. bury_text_none w seat phase text)
run_acked w seat phase (script.Back text) = in_some Quiet phase (is_held_as text) _ (λ s. refl) (λ ident. give_quiet w seat phase ident text (head text))
run_acked w seat phase (script.Due set limit) = in_plain Quiet phase _ (λ s. refl) (each_none promote promote_none w (due_rows w set (nat_abs limit)))
run_acked w seat phase (script.Revive set text) = in_plain Quiet phase _ (λ s. refl) (revive_row_quiet (row_of text (rows_at (Set set) w.rows)))
run_acked w seat phase (script.Kill set text) = in_plain Quiet phase _ (λ s. refl) (kill_row_quiet w _)
run_acked w seat phase script.Rescue = in_plain Quiet phase _ (λ s. refl) (each_none rescue_row rescue_row_none w (left_rows w))
run_acked w seat phase (script.Upush text score) = unique_push_acked w text score
run_acked w seat phase (script.Lead ident) = in_plain Quiet phase _ (λ s. refl) (lead_quiet w ident)
run_acked w seat phase (script.Cron ident loop slot text) = in_plain Quiet phase _ (λ s. refl) (cron_quiet w ident loop (nat_abs slot) text)
run_acked w seat phase (script.Bpush bid parent complete success death texts) = batch_push_counted w (batch_of bid parent complete success death) texts
run_acked w seat phase (script.Badd bid texts) = batch_add_counted w bid texts
run_acked w seat phase (script.Bstat bid) = stat_quiet (stat bid w.batches)
run_acked w seat phase other = refl

-- ## The step

-- a refusal acknowledges nothing
module _ (s : Say) (refused : is_ok (reply.Say s) ≡ false) where
  script_acks_none : (c : ScriptCommand) → AcksScript c (reply.Say s) 0
  script_acks_none (script.Upush text score) = turned_away score (reply.Say s) refused
  script_acks_none other = refl

  acks_none : (c : Command) → Acks c (reply.Say s) 0
  acks_none (command.Plain c) = sym (say_acks_none (action_of c) s)
  acks_none (command.Script c) = script_acks_none c

-- nor does want of memory
pub starved_acks_none : (c : Command) → Acks c (reply.Say say.Oom) 0
starved_acks_none c = acks_none say.Oom refl c

outcome_acked : (w : World) (seat now : ℕ) (c : Command) → Acks c (outcome w seat now c).reply (pushed_in (outcome w seat now c).changes)
outcome_acked w seat now (command.Plain c) = by_seat_counted (changed w (Passes now)) seat (phase_of w seat) c
outcome_acked w seat now (command.Script c) = run_acked (changed w (Passes now)) seat (phase_of w seat) c

-- Whatever command a seat sends, and wherever memory runs out: the rows from outside that the tally counts rise by what the reply acknowledges.
pub acked : RepliesAcknowledge
acked w seat now c o steps = record { added = pushed_in o.changes; acks = by_step steps; after_is = outside_counts w o.changes } where
  by_step : MayComeTo w seat now c o → Acks c o.reply (pushed_in o.changes)
  by_step (inl e) = subst (λ (u : Outcome). Acks c u.reply (pushed_in u.changes)) (sym e) (outcome_acked w seat now c)
  by_step (inr (may, e)) = subst (λ (u : Outcome). Acks c u.reply (pushed_in u.changes)) (sym e) (starved_acks_none c)
