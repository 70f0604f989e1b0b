-- Each command's moves have causes.
use Rattle.std.proofs.Common.{◌≡◌, ℕ, zero, suc, List, [], ◌∷◌, ◌++◌, refl, sym, ap, subst, ◌∙◌, inl, inr, arith, Bool, true, false, cond, not, ◌||◌, ◌&&◌, map}
use Rattle.std.specs.Prelude.{ℤ, pos, Option, Some, None, Ok, Err, length, nat_abs, nat_lt, filter}
use Rattle.std.specs.Ordering.{int_cmp, is_eq}
use Rattle.std.specs.List.{list_all, list_any}
use Rattle.std.specs.Str.{bytes_eq}
use Rattle.sk_resp.specs.Spelling.{Bytes}
use Rattle.sk_cmd.specs.Reading.{Read}
use Rattle.sk_cmd.specs.Table.{IsRead}
use Rattle.sk_cmd.specs.declared.argument.Side.{Side}
use Rattle.sk_cmd.specs.declared.argument.Side.TheVariants.{Left, Right}
use Rattle.sk_cmd.specs.declared.argument.Scored.{Scored}
use Rattle.sk_cmd.specs.declared.argument.Scored.TheVariants.{Schedule, Retry, Dead}
use Rattle.sk_cmd.specs.declared.command.Command.{Command}
use Rattle.sk_cmd.specs.declared.command.Command.TheVariants as command
use Rattle.sk_cmd.specs.declared.command.PlainCommand.{PlainCommand}
use Rattle.sk_cmd.specs.declared.command.PlainCommand.TheVariants as plain
use Rattle.sk_cmd.specs.declared.command.ScriptCommand.{ScriptCommand}
use Rattle.sk_cmd.specs.declared.command.ScriptCommand.TheVariants as script
use Rattle.sk_payload.specs.Head.{head}
use Rattle.sk_payload.specs.Member.{is_name}
use Rattle.sk_payload.specs.declared.head.Head.{Head}
use Rattle.sk_zset.specs.Bounds.{is_between}
use Rattle.sk_zset.specs.Pair.{Pair}
use Rattle.sk_value.specs.Lists.{range_of}
use Rattle.sk_resp.specs.WordOrder.{is_member}
use Rattle.sk_value.specs.Action.{action_of}
use Rattle.sk_value.specs.declared.action.Action.{Action}
use Rattle.sk_value.specs.declared.action.Action.TheVariants as action
use Rattle.sk_value.specs.declared.write_op.WriteOp.{WriteOp}
use Rattle.sk_value.specs.declared.write_op.WriteOp.TheVariants as edit
use Rattle.sk_places.specs.declared.row.Place.{Place}
use Rattle.sk_places.specs.declared.row.Place.TheVariants.{Queue, Set}
use Rattle.sk_places.specs.declared.row.Row.{Row}
use Rattle.sk_places.specs.Rows.{copies_of, end_taken, number_taken, pair_of, row_at, row_of, rows_at}
use Rattle.sk_batch.specs.Batched.{Batched, is_there}
use Rattle.sk_batch.specs.Events.{made_fires}
use Rattle.sk_batch.specs.Faults.{bid_fault, batch_fault, jids_fault, breaks, is_full}
use Rattle.sk_batch.specs.Stat.{stat}
use Rattle.sk_batch.specs.declared.batch.Batch.{Batch}
use Rattle.sk_batch.specs.declared.batch_fault.BatchFault.{BatchFault}
use Rattle.sk_batch.specs.declared.batch_fault.BatchFault.TheVariants.{Full}
use Rattle.sk_batch.specs.declared.batch_stat.BatchStat.{BatchStat}
use Rattle.sk_batch.specs.declared.event.Event.TheVariants.{Returned, Reported}
use Rattle.sk_batch.specs.declared.firing.Firing.{Firing}
use Rattle.sk_places.specs.declared.origin.Origin.TheVariants.{Outside}
use Rattle.sk_key.specs.declared.key_class.KeyClass.{KeyClass}
use Rattle.sk_key.specs.declared.key_class.KeyClass.TheVariants as class
use Rattle.sk_seats.specs.declared.work.End.TheVariants as end
use Rattle.sk_seats.specs.declared.phase.Phase.{Phase}
use Rattle.sk_seats.specs.declared.phase.Phase.TheVariants.{Plain, Joined}
use Rattle.sk_seats.specs.declared.work.Stage.TheVariants.{Put, Settled}
use Rattle.sk_seats.specs.declared.work.Work.{Work}
use Rattle.sk_seats.specs.Phases.{is_plain as is_plain_seat, releasing, staging, works_of}
use Rattle.sk_seats.specs.Works.{is_buried_as, is_done_as, is_held_as, is_retried_as, most_works}
use Rattle.sk_counters.specs.Counters.{processed, failed}
use Rattle.sk_leases.specs.Leased.{is_alive}
use Rattle.sk_model.specs.Reading.{Words}
use Rattle.sk_model.specs.World.{World, phase_of, first}
use Rattle.sk_model.specs.Change.{Carry, Trim, Change, Moves, Passes, Names, Unnames, Turns, Counts, Recovers, Forgets, TakesSlot, Makes, changed, perform}
use Rattle.sk_key.specs.Class.{class_of, queue_of, is_plain, is_queue, private_key}
use Rattle.sk_model.specs.Outcome.{Outcome}
use Rattle.sk_model.specs.Room.{is_full as is_store_full, is_too_much}
use Rattle.sk_model.specs.Queues.{pushes, takes, move_row}
use Rattle.sk_model.specs.Deletes.{take_all, delete_as, delete_each, may_go}
use Rattle.sk_model.specs.Sets.{add_as, add_one, add_each, edit_jobs, put_as, put_back}
use Rattle.sk_model.specs.Seats.{fetched_from, is_open_to_all, is_worker_action, only, released_by, releases, where_plain, where_some}
use Rattle.sk_model.specs.Jobs.{Routed, bury, buried_by, due_rows, each, kill_row, merge, moment_score, put_dead, revive_as, revive_row, promote, surplus, to_queue}
use Rattle.sk_model.specs.Notify.{and_notify, push_job, push_to, fire_all}
use Rattle.sk_model.specs.Batches.{all_may_join, are_callbacks, may_call, batch_add, batch_of, batch_push, jids_of, join as join_batch, make, push_jobs, tells_stat, unless}
use Rattle.sk_model.specs.Rescue.{bury_poison, is_poison, left_rows, rescue_row}
use Rattle.sk_model.specs.Workers.{bury as bury_held, fail, fetch, fetch_row, give, give_row, ok, release_of, retry, work, work_as, work_edit}
use Rattle.sk_model.specs.Step.{act, by_seat, edit_names, edit_queue, edits, moves, on_plain, outcome, run}
use Rattle.sk_model.specs.Event.{Event, Ask, Cut, ResultsIn, Happens, Run, Step, after}
use Rattle.sk_model.specs.Causes.{CausesFrom, HaveCauses, IsRemoval, IsSlot, MovesHaveCauses, removes}
use Rattle.sk_model.specs.Unique.{unlocks}
use Rattle.sk_payload.specs.declared.head.Until.TheVariants as until
use Rattle.sk_leases.specs.Leased.{is_led_by_another, last, leads}
use Rattle.sk_model.specs.Periodic.{cron, has_loop, is_above, is_in_time, is_process, lead, push_slot}
use Rattle.sk_model.proofs.Commands.Unique.{unique_push_causes, unlocks_causes}
use Rattle.sk_model.proofs.Changes.Marked.{ParentTakes, Sane}
use Rattle.sk_model.proofs.Changes.Fired.{all_quiet, perform-append, quiet-append, quiet_batches}
use Rattle.sk_model.proofs.Changes.Callbacks.{AllCalled}
use Rattle.sk_model.proofs.Changes.Notify.{tells_death}
use Rattle.sk_model.proofs.Commands.Sets.{trims_quiet}
use Rattle.sk_model.proofs.Tools.Texts.{score_is}
use Rattle.sk_model.proofs.Tools.Works.{any_weaker}
use Rattle.sk_model.proofs.Commands.Workers.{put_quiet}
use Rattle.sk_model.proofs.Commands.Batches.{bid_clear, jobs_quiet, made_called}
use Rattle.sk_model.proofs.Commands.All.{lawful}
use Rattle.sk_model.proofs.Theorems.Callbacks.{sane_first}
use Rattle.sk_model.proofs.Changes.Causes.{all_tame, buried_causes, causes_append, causes_tame, fires_cause, job_causes, some_burial, tame-append, notify_causes}

-- ## Which outcome it is

either : (P : List Change → Type 0) (b : Bool) (one other : Outcome) → (b ≡ true → P one.changes) → (b ≡ false → P other.changes) → P (cond b one other).changes
either P true one other f g = f refl
either P false one other f g = g refl

in_plain : (P : List Change → Type 0) (phase : Phase) (o : Outcome) → P [] → P o.changes → P (where_plain phase o).changes
in_plain P Plain o none one = one
in_plain P (Joined ident works) o none one = none

in_some : (P : List Change → Type 0) (phase : Phase) (test : Work → Bool) (o : Bytes → Outcome) → P [] → ((ident : Bytes) → list_any test (works_of phase) ≡ true → P (o ident).changes) → P (where_some phase test o).changes
in_some P Plain test o none one = none
in_some P (Joined ident works) test o none one = either P (list_any test works) _ _ (λ y. one ident y) (λ n. none)

not_false : (b : Bool) → not b ≡ false → b ≡ true
not_false true e = refl
not_false false e = absurd (cc e)

-- ## What clients do to keys needs no cause, but where it takes rows away

abbrev edit_takes : WriteOp → Bool
edit_takes (edit.Lrem count text) = true
edit_takes (edit.Zrem members) = true
edit_takes (edit.Zremrangebyrank first last) = true
edit_takes (edit.Zremrangebyscore least greatest) = true
edit_takes other = false

abbrev action_takes : Action → Bool
action_takes (action.WriteOp key e) = edit_takes e
action_takes (action.Delete keys) = true
action_takes action.Flush = true
action_takes other = false

abbrev Tame : Bool → List Change → Type 0
Tame takes changes = all_tame takes changes ≡ true

pushes_tame : (b : Bool) (end : Side) (place : Place) (texts : List Bytes) → Tame b (pushes end place texts)
pushes_tame b end place [] = refl
pushes_tame b end place (text ∷ texts) = pushes_tame b end place texts

takes_tame : (n : ℕ) (row : Row) (end : Side) → Tame true (takes n row end)
takes_tame zero row end = refl
takes_tame (suc n) row end = takes_tame n row end

take_all_tame : (rows : List Row) → Tame true (take_all rows)
take_all_tame [] = refl
take_all_tame (row ∷ rows) = take_all_tame rows

names_tame : (b : Bool) (names : List Bytes) → Tame b (map Names names)
names_tame b [] = refl
names_tame b (name ∷ names) = names_tame b names

unnames_tame : (b : Bool) (names : List Bytes) → Tame b (map Unnames names)
unnames_tame b [] = refl
unnames_tame b (name ∷ names) = unnames_tame b names

add_as_tame : (b : Bool) (set : Scored) (pair : Pair) (found : Option Row) (more : List Change) → Tame b more → Tame b (add_as set pair found ∷ more)
add_as_tame b set pair None more e = e
add_as_tame b set pair (Some row) more e = e

add_each_tame : (b : Bool) (w : World) (set : Scored) (pairs : List Pair) → Tame b (add_each w set pairs)
add_each_tame b w set [] = refl
add_each_tame b w set (pair ∷ pairs) = let one = add_one w set pair in
    add_as_tame b set pair (row_of pair.1 (rows_at (Set set) w.rows)) (add_each (changed w one) set pairs) (add_each_tame b (changed w one) set pairs)

zadd_tame : (w : World) (set : Scored) (pairs : List Pair) → Tame false (edit_jobs w set (edit.Zadd pairs)).changes
zadd_tame w Schedule pairs = either (Tame false) (is_store_full w (map (λ pair. pair.1) pairs)) _ _ (λ y. refl) (λ n. add_each_tame false w Schedule pairs)
zadd_tame w Retry pairs = refl
zadd_tame w Dead pairs = refl

edit_jobs_tame : (w : World) (set : Scored) (e : WriteOp) → Tame (edit_takes e) (edit_jobs w set e).changes
edit_jobs_tame w set (edit.Zadd pairs) = zadd_tame w set pairs
edit_jobs_tame w set (edit.Zrem members) = take_all_tame (filter (λ row. is_member row.text members) (rows_at (Set set) w.rows))
edit_jobs_tame w set (edit.Zremrangebyrank first last) = take_all_tame (range_of first last (rows_at (Set set) w.rows))
edit_jobs_tame w set (edit.Zremrangebyscore least greatest) = take_all_tame (filter (λ row. is_between least greatest (pair_of row)) (rows_at (Set set) w.rows))
edit_jobs_tame w set (edit.Push side texts) = refl
edit_jobs_tame w set (edit.Lrem count text) = refl
edit_jobs_tame w set (edit.Incrby n) = refl
edit_jobs_tame w set (edit.Sadd members) = refl
edit_jobs_tame w set (edit.Srem members) = refl
edit_jobs_tame w set (edit.Hset pairs) = refl
edit_jobs_tame w set (edit.Hdel fields) = refl

edit_queue_tame : (w : World) (queue : Bytes) (e : WriteOp) → Tame (edit_takes e) (edit_queue w queue e).changes
edit_queue_tame w queue (edit.Push side texts) = either (Tame false) (is_store_full w texts) _ _ (λ y. refl) (λ n. pushes_tame false side (Queue queue) texts)
edit_queue_tame w queue (edit.Lrem count text) = let row = row_at (Queue queue) text in takes_tame (number_taken count (copies_of row w.rows)) row (end_taken count)
edit_queue_tame w queue (edit.Incrby n) = refl
edit_queue_tame w queue (edit.Sadd members) = refl
edit_queue_tame w queue (edit.Srem members) = refl
edit_queue_tame w queue (edit.Hset pairs) = refl
edit_queue_tame w queue (edit.Hdel fields) = refl
edit_queue_tame w queue (edit.Zadd scores) = refl
edit_queue_tame w queue (edit.Zrem members) = refl
edit_queue_tame w queue (edit.Zremrangebyrank first last) = refl
edit_queue_tame w queue (edit.Zremrangebyscore least greatest) = refl

edit_names_tame : (b : Bool) (w : World) (e : WriteOp) → Tame b (edit_names w e).changes
edit_names_tame b w (edit.Sadd names) = either (Tame b) (list_all (is_name 255) names) _ _ (λ y. names_tame b names) (λ n. refl)
edit_names_tame b w (edit.Push side texts) = refl
edit_names_tame b w (edit.Lrem count text) = refl
edit_names_tame b w (edit.Incrby n) = refl
edit_names_tame b w (edit.Srem members) = refl
edit_names_tame b w (edit.Hset pairs) = refl
edit_names_tame b w (edit.Hdel fields) = refl
edit_names_tame b w (edit.Zadd scores) = refl
edit_names_tame b w (edit.Zrem members) = refl
edit_names_tame b w (edit.Zremrangebyrank first last) = refl
edit_names_tame b w (edit.Zremrangebyscore least greatest) = refl

edits_tame : (w : World) (key : Bytes) (e : WriteOp) (c : KeyClass) → Tame (edit_takes e) (edits w key e c).changes
edits_tame w key e class.Plain = refl
edits_tame w key e class.Queue = edit_queue_tame w (queue_of key) e
edits_tame w key e class.Queues = edit_names_tame (edit_takes e) w e
edits_tame w key e (class.Jobs set) = edit_jobs_tame w set e
edits_tame w key e class.NoQueue = refl
edits_tame w key e class.Private = refl
edits_tame w key e class.NoPrivate = refl
edits_tame w key e class.Processes = refl
edits_tame w key e class.Counter = refl

on_plain_tame : (w : World) (a : Action) (c : KeyClass) → Tame false (on_plain w a c).changes
on_plain_tame w a c = either (Tame false) (is_plain c) _ _ (λ y. refl) (λ n. refl)

move_row_tame : (found : Option Row) (from : Side) (to : Place) (end : Side) → Tame false (move_row found from to end).changes
move_row_tame None from to end = refl
move_row_tame (Some row) from to end = refl

moves_tame : (w : World) (source destination : Bytes) (from to : Side) (c d : KeyClass) → Tame false (moves w source destination from to c d).changes
moves_tame w source destination from to c d = either (Tame false) (is_plain c && is_plain d) _ _ (λ y. refl)
    (λ n. either (Tame false) (is_queue c && is_queue d) _ _ (λ y. move_row_tame _ from (Queue (queue_of destination)) to) (λ n. refl))

delete_as_tame : (w : World) (key : Bytes) (c : KeyClass) → Tame true (delete_as w key c).changes
delete_as_tame w key class.Plain = refl
delete_as_tame w key class.Queue = tame-append true (take_all (rows_at (Queue (queue_of key)) w.rows)) (Unnames (queue_of key) ∷ []) (take_all_tame (rows_at (Queue (queue_of key)) w.rows)) refl
delete_as_tame w key (class.Jobs set) = take_all_tame (rows_at (Set set) w.rows)
delete_as_tame w key class.NoQueue = refl
delete_as_tame w key class.Private = refl
delete_as_tame w key class.NoPrivate = refl
delete_as_tame w key class.Processes = refl
delete_as_tame w key class.Queues = refl
delete_as_tame w key class.Counter = refl

delete_each_tame : (w : World) (keys : List Bytes) → Tame true (delete_each w keys).changes
delete_each_tame w [] = refl
delete_each_tame w (key ∷ keys) = let one = (delete_as w key (class_of key)).changes in
    tame-append true one (delete_each (perform w one) keys).changes (delete_as_tame w key (class_of key)) (delete_each_tame (perform w one) keys)

act_tame : (w : World) (a : Action) → Tame (action_takes a) (act w a).changes
act_tame w action.Ping = refl
act_tame w (action.Echo text) = refl
act_tame w action.Quit = refl
act_tame w (action.ReadOp key look) = refl
act_tame w (action.WriteOp key e) = edits_tame w key e (class_of key)
act_tame w (action.Set key text options) = on_plain_tame w (action.Set key text options) (class_of key)
act_tame w (action.Expire key millis) = on_plain_tame w (action.Expire key millis) (class_of key)
act_tame w (action.Give key text) = on_plain_tame w (action.Give key text) (class_of key)
act_tame w (action.Exists keys) = refl
act_tame w (action.Delete keys) = either (Tame true) (list_all (λ key. may_go (class_of key)) keys) _ _ (λ y. delete_each_tame w keys) (λ n. refl)
act_tame w (action.Move source destination from to) = moves_tame w source destination from to (class_of source) (class_of destination)
act_tame w action.Flush = tame-append true (take_all w.rows ++ map Unnames w.names) _ (tame-append true (take_all w.rows) (map Unnames w.names) (take_all_tame w.rows) (unnames_tame true w.names)) refl

-- the commands that take rows away
takes_of : (c : PlainCommand) → action_takes (action_of c) ≡ true → removes c ≡ true
takes_of c e = grind (arith, e)

-- a worker's seat may send none of them
none_for_all : (c : PlainCommand) → removes c ≡ true → is_open_to_all c ≡ false
none_for_all c e = grind (arith, e)

plain_is : (phase : Phase) → is_plain_seat phase ≡ true → phase ≡ Plain
plain_is Plain e = refl
plain_is (Joined ident works) e = absurd (cc e)

-- one command alone comes to an edit of this kind
lrem_is : (c : PlainCommand) (key : Bytes) (count : ℤ) (text : Bytes) → action_of c ≡ action.WriteOp key (edit.Lrem count text) → c ≡ plain.Lrem key count text
lrem_is c key count text e = grind (arith, e)

-- ## Burying

module _ (v : World) (text : Bytes) (put : List Change) (quiet : all_quiet put ≡ true) where
  abbrev after_put : World
  after_put = perform v put

  abbrev gone : List Row
  gone = surplus after_put (rows_at (Set Dead) after_put.rows)

  abbrev done : List Change
  done = put ++ map (λ row. Moves (Trim row)) gone

  done_sane : Sane v.batches → Sane (perform v done).batches
  done_sane s = subst Sane (sym (quiet_batches v done (quiet-append put _ quiet (trims_quiet gone)))) s

  -- a burying leaves the batches sane
  buried_sane : Sane v.batches → Sane (perform v (buried_by v text put).changes).batches
  buried_sane s = subst (λ (u : World). Sane u.batches) (sym (perform-append v done _)) ((tells_death (perform v done) (head text)).leads.sane (done_sane s))

dead_quiet : (found : Option Row) (row : Row) (v : World) → all_quiet (merge found ++ Moves (Carry row Left (Set Dead) (moment_score v) Left) ∷ []) ≡ true
dead_quiet None row v = refl
dead_quiet (Some other) row v = refl

dead_buried : (found : Option Row) (row : Row) (v : World) → some_burial (merge found ++ Moves (Carry row Left (Set Dead) (moment_score v) Left) ∷ []) ≡ true
dead_buried None row v = refl
dead_buried (Some other) row v = refl

dead_tame : (found : Option Row) (row : Row) (v : World) → Tame false (merge found ++ Moves (Carry row Left (Set Dead) (moment_score v) Left) ∷ [])
dead_tame None row v = refl
dead_tame (Some other) row v = refl

no_removal : (w : World) (event : Event) → false ≡ true → IsRemoval w event
no_removal w event e = absurd (cc e)

bury_sane : (v : World) (row : Row) → Sane v.batches → Sane (perform v (bury v row).changes).batches
bury_sane v row s = buried_sane v row.text (put_dead v row) (dead_quiet _ row v) s

-- a way to send a row
pub record Caused (w : World) (event : Event) (way : World → Row → Option Head → Routed) : Type 0 where
  pub causes : (v : World) (row : Row) (found : Option Head) → Sane v.batches → HaveCauses w event false [] v (way v row found).changes
  pub sane : (v : World) (row : Row) (found : Option Head) → Sane v.batches → Sane (perform v (way v row found).changes).batches

module _ (w : World) (event : Event) where
  tame_causes : (v : World) (changes : List Change) → Tame false changes → HaveCauses w event false [] v changes
  tame_causes v changes e = causes_tame w event false false [] v changes (no_removal w event) e

  bury_causes : (v : World) (row : Row) → Sane v.batches → HaveCauses w event false [] v (bury v row).changes
  bury_causes v row s =
      let put : List Change = put_dead v row in
      let quiet : all_quiet put ≡ true = dead_quiet _ row v in
      buried_causes w event v row.text put (dead_buried _ row v) (tame_causes v put (dead_tame _ row v)) (done_sane v row.text put quiet s)

  -- ## Each row that is sent on

  each_causes : (way : World → Row → Option Head → Routed) → Caused w event way → (v : World) (rows : List Row) → Sane v.batches → HaveCauses w event false [] v (each way v rows).changes
  each_causes way c v [] s = tt
  each_causes way c v (row ∷ rows) s =
      let one : List Change = (way v row (head row.text)).changes in
      causes_append w event false [] v one (each way (perform v one) rows).changes (c.causes v row (head row.text) s) (each_causes way c (perform v one) rows (c.sane v row (head row.text) s))

  promote_caused : Caused w event promote
  promote_caused = record { causes = causes; sane = sane } where
    causes : (v : World) (row : Row) (found : Option Head) → Sane v.batches → HaveCauses w event false [] v (promote v row found).changes
    causes v row None s = bury_causes v row s
    causes v row (Some h) s = (tt, tt)

    sane : (v : World) (row : Row) (found : Option Head) → Sane v.batches → Sane (perform v (promote v row found).changes).batches
    sane v row None s = bury_sane v row s
    sane v row (Some h) s = s

  either_sent : (P : List Change → Type 0) (b : Bool) (one other : Routed) → P one.changes → P other.changes → P (cond b one other).changes
  either_sent P true one other f g = f
  either_sent P false one other f g = g

  rescue_caused : Caused w event rescue_row
  rescue_caused = record { causes = causes; sane = sane } where
    causes : (v : World) (row : Row) (found : Option Head) → Sane v.batches → HaveCauses w event false [] v (rescue_row v row found).changes
    causes v row None s = bury_causes v row s
    causes v row (Some h) s =
        let noted : World = changed v (Recovers h.jid) in (
          tt,
          either_sent (HaveCauses w event false [] noted) (is_poison noted h.jid) (bury_poison noted row h.jid) (to_queue Right row h)
              (causes_append w event false [] noted (bury noted row).changes (Forgets h.jid ∷ []) (bury_causes noted row s) (tt, tt)) (tt, tt),
        )

    sane : (v : World) (row : Row) (found : Option Head) → Sane v.batches → Sane (perform v (rescue_row v row found).changes).batches
    sane v row None s = bury_sane v row s
    sane v row (Some h) s =
        let noted : World = changed v (Recovers h.jid) in
        either_sent (λ changes. Sane (perform noted changes).batches) (is_poison noted h.jid) (bury_poison noted row h.jid) (to_queue Right row h)
        (subst (λ (u : World). Sane u.batches) (sym (perform-append noted (bury noted row).changes (Forgets h.jid ∷ []))) (bury_sane noted row s)) s

  kill_row_causes : (v : World) (found : Option Row) → Sane v.batches → HaveCauses w event false [] v (kill_row v found).changes
  kill_row_causes v None s = tt
  kill_row_causes v (Some row) s = bury_causes v row s

  revive_as_causes : (v : World) (row : Row) (found : Option Head) → HaveCauses w event false [] v (revive_as row found).changes
  revive_as_causes v row None = tt
  revive_as_causes v row (Some h) = (tt, tt)

  revive_row_causes : (v : World) (found : Option Row) → HaveCauses w event false [] v (revive_row found).changes
  revive_row_causes v None = tt
  revive_row_causes v (Some row) = revive_as_causes v row (head row.text)

  -- ## Batches

  push_tame : (text : Bytes) (found : Option Head) → Tame false (push_to Outside text found)
  push_tame text None = refl
  push_tame text (Some h) = refl

  jobs_tame : (texts : List Bytes) → Tame false (push_jobs texts)
  jobs_tame [] = refl
  jobs_tame (text ∷ texts) = tame-append false (push_job Outside text) (push_jobs texts) (push_tame text (head text)) (jobs_tame texts)

  make_causes : (v : World) (batch : Batch) (texts : List Bytes) → is_there batch.bid v.batches.batches ≡ false → ParentTakes v.batches batch.parent → HaveCauses w event false [] v (make batch texts).changes
  make_causes v batch texts new takes =
      let firings : List Firing = made_fires batch (jids_of texts) in
      let u : World = changed v (Makes batch (jids_of texts)) in
      let called : AllCalled (perform u (push_jobs texts)).batches firings =
      subst (λ (s : Batched). AllCalled s firings) (sym (quiet_batches u (push_jobs texts) (jobs_quiet texts))) (made_called v.batches batch (jids_of texts) new takes) in
      (tt, causes_append w event false [] u (push_jobs texts) (fire_all firings) (tame_causes u (push_jobs texts) (jobs_tame texts)) (fires_cause w event (perform u (push_jobs texts)) firings called))

  fault_or_causes : (v : World) (fault : Option BatchFault) (o : Outcome) → (fault ≡ None → HaveCauses w event false [] v o.changes) → HaveCauses w event false [] v (unless fault o).changes
  fault_or_causes v None o f = f refl
  fault_or_causes v (Some fault) o f = tt

  batch_push_causes : (v : World) (batch : Batch) (texts : List Bytes) → HaveCauses w event false [] v (batch_push v batch texts).changes
  batch_push_causes v batch texts =
      let P : List Change → Type 0 = HaveCauses w event false [] v in
      either P (not (is_name 64 batch.bid)) _ _ (λ y. tt) (λ n.
      fault_or_causes v (bid_fault batch.bid batch.parent v.batches None) _ (λ clear.
      either P (not (are_callbacks batch.callbacks && all_may_join batch.bid texts)) _ _ (λ y. tt) (λ n.
      fault_or_causes v (jids_fault batch.bid (jids_of texts) v.batches (breaks (is_full v.batches) Full None)) _ (λ e.
      either P (is_too_much v texts) _ _ (λ y. tt) (λ n.
      let c = bid_clear batch.bid batch.parent v.batches clear in make_causes v batch texts c.0 c.1)))))

  batch_add_causes : (v : World) (bid : Bytes) (texts : List Bytes) → HaveCauses w event false [] v (batch_add v bid texts).changes
  batch_add_causes v bid texts =
      let P : List Change → Type 0 = HaveCauses w event false [] v in
      fault_or_causes v (batch_fault bid v.batches None) _ (λ clear.
      either P (not (all_may_join bid texts)) _ _ (λ y. tt) (λ n.
      fault_or_causes v (jids_fault bid (jids_of texts) v.batches None) _ (λ e.
      either P (is_too_much v texts) _ _ (λ y. tt) (λ n. tame_causes v (join_batch bid texts).changes (jobs_tame texts)))))

  stat_causes : (v : World) (found : Option BatchStat) → HaveCauses w event false [] v (tells_stat found).changes
  stat_causes v None = tt
  stat_causes v (Some s) = tt

-- ## A command of a seat

module _ (w : World) (seat now : ℕ) (words : Words) where
  abbrev event : Event
  event = Ask seat now words

  abbrev v : World
  v = changed w (Passes now)

  abbrev C : List Change → Type 0
  C = HaveCauses w event false [] v

  fetch_row_causes : (phase : Phase) (ident : Bytes) (found : Option Row) → C (fetch_row seat phase ident found).changes
  fetch_row_causes phase ident None = tt
  fetch_row_causes phase ident (Some row) = (tt, (tt, tt))

  fetch_causes : (phase : Phase) (ident : Bytes) (found : Option Bytes) → C (fetch v seat phase ident found).changes
  fetch_causes phase ident None = tt
  fetch_causes phase ident (Some queue) = either C (nat_lt (length (works_of phase)) most_works) _ _ (λ y. fetch_row_causes phase ident _) (λ n. tt)

  -- a text is put back into a set
  put_causes : (c : Command) (phase : Phase) (set : Scored) (pair : Pair) (found : Option Row) → IsRead words (Ok c) → list_any (is_buried_as pair.1) (works_of (phase_of w seat)) ≡ true
      → C (put_as set pair found ∷ Turns seat phase ∷ [])
  put_causes c phase set pair None read may = (record { seat = seat; c = c; sent = (refl, read); held = may }, (tt, tt))
  put_causes c phase set pair (Some row) read may = (tt, (tt, tt))

  -- ## What a worker does to keys

  retried_buried : (text : Bytes) (work : Work) → is_retried_as text work ≡ true → is_buried_as text work ≡ true
  retried_buried text work passes = grind (arith, passes)

  -- works: those of the seat
  module _ (c : PlainCommand) (ident : Bytes) (works : List Work) (read : IsRead words (Ok (command.Plain c))) (is : phase_of w seat ≡ Joined ident works) where
    abbrev joined : Phase
    joined = Joined ident works

    retry_causes : (found : Option Pair) → C (retry v seat joined found).changes
    retry_causes None = tt
    retry_causes (Some pair) = either C (list_any (is_retried_as pair.1) works) _ _
        (λ y. put_causes (command.Plain c) (staging (is_retried_as pair.1) Put joined) Retry pair _ read
        (ap (λ (p : Phase). list_any (is_buried_as pair.1) (works_of p)) is ∙ any_weaker (is_retried_as pair.1) (is_buried_as pair.1) works (retried_buried pair.1) y)) (λ n. tt)

    release_causes : (key : Bytes) (count : ℤ) (text : Bytes) → action_of c ≡ action.WriteOp key (edit.Lrem count text) → C (release_of v seat joined ident (released_by ident key (edit.Lrem count text))).changes
    release_causes key count text e = by_own (bytes_eq key (private_key ident) && is_eq (int_cmp count (pos 1))) refl where
      sent : is_eq (int_cmp count (pos 1)) ≡ true → IsRead words (Ok (command.Plain (plain.Lrem key (pos 1) text)))
      sent one = subst (λ n. IsRead words (Ok (command.Plain (plain.Lrem key n text)))) (score_is count (pos 1) one) (subst (λ (d : PlainCommand). IsRead words (Ok (command.Plain d))) (lrem_is c key count text e) read)

      by_own : (b : Bool) → bytes_eq key (private_key ident) && is_eq (int_cmp count (pos 1)) ≡ b → C (release_of v seat joined ident (cond b (Some text) None)).changes
      by_own false own = tt
      by_own true own = either C (list_any (is_done_as text) works) _ _
          (λ y. (
            record {
              key = key;
              sent = (refl, sent (grind (arith, own)));
              release = ap (λ (p : Phase). releases p (action_of (plain.Lrem key (pos 1) text))) is ∙ grind (arith, own, y);
            },
            (tt, tt),
          )) (λ n. tt)

    edit_causes : (key : Bytes) (e : WriteOp) → action_of c ≡ action.WriteOp key e → C (work_edit v seat joined ident key e).changes
    edit_causes key (edit.Zadd pairs) e = retry_causes (only pairs)
    edit_causes key (edit.Lrem count text) e = release_causes key count text e
    edit_causes key (edit.Push side texts) e = tt
    edit_causes key (edit.Incrby n) e = tt
    edit_causes key (edit.Sadd members) e = tt
    edit_causes key (edit.Srem members) e = tt
    edit_causes key (edit.Hset pairs) e = tt
    edit_causes key (edit.Hdel fields) e = tt
    edit_causes key (edit.Zrem members) e = tt
    edit_causes key (edit.Zremrangebyrank first last) e = tt
    edit_causes key (edit.Zremrangebyscore least greatest) e = tt

    as_causes : (a : Action) → action_of c ≡ a → C (work_as v seat joined ident a).changes
    as_causes (action.WriteOp key e) is_edit = edit_causes key e is_edit
    as_causes (action.Move source destination from to) e = fetch_causes joined ident (fetched_from ident (action.Move source destination from to))
    as_causes action.Ping e = tt
    as_causes (action.Echo text) e = tt
    as_causes action.Quit e = tt
    as_causes (action.ReadOp key look) e = tt
    as_causes (action.Set key text options) e = tt
    as_causes (action.Expire key millis) e = tt
    as_causes (action.Give key text) e = tt
    as_causes (action.Exists keys) e = tt
    as_causes (action.Delete keys) e = tt
    as_causes action.Flush e = tt

  work_causes : (c : PlainCommand) (phase : Phase) → IsRead words (Ok (command.Plain c)) → phase_of w seat ≡ phase → C (work v seat phase (action_of c)).changes
  work_causes c Plain read is = tt
  work_causes c (Joined ident works) read is = as_causes c ident works read is (action_of c) refl

  removal : (c : PlainCommand) → IsRead words (Ok (command.Plain c)) → is_plain_seat (phase_of w seat) || is_open_to_all c ≡ true → action_takes (action_of c) ≡ true → IsRemoval w event
  removal c read may takes =
      let is = takes_of c takes in
      let none = none_for_all c is in
      record { seat = seat; c = c; sent = (refl, read); phase = plain_is (phase_of w seat) (grind (arith, may, none)); takes = is }

  plain_causes : (c : PlainCommand) → IsRead words (Ok (command.Plain c)) → C (by_seat v seat (phase_of w seat) c).changes
  plain_causes c read = either C (is_worker_action (action_of c)) _ _ (λ y. work_causes c (phase_of w seat) read refl)
      (λ n. either C (is_plain_seat (phase_of w seat) || is_open_to_all c) _ _
      (λ may. causes_tame w event (action_takes (action_of c)) false [] v _ (removal c read may) (act_tame v (action_of c))) (λ n. tt))

  give_row_causes : (phase : Phase) (h : Head) (found : Option Row) → C (give_row seat phase h found).changes
  give_row_causes phase h None = (tt, tt)
  give_row_causes phase h (Some row) = (tt, (tt, tt))

  give_causes : (phase : Phase) (ident text : Bytes) (found : Option Head) → C (give v seat phase ident text found).changes
  give_causes phase ident text None = tt
  give_causes phase ident text (Some h) = give_row_causes (releasing (is_held_as text) phase) h _

  ok_causes : (text : Bytes) → IsRead words (Ok (command.Script (script.Ok text))) → Sane w.batches → C (ok v seat (phase_of w seat) text).changes
  ok_causes text read s = in_some C (phase_of w seat) (is_held_as text) _ tt (λ ident some.
      let told : List Change = (and_notify Returned v text (Turns seat (staging (is_held_as text) (Settled end.Returned) (phase_of w seat)) ∷ Counts processed ∷ [])).changes in
      causes_append w event false [] v told (unlocks until.Success text)
      (causes_append w event false [] v (Turns seat (staging (is_held_as text) (Settled end.Returned) (phase_of w seat)) ∷ Counts processed ∷ []) _ (tt, (tt, tt))
      (notify_causes w event Returned _ (head text) s (λ h bid of_text named. record { seat = seat; text = text; h = h; sent = (refl, read); held = some; head_is = of_text; jid_is = refl; bid_is = named })))
      (unlocks_causes w event (perform v told) until.Success text (λ h is. record { seat = seat; c = script.Ok text; text = text; h = h; sent = (refl, read); told = refl; held = some; head_is = is; digest_is = refl; jid_is = refl })))

  fail_causes : (text : Bytes) → Sane w.batches → C (fail v (phase_of w seat) text).changes
  fail_causes text s = in_some C (phase_of w seat) (is_held_as text) _ tt (λ ident some.
      causes_append w event false [] v (Counts processed ∷ Counts failed ∷ []) _ (tt, (tt, tt)) (notify_causes w event Reported _ (head text) s (λ h bid of_text named. tt)))

  put_buried : (pair : Pair) (found : Option Row) (more : List Change) → some_burial (put_as Dead pair found ∷ more) ≡ true
  put_buried pair None more = refl
  put_buried pair (Some row) more = refl

  bury_held_causes : (text : Bytes) → IsRead words (Ok (command.Script (script.Bury text))) → Sane w.batches → C (bury_held v seat (phase_of w seat) text).changes
  bury_held_causes text read s =
      let pair : Pair = (moment_score v, text) in
      let phase : Phase = staging (is_buried_as text) Put (phase_of w seat) in
      let put : List Change = put_back v Dead pair ∷ Turns seat phase ∷ [] in
      let quiet : all_quiet put ≡ true = put_quiet Dead pair _ seat phase in
      in_some C (phase_of w seat) (is_buried_as text) _ tt
      (λ ident some. buried_causes w event v text put (put_buried pair (row_of text (rows_at (Set Dead) v.rows)) (Turns seat phase ∷ [])) (put_causes (command.Script (script.Bury text)) phase Dead pair _ read some) (done_sane v text put quiet s))

  lead_causes : (ident : Bytes) → IsRead words (Ok (command.Script (script.Lead ident))) → C (lead v ident).changes
  lead_causes ident read = either C (is_process v ident) _ _
      (λ y. either C (is_led_by_another ident v.moment v.leases) _ _ (λ other. tt) (λ free. (record { seat = seat; now = now; words = words; event_is = refl; read = read; process = y; free = free }, tt)))
      (λ n. tt)

  push_slot_causes : (loop : Bytes) (slot : ℕ) (text : Bytes) → IsSlot w loop slot text event → C (push_slot v loop slot text).changes
  push_slot_causes loop slot text cause = either C (is_store_full v (text ∷ [])) _ _ (λ y. tt) (λ n. (cause, job_causes w event false (changed v (TakesSlot loop slot text)) text (head text)))

  cron_causes : (ident loop : Bytes) (slot : ℤ) (text : Bytes) → IsRead words (Ok (command.Script (script.Cron ident loop slot text))) → C (cron v ident loop (nat_abs slot) text).changes
  cron_causes ident loop slot text read =
      either C (not (is_process v ident)) _ _ (λ y. tt) (λ process.
      either C (not (may_call (head text) && is_name 255 loop)) _ _ (λ y. tt) (λ n.
      either C (not (leads ident v.moment v.leases)) _ _ (λ y. tt) (λ leader.
      either C (not (is_above (nat_abs slot) (last loop v.leases))) _ _ (λ y. tt) (λ above.
      either C (not (is_in_time v (nat_abs slot))) _ _ (λ y. tt) (λ timely.
      either C (not (has_loop v loop)) _ _ (λ y. tt) (λ n.
      push_slot_causes loop (nat_abs slot) text
      (record { seat = seat; now = now; words = words; ident = ident; number = slot; event_is = refl; read = read; slot_is = refl; leads = not_false _ leader; rises = not_false _ above; timely = not_false _ timely })))))))

  run_causes : (c : ScriptCommand) → IsRead words (Ok (command.Script c)) → Sane w.batches → C (run v seat (phase_of w seat) c).changes
  run_causes (script.Beat ident) read s = either C (is_name 255 ident) _ _ (λ y. (tt, tt)) (λ n. tt)
  run_causes (script.Join ident) read s = in_plain C (phase_of w seat) _ tt (either C (is_name 255 ident && is_alive ident v.moment v.leases) _ _ (λ y. (tt, tt)) (λ n. tt))
  run_causes (script.Start text) read s = in_some C (phase_of w seat) (is_held_as text) _ tt (λ ident some. unlocks_causes w event v until.Start text (λ h is. record { seat = seat; c = script.Start text; text = text; h = h; sent = (refl, read); told = refl; held = some; head_is = is; digest_is = refl; jid_is = refl }))
  run_causes (script.Ok text) read s = ok_causes text read s
  run_causes (script.Fail text) read s = fail_causes text s
  run_causes (script.Drop text) read s = in_some C (phase_of w seat) (is_held_as text) _ tt (λ ident some. (tt, tt))
  run_causes (script.Bury text) read s = bury_held_causes text read s
  run_causes (script.Back text) read s = in_some C (phase_of w seat) (is_held_as text) _ tt (λ ident some. give_causes (phase_of w seat) ident text (head text))
  run_causes (script.Due set limit) read s = in_plain C (phase_of w seat) _ tt (each_causes w event promote (promote_caused w event) v (due_rows v set (nat_abs limit)) s)
  run_causes (script.Revive set text) read s = in_plain C (phase_of w seat) _ tt (revive_row_causes w event v _)
  run_causes (script.Kill set text) read s = in_plain C (phase_of w seat) _ tt (kill_row_causes w event v _ s)
  run_causes script.Rescue read s = in_plain C (phase_of w seat) _ tt (each_causes w event rescue_row (rescue_caused w event) v (left_rows v) s)
  run_causes (script.Upush text score) read s = unique_push_causes w event text score v
      (λ h lock is has. record { seat = seat; text = text; score = score; h = h; lock = lock; sent = (refl, read); head_is = is; lock_is = has; digest_is = refl; jid_is = refl; seconds_is = refl })
  run_causes (script.Bpush bid parent complete success death texts) read s = batch_push_causes w event v (batch_of bid parent complete success death) texts
  run_causes (script.Badd bid texts) read s = batch_add_causes w event v bid texts
  run_causes (script.Bstat bid) read s = stat_causes w event v (stat bid v.batches)
  run_causes (script.Lead ident) read s = in_plain C (phase_of w seat) _ tt (lead_causes ident read)
  run_causes (script.Cron ident loop slot text) read s = in_plain C (phase_of w seat) _ tt (cron_causes ident loop slot text read)
  run_causes (script.Where jid) read s = tt
  run_causes script.Status read s = tt

  -- ## The step

  script_causes : (c : ScriptCommand) → IsRead words (Ok (command.Script c)) → Sane w.batches → HaveCauses w event false [] w (outcome w seat now (command.Script c)).changes
  script_causes c read s = (tt, run_causes c read s)

  command_causes : (c : Command) → IsRead words (Ok c) → Sane w.batches → HaveCauses w event false [] w (outcome w seat now c).changes
  command_causes (command.Plain c) read s = (tt, plain_causes c read)
  command_causes (command.Script c) read s = script_causes c read s

  gives_causes : (r : Read Command) (o : Outcome) → IsRead words r → ResultsIn w seat now r o → Sane w.batches → HaveCauses w event false [] w o.changes
  gives_causes (Ok c) o read (inl e) s = subst (λ (u : Outcome). HaveCauses w event false [] w u.changes) (sym e) (command_causes c read s)
  gives_causes (Ok c) o read (inr (may, e)) s = subst (λ (u : Outcome). HaveCauses w event false [] w u.changes) (sym e) (tt, tt)
  gives_causes (Err fault) o read e s = subst (λ (u : Outcome). HaveCauses w event false [] w u.changes) (sym e) tt

event_causes : (w : World) (event : Event) (o : Outcome) → Happens w event o → Sane w.batches → HaveCauses w event false [] w o.changes
event_causes w (Ask seat now words) o (r, read, gives) s = gives_causes w seat now words r o read gives s
event_causes w (Cut seat) o e s = subst (λ (u : Outcome). HaveCauses w (Cut seat) false [] w u.changes) (sym e) (tt, tt)

-- ## Every run

causes_from : (w : World) (steps : List Step) → Sane w.batches → Run w steps → CausesFrom w steps
causes_from w [] sane run = tt
causes_from w (step ∷ steps) sane run =
    (event_causes w step.event step.outcome run.0 sane, causes_from (after w step) steps ((lawful w step.event step.outcome run.0).leads.sane sane) run.1)

pub moves_have_causes : MovesHaveCauses
moves_have_causes limits steps run = causes_from (first limits) steps (sane_first limits) run
