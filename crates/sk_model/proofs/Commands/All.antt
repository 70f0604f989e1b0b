-- The changes of each command are good.
use Rattle.std.proofs.Common.{◌≡◌, ◌≤◌, ℕ, zero, suc, List, [], ◌∷◌, ◌++◌, refl, sym, subst, inl, inr, arith, false, ◌&&◌, ◌||◌}
use Rattle.std.specs.Prelude.{nat_abs, pos, Option, Some, None, Ok, Err, map}
use Rattle.std.specs.List.{list_all}
use Rattle.sk_resp.specs.Spelling.{Bytes}
use Rattle.sk_cmd.specs.declared.argument.Side.{Side}
use Rattle.sk_cmd.specs.Reading.{Read}
use Rattle.sk_cmd.specs.declared.command.Command.{Command}
use Rattle.sk_cmd.specs.declared.command.Command.TheVariants as command
use Rattle.sk_cmd.specs.declared.command.PlainCommand.{PlainCommand}
use Rattle.sk_cmd.specs.declared.command.ScriptCommand.{ScriptCommand}
use Rattle.sk_cmd.specs.declared.command.ScriptCommand.TheVariants as script
use Rattle.sk_payload.specs.Member.{is_name}
use Rattle.sk_value.specs.declared.action.Action.{Action}
use Rattle.sk_value.specs.declared.action.Action.TheVariants as action
use Rattle.sk_value.specs.declared.write_op.WriteOp.{WriteOp}
use Rattle.sk_value.specs.declared.write_op.WriteOp.TheVariants as edit
use Rattle.sk_value.specs.Action.{action_of}
use Rattle.sk_key.specs.declared.key_class.KeyClass.{KeyClass}
use Rattle.sk_key.specs.declared.key_class.KeyClass.TheVariants as class
use Rattle.sk_seats.specs.declared.phase.Phase.{Phase}
use Rattle.sk_seats.specs.declared.phase.Phase.TheVariants.{Plain}
use Rattle.sk_places.specs.declared.row.Place.{Place}
use Rattle.sk_places.specs.declared.row.Place.TheVariants.{Queue, Set}
use Rattle.sk_places.specs.declared.row.Row.{Row}
use Rattle.sk_places.specs.Rows.{is_at, rows_at, row_at, row_at_end}
use Rattle.sk_seats.specs.Phases.{is_plain as is_plain_seat}
use Rattle.sk_places.specs.declared.origin.Origin.TheVariants.{Outside}
use Rattle.sk_model.specs.World.{World, phase_of}
use Rattle.sk_model.specs.Change.{Add, Take, Moves, Passes, Names, Unnames, Keeps, changed, perform}
use Rattle.sk_key.specs.Class.{class_of, queue_of, is_plain, is_queue}
use Rattle.sk_model.specs.Queues.{pushes, takes, move_row, add_names}
use Rattle.sk_places.specs.Rows.{copies_of, end_taken}
use Rattle.sk_model.specs.Deletes.{take_all, delete_as, delete_each, delete, may_go, flush}
use Rattle.sk_model.specs.Outcome.{Outcome}
use Rattle.sk_model.specs.Life.{IsSound}
use Rattle.sk_model.specs.Event.{Event, Ask, Cut, ResultsIn, Happens}
use Rattle.sk_model.specs.Room.{is_full}
use Rattle.sk_model.specs.Seats.{is_worker_action, is_open_to_all}
use Rattle.sk_model.specs.Step.{MayComeTo, act, by_seat, cut, run, edits, edit_queue, edit_names, on_plain, moves, outcome}
use Rattle.sk_model.proofs.Tools.RowsTaken.{there, one_fewer, taken_at_most, end_there}
use Rattle.sk_model.proofs.Tools.RowsThatGo.{filter_among}
use Rattle.sk_model.proofs.Commands.Sets.{choice, taking_good, edit_jobs_good, due_good, kill_good, revive_good}
use Rattle.sk_model.proofs.Commands.Rescue.{rescue_good}
use Rattle.sk_model.proofs.Commands.Unique.{unique_push_good}
use Rattle.sk_model.proofs.Commands.Periodic.{cron_good, lead_good}
use Rattle.sk_model.proofs.Commands.Workers.{where_plain_good, beat_good, join_good, work_good, start_good, fail_told, ok_told, drop_good, bury_good, back_good}
use Rattle.sk_model.proofs.Commands.Batches.{batch_push_lawful, batch_add_lawful}
use Rattle.sk_model.specs.Batches.{batch_of, tells_stat}
use Rattle.sk_batch.specs.Stat.{stat}
use Rattle.sk_batch.specs.declared.batch_stat.BatchStat.{BatchStat}
use Rattle.sk_model.specs.Once.{is_dead_set}
use Rattle.sk_model.specs.Covered.{IsCovered}
use Rattle.sk_model.proofs.Changes.Covered.{Covers}
use Rattle.sk_model.proofs.Changes.Lawful.{Good, Lawful, lawful_passes, good_nothing, good_append, then_others, good_add, good_carry, good_take, good_turn, good_passes, good_names, good_unnames, good_keeps}

-- ## Queues

pub push_good : (w : World) (end : Side) (place : Place) (texts : List Bytes) → Good w (pushes end place texts)
push_good w end place [] = good_nothing w
push_good w end place (text ∷ texts) = let one = Moves (Add (row_at place text) end Outside) in
    then_others w one (pushes end place texts) (good_add w (row_at place text) end) (push_good (changed w one) end place texts)

pub takes_good : (w : World) (n : ℕ) (row : Row) (end : Side) → n ≤ copies_of row w.rows → Good w (takes n row end)
takes_good w zero row end most = good_nothing w
takes_good w (suc n) row end most = let some = there row n w.rows most in
    then_others w (Moves (Take row end)) (takes n row end) (good_take w row end some)
    (takes_good (changed w (Moves (Take row end))) n row end (omega (arith, most, one_fewer row end w.rows some)))

move_row_good : (w : World) (out end : Side) (from to : Place) (found : Option Row) → is_dead_set to ≡ false → row_at_end out from w.rows ≡ found → Good w (move_row found out to end).changes
move_row_good w out end from to None alive e = good_nothing w
move_row_good w out end from to (Some row) alive e = good_carry w row out to (pos 0) end (end_there out from w.rows row e) alive

names_good : (w : World) (names : List Bytes) → Good w (map Names names)
names_good w [] = good_nothing w
names_good w (name ∷ names) = then_others w (Names name) (map Names names) (good_names w name) (names_good (changed w (Names name)) names)

add_names_good : (w : World) (names : List Bytes) → Good w (add_names w names).changes
add_names_good w names = choice w (list_all (is_name 255) names) _ _ (λ y. names_good w names) (λ n. good_nothing w)

edit_queue_good : (w : World) (queue : Bytes) (e : WriteOp) → Good w (edit_queue w queue e).changes
edit_queue_good w queue (edit.Push side texts) = choice w (is_full w texts) _ _ (λ y. good_nothing w) (λ n. push_good w side (Queue queue) texts)
edit_queue_good w queue (edit.Lrem count text) = takes_good w _ (row_at (Queue queue) text) (end_taken count) (taken_at_most count (copies_of (row_at (Queue queue) text) w.rows))
edit_queue_good w queue (edit.Incrby n) = good_nothing w
edit_queue_good w queue (edit.Sadd members) = good_nothing w
edit_queue_good w queue (edit.Srem members) = good_nothing w
edit_queue_good w queue (edit.Hset pairs) = good_nothing w
edit_queue_good w queue (edit.Hdel fields) = good_nothing w
edit_queue_good w queue (edit.Zadd scores) = good_nothing w
edit_queue_good w queue (edit.Zrem members) = good_nothing w
edit_queue_good w queue (edit.Zremrangebyrank first last) = good_nothing w
edit_queue_good w queue (edit.Zremrangebyscore least greatest) = good_nothing w

edit_names_good : (w : World) (e : WriteOp) → Good w (edit_names w e).changes
edit_names_good w (edit.Sadd names) = add_names_good w names
edit_names_good w (edit.Push side texts) = good_nothing w
edit_names_good w (edit.Lrem count text) = good_nothing w
edit_names_good w (edit.Incrby n) = good_nothing w
edit_names_good w (edit.Srem members) = good_nothing w
edit_names_good w (edit.Hset pairs) = good_nothing w
edit_names_good w (edit.Hdel fields) = good_nothing w
edit_names_good w (edit.Zadd scores) = good_nothing w
edit_names_good w (edit.Zrem members) = good_nothing w
edit_names_good w (edit.Zremrangebyrank first last) = good_nothing w
edit_names_good w (edit.Zremrangebyscore least greatest) = good_nothing w

edits_good : (w : World) (key : Bytes) (e : WriteOp) (c : KeyClass) → Good w (edits w key e c).changes
edits_good w key e class.Plain = good_keeps w _
edits_good w key e class.Queue = edit_queue_good w (queue_of key) e
edits_good w key e class.Queues = edit_names_good w e
edits_good w key e (class.Jobs set) = edit_jobs_good w set e
edits_good w key e class.NoQueue = good_nothing w
edits_good w key e class.Private = good_nothing w
edits_good w key e class.NoPrivate = good_nothing w
edits_good w key e class.Processes = good_nothing w
edits_good w key e class.Counter = good_nothing w

on_plain_good : (w : World) (a : Action) (c : KeyClass) → Good w (on_plain w a c).changes
on_plain_good w a c = choice w (is_plain c) _ _ (λ y. good_keeps w _) (λ n. good_nothing w)

moves_good : (w : World) (source destination : Bytes) (from to : Side) (c d : KeyClass) → Good w (moves w source destination from to c d).changes
moves_good w source destination from to c d = choice w (is_plain c && is_plain d) _ _ (λ y. good_keeps w _)
    (λ n. choice w (is_queue c && is_queue d) _ _ (λ y. move_row_good w from to (Queue (queue_of source)) (Queue (queue_of destination)) _ refl refl) (λ n. good_nothing w))

-- ## Whole keys

delete_as_good : (w : World) (key : Bytes) (c : KeyClass) → Good w (delete_as w key c).changes
delete_as_good w key class.Plain = good_keeps w _
delete_as_good w key class.Queue = let place = Queue (queue_of key) in
    good_append w (take_all (rows_at place w.rows)) (Unnames (queue_of key) ∷ []) (taking_good w (rows_at place w.rows) (filter_among (is_at place) w.rows)) (good_unnames _ (queue_of key))
delete_as_good w key (class.Jobs set) = taking_good w (rows_at (Set set) w.rows) (filter_among (is_at (Set set)) w.rows)
delete_as_good w key class.NoQueue = good_nothing w
delete_as_good w key class.Private = good_nothing w
delete_as_good w key class.NoPrivate = good_nothing w
delete_as_good w key class.Processes = good_nothing w
delete_as_good w key class.Queues = good_nothing w
delete_as_good w key class.Counter = good_nothing w

delete_each_good : (w : World) (keys : List Bytes) → Good w (delete_each w keys).changes
delete_each_good w [] = good_nothing w
delete_each_good w (key ∷ keys) = let one = (delete_as w key (class_of key)).changes in
    good_append w one (delete_each (perform w one) keys).changes (delete_as_good w key (class_of key)) (delete_each_good (perform w one) keys)

delete_good : (w : World) (keys : List Bytes) → Good w (delete w keys).changes
delete_good w keys = choice w (list_all (λ key. may_go (class_of key)) keys) _ _ (λ y. delete_each_good w keys) (λ n. good_nothing w)

unnames_good : (w : World) (names : List Bytes) → Good w (map Unnames names)
unnames_good w [] = good_nothing w
unnames_good w (name ∷ names) = then_others w (Unnames name) (map Unnames names) (good_unnames w name) (unnames_good (changed w (Unnames name)) names)

flush_good : (w : World) → Good w (flush w).changes
flush_good w =
    good_append w (take_all w.rows ++ map Unnames w.names) (Keeps [] ∷ [])
    (good_append w (take_all w.rows) (map Unnames w.names) (taking_good w w.rows (λ row. omega arith)) (unnames_good _ w.names))
    (good_keeps _ [])

-- ## Every command

pub act_good : (w : World) (a : Action) → Good w (act w a).changes
act_good w action.Ping = good_nothing w
act_good w (action.Echo text) = good_nothing w
act_good w action.Quit = good_nothing w
act_good w (action.ReadOp key look) = good_nothing w
act_good w (action.WriteOp key e) = edits_good w key e (class_of key)
act_good w (action.Set key text options) = on_plain_good w (action.Set key text options) (class_of key)
act_good w (action.Expire key millis) = on_plain_good w (action.Expire key millis) (class_of key)
act_good w (action.Give key text) = on_plain_good w (action.Give key text) (class_of key)
act_good w (action.Exists keys) = good_nothing w
act_good w (action.Delete keys) = delete_good w keys
act_good w (action.Move source destination from to) = moves_good w source destination from to (class_of source) (class_of destination)
act_good w action.Flush = flush_good w

by_seat_good : (w : World) (seat : ℕ) (phase : Phase) (c : PlainCommand) → phase_of w seat ≡ phase → Good w (by_seat w seat phase c).changes
by_seat_good w seat phase c is = choice w (is_worker_action (action_of c)) _ _ (λ y. work_good w seat phase (action_of c) is)
    (λ n. choice w (is_plain_seat phase || is_open_to_all c) _ _ (λ y. act_good w (action_of c)) (λ n. good_nothing w))

-- a batch's numbers change nothing
stat_good : (w : World) (found : Option BatchStat) → Good w (tells_stat found).changes
stat_good w None = good_nothing w
stat_good w (Some s) = good_nothing w

run_lawful : (w : World) (seat : ℕ) (phase : Phase) (c : ScriptCommand) → phase_of w seat ≡ phase → Lawful w (run w seat phase c).changes
run_lawful w seat phase (script.Beat ident) is = (beat_good w ident).lawful
run_lawful w seat phase (script.Join ident) is = (where_plain_good w phase _ (join_good w seat ident)).lawful
run_lawful w seat phase (script.Start text) is = (start_good w phase text).lawful
run_lawful w seat phase (script.Ok text) is = (ok_told w seat phase text is).lawful
run_lawful w seat phase (script.Fail text) is = (fail_told w phase text).lawful
run_lawful w seat phase (script.Drop text) is = (drop_good w seat phase text is).lawful
run_lawful w seat phase (script.Bury text) is = (bury_good w seat phase text is).lawful
run_lawful w seat phase (script.Back text) is = (back_good w seat phase text is).lawful
run_lawful w seat phase (script.Due set limit) is = (where_plain_good w phase _ (due_good w set (nat_abs limit))).lawful
run_lawful w seat phase (script.Revive set text) is = (where_plain_good w phase _ (revive_good w set text)).lawful
run_lawful w seat phase (script.Kill set text) is = (where_plain_good w phase _ (kill_good w set text)).lawful
run_lawful w seat phase script.Rescue is = (where_plain_good w phase _ (rescue_good w)).lawful
run_lawful w seat phase (script.Upush text score) is = (unique_push_good w text score).lawful
run_lawful w seat phase (script.Bpush bid parent complete success death texts) is = batch_push_lawful w (batch_of bid parent complete success death) texts
run_lawful w seat phase (script.Badd bid texts) is = batch_add_lawful w bid texts
run_lawful w seat phase (script.Bstat bid) is = (stat_good w (stat bid w.batches)).lawful
run_lawful w seat phase (script.Lead ident) is = (where_plain_good w phase _ (lead_good w ident)).lawful
run_lawful w seat phase (script.Cron ident loop slot text) is = (where_plain_good w phase _ (cron_good w ident loop (nat_abs slot) text)).lawful
run_lawful w seat phase (script.Where jid) is = (good_nothing w).lawful
run_lawful w seat phase script.Status is = (good_nothing w).lawful

outcome_lawful : (w : World) (seat now : ℕ) (c : Command) → Lawful w (outcome w seat now c).changes
outcome_lawful w seat now (command.Plain c) = lawful_passes w now _ (by_seat_good (changed w (Passes now)) seat (phase_of w seat) c refl).lawful
outcome_lawful w seat now (command.Script c) = lawful_passes w now _ (run_lawful (changed w (Passes now)) seat (phase_of w seat) c refl)

-- ## What a store owes to the laws

-- a sound world stays sound, whatever command a seat sends and wherever memory runs out
pub step_sound : (w : World) (seat now : ℕ) (c : Command) (o : Outcome) → MayComeTo w seat now c o → IsSound w → IsSound (perform w o.changes)
step_sound w seat now c o (inl e) s = subst (λ (u : Outcome). IsSound (perform w u.changes)) (sym e) ((outcome_lawful w seat now c).keeps.sound s)
step_sound w seat now c o (inr (may, e)) s = subst (λ (u : Outcome). IsSound (perform w u.changes)) (sym e) ((good_passes w now).lawful.keeps.sound s)

-- and where a seat is cut off
pub cut_sound : (w : World) (seat : ℕ) → IsSound w → IsSound (perform w (cut seat).changes)
cut_sound w seat s = (good_turn w seat Plain (λ jid all. tt)).lawful.keeps.sound s

-- and so do the callbacks of a world stay covered
pub step_covered : (w : World) (seat now : ℕ) (c : Command) (o : Outcome) → MayComeTo w seat now c o → Covers w o.changes
step_covered w seat now c o (inl e) s = subst (λ (u : Outcome). IsCovered (perform w u.changes).tally.inner (perform w u.changes).batches) (sym e) ((outcome_lawful w seat now c).covers s)
step_covered w seat now c o (inr (may, e)) s = subst (λ (u : Outcome). IsCovered (perform w u.changes).tally.inner (perform w u.changes).batches) (sym e) ((good_passes w now).lawful.covers s)

pub cut_covered : (w : World) (seat : ℕ) → Covers w (cut seat).changes
cut_covered w seat s = (good_turn w seat Plain (λ jid all. tt)).lawful.covers s

-- ## Events

gives_lawful : (w : World) (seat now : ℕ) (r : Read Command) (o : Outcome) → ResultsIn w seat now r o → Lawful w o.changes
gives_lawful w seat now (Ok c) o (inl e) = subst (λ (u : Outcome). Lawful w u.changes) (sym e) (outcome_lawful w seat now c)
gives_lawful w seat now (Ok c) o (inr (may, e)) = subst (λ (u : Outcome). Lawful w u.changes) (sym e) (good_passes w now).lawful
gives_lawful w seat now (Err fault) o e = subst (λ (u : Outcome). Lawful w u.changes) (sym e) (good_nothing w).lawful

-- whatever event comes, and wherever memory runs out
pub lawful : (w : World) (event : Event) (o : Outcome) → Happens w event o → Lawful w o.changes
lawful w (Ask seat now words) o (r, is, gives) = gives_lawful w seat now r o gives
lawful w (Cut seat) o e = subst (λ (u : Outcome). Lawful w u.changes) (sym e) (good_turn w seat Plain (λ jid all. tt)).lawful
