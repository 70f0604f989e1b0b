-- In every run the plain keys stand in the order of their names.
use Rattle.std.proofs.Common.{◌≡◌, ℕ, List, [], ◌∷◌, ◌++◌, refl, sym, subst, ◌∙◌, Bool, true, false, ◌&&◌, ◌||◌, cond, inl, inr}
use Rattle.std.specs.List.{list_all}
use Rattle.std.specs.Prelude.{Option, Some, None, Ok, Err, map}
use Rattle.sk_resp.specs.Spelling.{Bytes}
use Rattle.sk_cmd.specs.Reading.{Read}
use Rattle.sk_cmd.specs.declared.argument.Side.{Side}
use Rattle.sk_cmd.specs.declared.command.Command.{Command}
use Rattle.sk_cmd.specs.declared.command.Command.TheVariants as command
use Rattle.sk_cmd.specs.declared.command.PlainCommand.{PlainCommand}
use Rattle.sk_key.specs.Class.{class_of, is_plain, is_queue, queue_of}
use Rattle.sk_key.specs.declared.key_class.KeyClass.{KeyClass}
use Rattle.sk_key.specs.declared.key_class.KeyClass.TheVariants as class
use Rattle.sk_places.specs.Rows.{row_at_end, rows_at}
use Rattle.sk_places.specs.declared.row.Place.TheVariants.{Queue, Set}
use Rattle.sk_seats.specs.Phases.{is_plain as is_plain_seat}
use Rattle.sk_seats.specs.Works.{first as first_work, is_done_as}
use Rattle.sk_seats.specs.declared.phase.Phase.{Phase}
use Rattle.sk_seats.specs.declared.phase.Phase.TheVariants.{Plain, Joined}
use Rattle.sk_seats.specs.declared.work.Stage.{Stage}
use Rattle.sk_seats.specs.declared.work.Stage.TheVariants.{Held, Put, Settled}
use Rattle.sk_seats.specs.declared.work.Work.{Work}
use Rattle.sk_value.specs.Action.{action_of}
use Rattle.sk_value.specs.declared.action.Action.{Action}
use Rattle.sk_value.specs.declared.action.Action.TheVariants as action
use Rattle.sk_value.specs.declared.write_op.WriteOp.{WriteOp}
use Rattle.sk_model.specs.Change.{Add, Carry, Take, Trim, Merge, PutBack, Free, Fire, Change, Moves, Passes, Names, Unnames, Keeps, Turns, Beats, Counts, Recovers, Forgets, Locks, Unlocks, Elects, TakesSlot, Makes, Joins, Notifies, changed, freed, freed_at, freed_work, moment_after, passed, perform}
use Rattle.sk_model.specs.Deletes.{delete_as, delete_each, flush, may_go, take_all}
use Rattle.sk_model.specs.Event.{Event, Ask, Cut, Happens, ResultsIn}
use Rattle.sk_model.specs.Outcome.{Outcome}
use Rattle.sk_model.specs.Queues.{move_row}
use Rattle.sk_model.specs.Seats.{is_open_to_all, is_worker_action}
use Rattle.sk_model.specs.Step.{act, by_seat, edits, moves, on_plain, outcome, run}
use Rattle.sk_model.specs.Workers.{work}
use Rattle.sk_model.specs.World.{World, phase_of}
use Rattle.sk_limit.proofs.KeyOrder.{InOrder, applied_in_order, purged_in_order, without_in_order}
use Rattle.sk_limit.proofs.Tame.{Tame, edit_jobs_tame, edit_names_tame, edit_queue_tame, is_tame, move_row_tame, run_tame, take_all_tame, tame_append, unnames_tame, work_tame}

-- ## Changes that leave the keys

at_keys : (ident text : Bytes) (w : World) (stage : Stage) → (freed_at stage ident text w).keys ≡ w.keys
at_keys ident text w Held = refl
at_keys ident text w Put = refl
at_keys ident text w (Settled end) = refl

work_keys : (ident : Bytes) (w : World) (found : Option Work) → (freed_work ident w found).keys ≡ w.keys
work_keys ident w None = refl
work_keys ident w (Some work) = at_keys ident work.payload w work.stage

freed_keys : (text : Bytes) (w : World) (phase : Phase) → (freed text w phase).keys ≡ w.keys
freed_keys text w Plain = refl
freed_keys text w (Joined ident works) = work_keys ident w (first_work (is_done_as text) works)

changed_keys : (w : World) (change : Change) → is_tame change ≡ true → (changed w change).keys ≡ w.keys
changed_keys w (Moves (Free seat text)) is = freed_keys text w (phase_of w seat)
changed_keys w (Moves (Add row end from)) is = refl
changed_keys w (Moves (Carry row from to score end)) is = refl
changed_keys w (Moves (Take row from)) is = refl
changed_keys w (Moves (Trim row)) is = refl
changed_keys w (Moves (Merge row)) is = refl
changed_keys w (Moves (PutBack row)) is = refl
changed_keys w (Moves (Fire bid kind)) is = refl
changed_keys w (Passes now) is = absurd (cc is)
changed_keys w (Names queue) is = refl
changed_keys w (Unnames queue) is = refl
changed_keys w (Keeps keys) is = absurd (cc is)
changed_keys w (Turns seat phase) is = refl
changed_keys w (Beats ident) is = refl
changed_keys w (Counts name) is = refl
changed_keys w (Recovers jid) is = refl
changed_keys w (Forgets jid) is = refl
changed_keys w (Locks digest jid seconds) is = refl
changed_keys w (Unlocks digest jid) is = refl
changed_keys w (Elects ident) is = refl
changed_keys w (TakesSlot loop slot text) is = refl
changed_keys w (Makes batch jids) is = refl
changed_keys w (Joins bid jids) is = refl
changed_keys w (Notifies event bid jid) is = refl

both_of : (a b : Bool) → a && b ≡ true → (a ≡ true) × (b ≡ true)
both_of true b e = (refl, e)
both_of false b e = absurd (cc e)

pub tame_keys : (w : World) (changes : List Change) → Tame changes → (perform w changes).keys ≡ w.keys
tame_keys w [] tame = refl
tame_keys w (change ∷ changes) tame =
    let is = both_of (is_tame change) (list_all is_tame changes) tame in
    tame_keys (changed w change) changes is.1 ∙ changed_keys w change is.0

-- ## Changes that keep the order

abbrev pub Ordered : World → List Change → Type 0
Ordered w changes = InOrder w.keys → InOrder (perform w changes).keys

tame_ordered : (w : World) (changes : List Change) → Tame changes → Ordered w changes
tame_ordered w changes tame order = subst InOrder (sym (tame_keys w changes tame)) order

pub performed : (w : World) (a b : List Change) → perform w (a ++ b) ≡ perform (perform w a) b
performed w [] b = refl
performed w (change ∷ a) b = performed (changed w change) a b

append_ordered : (w : World) (a b : List Change) → Ordered w a → Ordered (perform w a) b → Ordered w (a ++ b)
append_ordered w [] b p q = λ order. q (p order)
append_ordered w (change ∷ a) b p q = λ order. subst (λ (v : World). InOrder v.keys) (sym (performed w (change ∷ a) b)) (q (p order))

cond_ordered : (w : World) (b : Bool) (x y : Outcome) → Ordered w x.changes → Ordered w y.changes → Ordered w (cond b x y).changes
cond_ordered w true x y p q = p
cond_ordered w false x y p q = q

none_ordered : (w : World) → Ordered w []
none_ordered w order = order

-- ## Every action

edits_ordered : (w : World) (key : Bytes) (e : WriteOp) (c : KeyClass) → Ordered w (edits w key e c).changes
edits_ordered w key e class.Plain = applied_in_order w.moment (action.WriteOp key e) w.keys
edits_ordered w key e class.Queue = tame_ordered w (edits w key e class.Queue).changes (edit_queue_tame w (queue_of key) e).tame
edits_ordered w key e class.Queues = tame_ordered w (edits w key e class.Queues).changes (edit_names_tame w e).tame
edits_ordered w key e (class.Jobs set) = tame_ordered w (edits w key e (class.Jobs set)).changes (edit_jobs_tame w set e).tame
edits_ordered w key e class.NoQueue = none_ordered w
edits_ordered w key e class.Private = none_ordered w
edits_ordered w key e class.NoPrivate = none_ordered w
edits_ordered w key e class.Processes = none_ordered w
edits_ordered w key e class.Counter = none_ordered w

on_plain_ordered : (w : World) (a : Action) (c : KeyClass) → Ordered w (on_plain w a c).changes
on_plain_ordered w a c = cond_ordered w (is_plain c) _ _ (applied_in_order w.moment a w.keys) (none_ordered w)

moves_ordered : (w : World) (source destination : Bytes) (from to : Side) (c d : KeyClass) → Ordered w (moves w source destination from to c d).changes
moves_ordered w source destination from to c d =
    cond_ordered w (is_plain c && is_plain d) _ _ (applied_in_order w.moment (action.Move source destination from to) w.keys)
    (cond_ordered w (is_queue c && is_queue d) _ _
    (tame_ordered w (move_row (row_at_end from (Queue (queue_of source)) w.rows) from (Queue (queue_of destination)) to).changes (move_row_tame (row_at_end from (Queue (queue_of source)) w.rows) from to (Queue (queue_of destination))).tame) (none_ordered w))

delete_as_ordered : (w : World) (key : Bytes) (c : KeyClass) → Ordered w (delete_as w key c).changes
delete_as_ordered w key class.Plain = without_in_order key w.keys
delete_as_ordered w key class.Queue =
    let rows = rows_at (Queue (queue_of key)) w.rows in
    tame_ordered w (take_all rows ++ Unnames (queue_of key) ∷ []) (tame_append (take_all rows) (Unnames (queue_of key) ∷ []) (take_all_tame rows) refl)
delete_as_ordered w key (class.Jobs set) = tame_ordered w (take_all (rows_at (Set set) w.rows)) (take_all_tame (rows_at (Set set) w.rows))
delete_as_ordered w key class.NoQueue = none_ordered w
delete_as_ordered w key class.Private = none_ordered w
delete_as_ordered w key class.NoPrivate = none_ordered w
delete_as_ordered w key class.Processes = none_ordered w
delete_as_ordered w key class.Queues = none_ordered w
delete_as_ordered w key class.Counter = none_ordered w

delete_each_ordered : (w : World) (keys : List Bytes) → Ordered w (delete_each w keys).changes
delete_each_ordered w [] = none_ordered w
delete_each_ordered w (key ∷ keys) =
    append_ordered w (delete_as w key (class_of key)).changes (delete_each (perform w (delete_as w key (class_of key)).changes) keys).changes
    (delete_as_ordered w key (class_of key)) (delete_each_ordered (perform w (delete_as w key (class_of key)).changes) keys)

flush_ordered : (w : World) → Ordered w (flush w).changes
flush_ordered w =
    append_ordered w (take_all w.rows ++ map Unnames w.names) (Keeps [] ∷ [])
    (tame_ordered w (take_all w.rows ++ map Unnames w.names) (tame_append (take_all w.rows) (map Unnames w.names) (take_all_tame w.rows) (unnames_tame w.names))) (λ order. tt)

act_ordered : (w : World) (a : Action) → Ordered w (act w a).changes
act_ordered w action.Ping = none_ordered w
act_ordered w (action.Echo text) = none_ordered w
act_ordered w action.Quit = none_ordered w
act_ordered w (action.ReadOp key look) = none_ordered w
act_ordered w (action.WriteOp key e) = edits_ordered w key e (class_of key)
act_ordered w (action.Set key text options) = on_plain_ordered w (action.Set key text options) (class_of key)
act_ordered w (action.Expire key millis) = on_plain_ordered w (action.Expire key millis) (class_of key)
act_ordered w (action.Give key text) = on_plain_ordered w (action.Give key text) (class_of key)
act_ordered w (action.Exists keys) = none_ordered w
act_ordered w (action.Delete keys) = cond_ordered w (list_all (λ key. may_go (class_of key)) keys) _ _ (delete_each_ordered w keys) (none_ordered w)
act_ordered w (action.Move source destination from to) = moves_ordered w source destination from to (class_of source) (class_of destination)
act_ordered w action.Flush = flush_ordered w

by_seat_ordered : (w : World) (seat : ℕ) (phase : Phase) (c : PlainCommand) → Ordered w (by_seat w seat phase c).changes
by_seat_ordered w seat phase c =
    cond_ordered w (is_worker_action (action_of c)) _ _ (tame_ordered w (work w seat phase (action_of c)).changes (work_tame w seat phase (action_of c)).tame)
    (cond_ordered w (is_plain_seat phase || is_open_to_all c) _ _ (act_ordered w (action_of c)) (none_ordered w))

-- ## Every event

outcome_ordered : (w : World) (seat now : ℕ) (c : Command) → Ordered w (outcome w seat now c).changes
outcome_ordered w seat now (command.Plain c) order = by_seat_ordered (passed now w) seat (phase_of w seat) c (purged_in_order (moment_after now w) w.keys order)
outcome_ordered w seat now (command.Script c) order =
    tame_ordered (passed now w) (run (passed now w) seat (phase_of w seat) c).changes (run_tame (passed now w) seat (phase_of w seat) c).tame (purged_in_order (moment_after now w) w.keys order)

gives_ordered : (w : World) (seat now : ℕ) (r : Read Command) (o : Outcome) → ResultsIn w seat now r o → Ordered w o.changes
gives_ordered w seat now (Ok c) o (inl e) = subst (λ (u : Outcome). Ordered w u.changes) (sym e) (outcome_ordered w seat now c)
gives_ordered w seat now (Ok c) o (inr (may, e)) = subst (λ (u : Outcome). Ordered w u.changes) (sym e) (λ order. purged_in_order (moment_after now w) w.keys order)
gives_ordered w seat now (Err f) o e = subst (λ (u : Outcome). Ordered w u.changes) (sym e) (none_ordered w)

pub event_ordered : (w : World) (event : Event) (o : Outcome) → Happens w event o → Ordered w o.changes
event_ordered w (Ask seat now words) o (r, read, gives) = gives_ordered w seat now r o gives
event_ordered w (Cut seat) o e = subst (λ (u : Outcome). Ordered w u.changes) (sym e) (λ order. order)
