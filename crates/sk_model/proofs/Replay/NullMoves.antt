-- An LMOVE that is answered null moves nothing.
use Rattle.std.proofs.Common.{◌≡◌, ◌⊎◌, inr, refl, ap, List, ◌∷◌, [], ℕ, Bool, true, false, cond}
use Rattle.std.specs.Prelude.{Option, Some, None, nat_lt, length, ◌&&◌, ◌||◌}
use Rattle.std.specs.Option.{is_some}
use Rattle.std.specs.Str.{bytes_eq}
use Rattle.sk_resp.specs.Spelling.{Bytes}
use Rattle.sk_resp.specs.declared.reply.Reply.{Reply}
use Rattle.sk_resp.specs.declared.reply.Reply.TheVariants as reply
use Rattle.sk_cmd.specs.declared.argument.Side.{Side}
use Rattle.sk_cmd.specs.declared.argument.Side.TheVariants.{Right}
use Rattle.sk_cmd.specs.declared.command.Command.TheVariants as command
use Rattle.sk_cmd.specs.declared.command.PlainCommand.TheVariants as plain
use Rattle.sk_value.specs.declared.action.Action.{Action}
use Rattle.sk_value.specs.declared.action.Action.TheVariants as action
use Rattle.sk_value.specs.declared.entry.Entry.{Entry}
use Rattle.sk_value.specs.Lists.{take_one}
use Rattle.sk_value.specs.Keys.{Keys, at}
use Rattle.sk_value.specs.Apply.{Applied, applied, carry, deadline_at, list_at, move_keys, move_list, turn_list}
use Rattle.sk_key.specs.Class.{class_of, is_plain, is_queue, queue_of}
use Rattle.sk_key.specs.declared.key_class.KeyClass.{KeyClass}
use Rattle.sk_places.specs.declared.row.Place.{Place}
use Rattle.sk_places.specs.declared.row.Place.TheVariants.{Queue}
use Rattle.sk_places.specs.declared.row.Row.{Row}
use Rattle.sk_places.specs.Rows.{row_at_end}
use Rattle.sk_seats.specs.Phases.{is_plain as is_plain_seat, works_of}
use Rattle.sk_seats.specs.Works.{most_works}
use Rattle.sk_seats.specs.declared.phase.Phase.{Phase}
use Rattle.sk_seats.specs.declared.phase.Phase.TheVariants.{Plain, Joined}
use Rattle.sk_model.specs.Change.{passed, perform}
use Rattle.sk_model.specs.World.{World, phase_of}
use Rattle.sk_model.specs.Outcome.{Outcome, reply_of}
use Rattle.sk_model.specs.Queues.{move_row}
use Rattle.sk_model.specs.Seats.{fetched_from, is_open_to_all, is_worker_action}
use Rattle.sk_model.specs.Workers.{fetch, fetch_row, work, work_as}
use Rattle.sk_model.specs.Step.{act, by_seat, moves, on_keys}
use Rattle.sk_model.specs.Replay.{NullMovesIdle}

-- answered null, it changes nothing
abbrev Void : World → Outcome → Type 0
Void w o = o.reply ≡ reply.Null → perform w o.changes ≡ w

void_either : (w : World) (b : Bool) (one other : Outcome) → Void w one → Void w other → Void w (cond b one other)
void_either w true one other c d = c
void_either w false one other c d = d

-- ## Plain keys

abbrev VoidKeys : Keys → Applied → Type 0
VoidKeys keys done = reply_of done.answer ≡ reply.Null → done.keys ≡ keys

void_keys_either : (keys : Keys) (b : Bool) (one other : Applied) → VoidKeys keys one → VoidKeys keys other → VoidKeys keys (cond b one other)
void_keys_either keys true one other c d = c
void_keys_either keys false one other c d = d

void_turn : (name : Bytes) (to : Side) (deadline : Option ℕ) (taken : Option (Bytes × List Bytes)) (keys : Keys) → VoidKeys keys (turn_list name to deadline taken keys)
void_turn name to deadline None keys e = refl
void_turn name to deadline (Some taken) keys e = absurd (cc e)

void_carry : (source : Bytes) (from : Option Entry) (destination : Bytes) (to : Side) (there : Option Entry) (taken : Option (Bytes × List Bytes)) (list : Option (List Bytes)) (keys : Keys) → VoidKeys keys (carry source from destination to there taken list keys)
void_carry source from destination to there taken None keys e = refl
void_carry source from destination to there None (Some list) keys e = refl
void_carry source from destination to there (Some taken) (Some list) keys e = absurd (cc e)

void_move_list : (source destination : Bytes) (from to : Side) (list : Option (List Bytes)) (keys : Keys) → VoidKeys keys (move_list source destination from to list keys)
void_move_list source destination from to None keys = λ e. refl
void_move_list source destination from to (Some list) keys = void_keys_either keys (bytes_eq source destination) _ _
    (void_turn source to (deadline_at (at source keys)) (take_one from list) keys)
    (void_carry source (at source keys) destination to (at destination keys) (take_one from list) (list_at (at destination keys)) keys)

void_move_keys : (source destination : Bytes) (from to : Side) (keys : Keys) → VoidKeys keys (move_keys source destination from to keys)
unfolding move_keys
void_move_keys source destination from to keys = void_keys_either keys (is_some (at source keys)) _ _ (void_move_list source destination from to (list_at (at source keys)) keys) (λ e. refl)

void_on_keys : (w : World) (source destination : Bytes) (from to : Side) → Void w (on_keys w (action.Move source destination from to))
void_on_keys w source destination from to e = ap (λ (k : Keys). record w { keys = k }) (void_move_keys source destination from to w.keys e)

-- ## Queues and private lists

void_move_row : (w : World) (found : Option Row) (from : Side) (to : Place) (end : Side) → Void w (move_row found from to end)
void_move_row w None from to end e = refl
void_move_row w (Some row) from to end e = absurd (cc e)

void_moves : (w : World) (source destination : Bytes) (from to : Side) (c d : KeyClass) → Void w (moves w source destination from to c d)
void_moves w source destination from to c d = void_either w (is_plain c && is_plain d) _ _ (void_on_keys w source destination from to)
    (void_either w (is_queue c && is_queue d) _ _ (void_move_row w (row_at_end from (Queue (queue_of source)) w.rows) from (Queue (queue_of destination)) to) (λ e. refl))

void_fetch_row : (w : World) (seat : ℕ) (phase : Phase) (ident : Bytes) (found : Option Row) → Void w (fetch_row seat phase ident found)
void_fetch_row w seat phase ident None e = refl
void_fetch_row w seat phase ident (Some row) e = absurd (cc e)

void_fetch : (w : World) (seat : ℕ) (phase : Phase) (ident : Bytes) (queue : Option Bytes) → Void w (fetch w seat phase ident queue)
void_fetch w seat phase ident None = λ e. refl
void_fetch w seat phase ident (Some queue) = void_either w (nat_lt (length (works_of phase)) most_works) _ _ (void_fetch_row w seat phase ident (row_at_end Right (Queue queue) w.rows)) (λ e. refl)

void_work : (w : World) (seat : ℕ) (phase : Phase) (source destination : Bytes) (from to : Side) → Void w (work w seat phase (action.Move source destination from to))
void_work w seat Plain source destination from to = λ e. refl
void_work w seat (Joined ident works) source destination from to = void_fetch w seat (Joined ident works) ident (fetched_from ident (action.Move source destination from to))

void_by_seat : (w : World) (seat : ℕ) (phase : Phase) (source destination : Bytes) (from to : Side) → Void w (by_seat w seat phase (plain.Lmove source destination from to))
void_by_seat w seat phase source destination from to =
    let it = action.Move source destination from to in
    void_either w (is_worker_action it) _ _ (void_work w seat phase source destination from to)
    (void_either w (is_plain_seat phase || is_open_to_all (plain.Lmove source destination from to)) _ _ (void_moves w source destination from to (class_of source) (class_of destination)) (λ e. refl))

pub null_moves_idle : NullMovesIdle
null_moves_idle w seat now source destination from to e = inr (now, void_by_seat (passed now w) seat (phase_of w seat) source destination from to e)
