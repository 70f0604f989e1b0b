-- What workers and pollers send makes no batch and pushes no periodic job. Where no batch was made, the store pushes nothing by itself.
use Rattle.std.proofs.Common.{◌≡◌, ℕ, zero, suc, List, [], ◌∷◌, ◌++◌, refl, sym, ap, subst, inl, inr, arith, Bool, true, false, cond, ◌||◌, ◌&&◌, length, map}
use Rattle.std.specs.Prelude.{nat_lt, nat_abs, Option, Some, None}
use Rattle.std.specs.List.{list_all, list_any}
use Rattle.sk_resp.specs.Spelling.{Bytes}
use Rattle.sk_cmd.specs.declared.argument.Side.{Side}
use Rattle.sk_cmd.specs.declared.argument.Side.TheVariants.{Left}
use Rattle.sk_cmd.specs.declared.argument.Scored.{Scored}
use Rattle.sk_cmd.specs.declared.argument.Scored.TheVariants.{Schedule, Retry, Dead}
use Rattle.sk_cmd.specs.declared.command.Command.{Command}
use Rattle.sk_cmd.specs.declared.command.PlainCommand.{PlainCommand}
use Rattle.sk_cmd.specs.declared.command.ScriptCommand.TheVariants as script
use Rattle.sk_payload.specs.Head.{head}
use Rattle.sk_payload.specs.Member.{is_name}
use Rattle.sk_payload.specs.declared.head.Head.{Head}
use Rattle.sk_payload.specs.declared.head.Lock.{Lock}
use Rattle.sk_payload.specs.declared.head.Until.{Until}
use Rattle.sk_payload.specs.declared.head.Until.TheVariants as until
use Rattle.sk_payload.specs.Digest.{digest}
use Rattle.sk_zset.specs.Pair.{Pair}
use Rattle.sk_value.specs.Action.{action_of}
use Rattle.sk_value.specs.declared.action.Action.{Action}
use Rattle.sk_value.specs.declared.action.Action.TheVariants as action
use Rattle.sk_value.specs.declared.write_op.WriteOp.{WriteOp}
use Rattle.sk_value.specs.declared.write_op.WriteOp.TheVariants as edit
use Rattle.sk_key.specs.declared.key_class.KeyClass.{KeyClass}
use Rattle.sk_key.specs.declared.key_class.KeyClass.TheVariants as class
use Rattle.sk_key.specs.Class.{queue_of, is_plain, is_queue}
use Rattle.sk_batch.specs.Notify.{fires_of}
use Rattle.sk_batch.specs.declared.event.Event.{Event as Notified}
use Rattle.sk_batch.specs.declared.event.Event.TheVariants as event
use Rattle.sk_batch.specs.declared.firing.Firing.{Firing}
use Rattle.sk_counters.specs.Counters.{failed, processed}
use Rattle.sk_places.specs.Rows.{copies_of, end_taken, number_taken, row_at, row_of, rows_at}
use Rattle.sk_places.specs.declared.row.Place.{Place}
use Rattle.sk_places.specs.declared.row.Place.TheVariants.{Queue, Set}
use Rattle.sk_places.specs.declared.row.Row.{Row}
use Rattle.sk_seats.specs.Phases.{is_plain as is_plain_seat, staging, works_of}
use Rattle.sk_seats.specs.Works.{is_buried_as, is_done_as, is_held_as, is_retried_as, most_works}
use Rattle.sk_seats.specs.declared.work.End.TheVariants as end
use Rattle.sk_seats.specs.declared.phase.Phase.{Phase}
use Rattle.sk_seats.specs.declared.phase.Phase.TheVariants.{Plain, Joined}
use Rattle.sk_seats.specs.declared.work.Stage.TheVariants.{Put, Settled}
use Rattle.sk_seats.specs.declared.work.Work.{Work}
use Rattle.sk_leases.specs.Leased.{is_alive, is_led_by_another}
use Rattle.sk_model.specs.World.{World}
use Rattle.sk_model.specs.Change.{Carry, Trim, Change, Makes, Moves, Recovers, TakesSlot, Turns, Counts, Unlocks, changed, perform}
use Rattle.sk_model.specs.Outcome.{Outcome}
use Rattle.sk_model.specs.Periodic.{is_process}
use Rattle.sk_model.specs.Unique.{is_until, unlocks, unlocks_at, unlocks_of}
use Rattle.sk_model.specs.Room.{is_full}
use Rattle.sk_model.specs.Queues.{pushes, takes, move_row}
use Rattle.sk_model.specs.Sets.{add_as, add_each, add_one, add_to, put_as, put_back}
use Rattle.sk_model.specs.Seats.{fetched_from, is_open_to_all, is_worker_action, only, released_by, where_plain, where_some}
use Rattle.sk_model.specs.Notify.{and_notify, push_callback, fire_all, push_to, notify, notify_in, notify_of}
use Rattle.sk_model.specs.Jobs.{Routed, bury, buried_by, due_rows, each, merge, moment_score, put_dead, promote, surplus}
use Rattle.sk_model.specs.Rescue.{bury_poison, is_poison, left_rows, rescue_row}
use Rattle.sk_model.specs.Workers.{fetch, fetch_row, release_of, retry, work, work_as, work_edit}
use Rattle.sk_model.specs.Step.{MayComeTo, act, by_seat, edits, moves, outcome, run}
use Rattle.sk_places.specs.declared.origin.Origin.TheVariants.{Inner}

-- ## Changes

-- it makes no batch, and takes no slot of a periodic job
abbrev pub is_ordinary : Change → Bool
is_ordinary (Makes batch jids) = false
is_ordinary (TakesSlot loop slot text) = false
is_ordinary other = true

abbrev pub all_ordinary : List Change → Bool
all_ordinary changes = list_all is_ordinary changes

abbrev pub Ordinary : Outcome → Type 0
Ordinary o = all_ordinary o.changes ≡ true

ordinary-append : (one more : List Change) → all_ordinary one ≡ true → all_ordinary more ≡ true → all_ordinary (one ++ more) ≡ true
ordinary-append [] more e f = f
ordinary-append (change ∷ one) more e f = grind (arith, e, ordinary-append one more, f)

-- ## Which outcome it is

either : (P : Outcome → Type 0) (b : Bool) (one other : Outcome) → P one → P other → P (cond b one other)
either P true one other f g = f
either P false one other f g = g

in_plain : (phase : Phase) (o : Outcome) → Ordinary o → Ordinary (where_plain phase o)
in_plain Plain o one = one
in_plain (Joined ident works) o one = refl

in_some : (phase : Phase) (test : Work → Bool) (o : Bytes → Outcome) → ((ident : Bytes) → Ordinary (o ident)) → Ordinary (where_some phase test o)
in_some Plain test o one = refl
in_some (Joined ident works) test o one = either Ordinary (list_any test works) _ _ (one ident) refl

-- ## Lists of changes of one kind

pushes_ordinary : (end : Side) (place : Place) (texts : List Bytes) → all_ordinary (pushes end place texts) ≡ true
pushes_ordinary end place [] = refl
pushes_ordinary end place (text ∷ texts) = pushes_ordinary end place texts

takes_ordinary : (n : ℕ) (row : Row) (end : Side) → all_ordinary (takes n row end) ≡ true
takes_ordinary zero row end = refl
takes_ordinary (suc n) row end = takes_ordinary n row end

trims_ordinary : (rows : List Row) → all_ordinary (map (λ row. Moves (Trim row)) rows) ≡ true
trims_ordinary [] = refl
trims_ordinary (row ∷ rows) = trims_ordinary rows

add_as_ordinary : (set : Scored) (pair : Pair) (found : Option Row) → is_ordinary (add_as set pair found) ≡ true
add_as_ordinary set pair None = refl
add_as_ordinary set pair (Some row) = refl

add_each_ordinary : (w : World) (set : Scored) (pairs : List Pair) → all_ordinary (add_each w set pairs) ≡ true
add_each_ordinary w set [] = refl
add_each_ordinary w set (pair ∷ pairs) =
    let one : Change = add_one w set pair in
    ordinary-append (one ∷ []) (add_each (changed w one) set pairs) (ap (λ b. b && true) (add_as_ordinary set pair (row_of pair.1 (rows_at (Set set) w.rows)))) (add_each_ordinary (changed w one) set pairs)

-- ## What clients do to keys

pub push_ordinary : (w : World) (key : Bytes) (side : Side) (texts : List Bytes) (c : KeyClass) → Ordinary (edits w key (edit.Push side texts) c)
push_ordinary w key side texts class.Queue = either Ordinary (is_full w texts) _ _ refl (pushes_ordinary side (Queue (queue_of key)) texts)
push_ordinary w key side texts other = refl

pub lrem_ordinary : (w : World) (key : Bytes) (count : _) (text : Bytes) (c : KeyClass) → Ordinary (edits w key (edit.Lrem count text) c)
lrem_ordinary w key count text class.Queue =
    let row : Row = row_at (Queue (queue_of key)) text in
    takes_ordinary (number_taken count (copies_of row w.rows)) row (end_taken count)
lrem_ordinary w key count text other = refl

add_to_ordinary : (w : World) (pairs : List Pair) (set : Scored) → Ordinary (add_to w pairs set)
add_to_ordinary w pairs Schedule = either Ordinary (is_full w (map (λ pair. pair.1) pairs)) _ _ refl (add_each_ordinary w Schedule pairs)
add_to_ordinary w pairs Retry = refl
add_to_ordinary w pairs Dead = refl

pub zadd_ordinary : (w : World) (key : Bytes) (pairs : List Pair) (c : KeyClass) → Ordinary (edits w key (edit.Zadd pairs) c)
zadd_ordinary w key pairs (class.Jobs set) = add_to_ordinary w pairs set
zadd_ordinary w key pairs other = refl

move_row_ordinary : (found : Option Row) (from : Side) (to : Place) (end : Side) → Ordinary (move_row found from to end)
move_row_ordinary None from to end = refl
move_row_ordinary (Some row) from to end = refl

pub moves_ordinary : (w : World) (source destination : Bytes) (from to : Side) (c d : KeyClass) → Ordinary (moves w source destination from to c d)
moves_ordinary w source destination from to c d = either Ordinary (is_plain c && is_plain d) _ _ refl
    (either Ordinary (is_queue c && is_queue d) _ _ (move_row_ordinary _ from (Queue (queue_of destination)) to) refl)

-- ## What batches fire

push_to_ordinary : (found : Option Head) (text : Bytes) → all_ordinary (push_to Inner text found) ≡ true
push_to_ordinary None text = refl
push_to_ordinary (Some h) text = refl

callback_ordinary : (o : Option Bytes) → all_ordinary (push_callback o) ≡ true
callback_ordinary None = refl
callback_ordinary (Some text) = push_to_ordinary (head text) text

fire_all_ordinary : (firings : List Firing) → all_ordinary (fire_all firings) ≡ true
fire_all_ordinary [] = refl
fire_all_ordinary (f ∷ firings) = ordinary-append (push_callback f.payload) (fire_all firings) (callback_ordinary f.payload) (fire_all_ordinary firings)

notify_in_ordinary : (e : Notified) (w : World) (jid : Bytes) (bid : Option Bytes) → all_ordinary (notify_in e w jid bid).changes ≡ true
notify_in_ordinary e w jid None = refl
notify_in_ordinary e w jid (Some bid) = fire_all_ordinary (fires_of e bid jid w.batches)

notify_of_ordinary : (e : Notified) (w : World) (found : Option Head) → all_ordinary (notify_of e w found).changes ≡ true
notify_of_ordinary e w None = refl
notify_of_ordinary e w (Some h) = notify_in_ordinary e w h.jid h.bid

and_notify_ordinary : (e : Notified) (w : World) (text : Bytes) (changes : List Change) → all_ordinary changes ≡ true →
    all_ordinary (changes ++ (notify e (perform w changes) text).changes) ≡ true
and_notify_ordinary e w text changes one = ordinary-append changes _ one (notify_of_ordinary e (perform w changes) (head text))

-- ## Jobs that are sent from one place to another

merge_ordinary : (found : Option Row) (row : Row) (w : World) → all_ordinary (merge found ++ Moves (Carry row Left (Set Dead) (moment_score w) Left) ∷ []) ≡ true
merge_ordinary None row w = refl
merge_ordinary (Some other) row w = refl

buried_by_ordinary : (w : World) (text : Bytes) (put : List Change) → all_ordinary put ≡ true → all_ordinary (buried_by w text put).changes ≡ true
buried_by_ordinary w text put one =
    let gone : List Row = surplus (perform w put) (rows_at (Set Dead) (perform w put).rows) in
    let trims : List Change = map (λ row. Moves (Trim row)) gone in
    ordinary-append (put ++ trims) _ (ordinary-append put trims one (trims_ordinary gone)) (notify_of_ordinary event.Died (perform w (put ++ trims)) (head text))

bury_ordinary : (w : World) (row : Row) → all_ordinary (bury w row).changes ≡ true
bury_ordinary w row = buried_by_ordinary w row.text (put_dead w row) (merge_ordinary _ row w)

either_sent : (b : Bool) (one other : Routed) → all_ordinary one.changes ≡ true → all_ordinary other.changes ≡ true → all_ordinary (cond b one other).changes ≡ true
either_sent true one other e f = e
either_sent false one other e f = f

promote_ordinary : (w : World) (row : Row) (found : Option Head) → all_ordinary (promote w row found).changes ≡ true
promote_ordinary w row None = bury_ordinary w row
promote_ordinary w row (Some h) = refl

rescue_row_ordinary : (w : World) (row : Row) (found : Option Head) → all_ordinary (rescue_row w row found).changes ≡ true
rescue_row_ordinary w row None = bury_ordinary w row
rescue_row_ordinary w row (Some h) = let noted : World = changed w (Recovers h.jid) in
    either_sent (is_poison noted h.jid) (bury_poison noted row h.jid) _ (ordinary-append (bury noted row).changes _ (bury_ordinary noted row) refl) refl

each_ordinary : (way : World → Row → Option Head → Routed) → ((w : World) (row : Row) (found : Option Head) → all_ordinary (way w row found).changes ≡ true) →
    (w : World) (rows : List Row) → all_ordinary (each way w rows).changes ≡ true
each_ordinary way one w [] = refl
each_ordinary way one w (row ∷ rows) = let sent = (way w row (head row.text)).changes in
    ordinary-append sent (each way (perform w sent) rows).changes (one w row (head row.text)) (each_ordinary way one (perform w sent) rows)

-- ## What workers do

fetch_row_ordinary : (seat : ℕ) (phase : Phase) (ident : Bytes) (found : Option Row) → Ordinary (fetch_row seat phase ident found)
fetch_row_ordinary seat phase ident None = refl
fetch_row_ordinary seat phase ident (Some row) = refl

fetch_ordinary : (w : World) (seat : ℕ) (phase : Phase) (ident : Bytes) (queue : Option Bytes) → Ordinary (fetch w seat phase ident queue)
fetch_ordinary w seat phase ident None = refl
fetch_ordinary w seat phase ident (Some queue) = either Ordinary (nat_lt (length (works_of phase)) most_works) _ _ (fetch_row_ordinary seat phase ident _) refl

put_ordinary : (set : Scored) (pair : Pair) (found : Option Row) (seat : ℕ) (phase : Phase) → all_ordinary (put_as set pair found ∷ Turns seat phase ∷ []) ≡ true
put_ordinary set pair None seat phase = refl
put_ordinary set pair (Some row) seat phase = refl

retry_ordinary : (w : World) (seat : ℕ) (phase : Phase) (pair : Option Pair) → Ordinary (retry w seat phase pair)
retry_ordinary w seat phase None = refl
retry_ordinary w seat phase (Some pair) = either Ordinary (list_any (is_retried_as pair.1) (works_of phase)) _ _ (put_ordinary Retry pair _ seat (staging (is_retried_as pair.1) Put phase)) refl

release_ordinary : (w : World) (seat : ℕ) (phase : Phase) (ident : Bytes) (text : Option Bytes) → Ordinary (release_of w seat phase ident text)
release_ordinary w seat phase ident None = refl
release_ordinary w seat phase ident (Some text) = either Ordinary (list_any (is_done_as text) (works_of phase)) _ _ refl refl

work_edit_ordinary : (w : World) (seat : ℕ) (phase : Phase) (ident key : Bytes) (e : WriteOp) → Ordinary (work_edit w seat phase ident key e)
work_edit_ordinary w seat phase ident key (edit.Zadd pairs) = retry_ordinary w seat phase (only pairs)
work_edit_ordinary w seat phase ident key other = release_ordinary w seat phase ident (released_by ident key other)

work_as_ordinary : (w : World) (seat : ℕ) (phase : Phase) (ident : Bytes) (a : Action) → Ordinary (work_as w seat phase ident a)
work_as_ordinary w seat phase ident (action.WriteOp key e) = work_edit_ordinary w seat phase ident key e
work_as_ordinary w seat phase ident other = fetch_ordinary w seat phase ident (fetched_from ident other)

work_ordinary : (w : World) (seat : ℕ) (phase : Phase) (a : Action) → Ordinary (work w seat phase a)
work_ordinary w seat Plain a = refl
work_ordinary w seat (Joined ident works) a = work_as_ordinary w seat (Joined ident works) ident a

pub by_seat_ordinary : (w : World) (seat : ℕ) (phase : Phase) (c : PlainCommand) → Ordinary (act w (action_of c)) → Ordinary (by_seat w seat phase c)
by_seat_ordinary w seat phase c one = either Ordinary (is_worker_action (action_of c)) _ _ (work_ordinary w seat phase (action_of c))
    (either Ordinary (is_plain_seat phase || is_open_to_all c) _ _ one refl)

-- ## The store's own commands

unlocks_at_ordinary : (u : Until) (h : Head) (lock : Option Lock) → all_ordinary (unlocks_at u h lock) ≡ true
unlocks_at_ordinary u h None = refl
unlocks_at_ordinary u h (Some lock) = by_until (is_until u lock.until) where
  by_until : (b : Bool) → all_ordinary (cond b (Unlocks (digest h) h.jid ∷ []) []) ≡ true
  by_until true = refl
  by_until false = refl

unlocks_of_ordinary : (u : Until) (found : Option Head) → all_ordinary (unlocks_of u found) ≡ true
unlocks_of_ordinary u None = refl
unlocks_of_ordinary u (Some h) = unlocks_at_ordinary u h h.lock

unlocks_ordinary : (u : Until) (text : Bytes) → all_ordinary (unlocks u text) ≡ true
unlocks_ordinary u text = unlocks_of_ordinary u (head text)

pub beat_ordinary : (w : World) (seat : ℕ) (phase : Phase) (ident : Bytes) → Ordinary (run w seat phase (script.Beat ident))
beat_ordinary w seat phase ident = either Ordinary (is_name 255 ident) _ _ refl refl

pub join_ordinary : (w : World) (seat : ℕ) (phase : Phase) (ident : Bytes) → Ordinary (run w seat phase (script.Join ident))
join_ordinary w seat phase ident = in_plain phase _ (either Ordinary (is_name 255 ident && is_alive ident w.moment w.leases) _ _ refl refl)

pub start_ordinary : (w : World) (seat : ℕ) (phase : Phase) (text : Bytes) → Ordinary (run w seat phase (script.Start text))
start_ordinary w seat phase text = in_some phase (is_held_as text) _ (λ ident. unlocks_ordinary until.Start text)

pub ok_ordinary : (w : World) (seat : ℕ) (phase : Phase) (text : Bytes) → Ordinary (run w seat phase (script.Ok text))
ok_ordinary w seat phase text =
    let changes : List Change = Turns seat (staging (is_held_as text) (Settled end.Returned) phase) ∷ Counts processed ∷ [] in
    in_some phase (is_held_as text) _ (λ ident.
    ordinary-append (and_notify event.Returned w text changes).changes (unlocks until.Success text) (and_notify_ordinary event.Returned w text changes refl) (unlocks_ordinary until.Success text))

pub fail_ordinary : (w : World) (seat : ℕ) (phase : Phase) (text : Bytes) → Ordinary (run w seat phase (script.Fail text))
fail_ordinary w seat phase text = in_some phase (is_held_as text) _ (λ ident. and_notify_ordinary event.Reported w text (Counts processed ∷ Counts failed ∷ []) refl)

pub drop_ordinary : (w : World) (seat : ℕ) (phase : Phase) (text : Bytes) → Ordinary (run w seat phase (script.Drop text))
drop_ordinary w seat phase text = in_some phase (is_held_as text) _ (λ ident. refl)

pub bury_text_ordinary : (w : World) (seat : ℕ) (phase : Phase) (text : Bytes) → Ordinary (run w seat phase (script.Bury text))
bury_text_ordinary w seat phase text =
    let after : Phase = staging (is_buried_as text) Put phase in
    in_some phase (is_buried_as text) _ (λ ident.
    buried_by_ordinary w text (put_back w Dead (moment_score w, text) ∷ Turns seat after ∷ []) (put_ordinary Dead (moment_score w, text) (row_of text (rows_at (Set Dead) w.rows)) seat after))

pub due_ordinary : (w : World) (seat : ℕ) (phase : Phase) (set : Scored) (limit : _) → Ordinary (run w seat phase (script.Due set limit))
due_ordinary w seat phase set limit = in_plain phase _ (each_ordinary promote promote_ordinary w (due_rows w set (nat_abs limit)))

pub rescue_ordinary : (w : World) (seat : ℕ) (phase : Phase) → Ordinary (run w seat phase script.Rescue)
rescue_ordinary w seat phase = in_plain phase _ (each_ordinary rescue_row rescue_row_ordinary w (left_rows w))

pub lead_ordinary : (w : World) (seat : ℕ) (phase : Phase) (ident : Bytes) → Ordinary (run w seat phase (script.Lead ident))
lead_ordinary w seat phase ident = in_plain phase _ (either Ordinary (is_process w ident) _ _ (either Ordinary (is_led_by_another ident w.moment w.leases) _ _ refl refl) refl)

-- ## The step

-- Memory may run out, and then time alone goes on.
pub may_ordinary : (c : Command) → ((w : World) (seat now : ℕ) → Ordinary (outcome w seat now c)) →
    (w : World) (seat now : ℕ) (o : Outcome) → MayComeTo w seat now c o → Ordinary o
may_ordinary c one w seat now o (inl e) = subst Ordinary (sym e) (one w seat now)
may_ordinary c one w seat now o (inr (may, e)) = subst Ordinary (sym e) refl
