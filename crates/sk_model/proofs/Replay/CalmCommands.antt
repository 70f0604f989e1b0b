-- Each command that is answered with an error changes nothing.
use Rattle.std.proofs.Common.{◌≡◌, ◌⊎◌, inl, inr, refl, sym, ap, ◌∙◌, List, [], ◌∷◌, ◌++◌, ℕ, Bool, true, false, cond}
use Rattle.std.specs.Prelude.{ℤ, pos, Option, Some, None, nat_abs, nat_lt, length, not, ◌&&◌, ◌||◌}
use Rattle.std.specs.List.{list_all, list_any}
use Rattle.sk_resp.specs.Spelling.{Bytes}
use Rattle.sk_resp.specs.declared.refusal.Refusal.TheVariants as refusal
use Rattle.sk_resp.specs.declared.reply.Reply.TheVariants as reply
use Rattle.sk_resp.specs.declared.say.Say.TheVariants as say
use Rattle.sk_cmd.specs.declared.argument.Side.{Side}
use Rattle.sk_cmd.specs.declared.argument.Side.TheVariants.{Right}
use Rattle.sk_cmd.specs.declared.argument.Scored.{Scored}
use Rattle.sk_cmd.specs.declared.argument.Scored.TheVariants.{Schedule, Retry, Dead}
use Rattle.sk_cmd.specs.declared.command.PlainCommand.{PlainCommand}
use Rattle.sk_cmd.specs.declared.command.ScriptCommand.{ScriptCommand}
use Rattle.sk_cmd.specs.declared.command.ScriptCommand.TheVariants as script
use Rattle.sk_payload.specs.Head.{head}
use Rattle.sk_payload.specs.Member.{is_name}
use Rattle.sk_payload.specs.declared.head.Head.{Head}
use Rattle.sk_payload.specs.declared.head.Lock.{Lock}
use Rattle.sk_zset.specs.Pair.{Pair}
use Rattle.sk_value.specs.Action.{action_of}
use Rattle.sk_value.specs.Apply.{applied}
use Rattle.sk_value.specs.declared.action.Action.{Action}
use Rattle.sk_value.specs.declared.action.Action.TheVariants as action
use Rattle.sk_value.specs.declared.write_op.WriteOp.{WriteOp}
use Rattle.sk_value.specs.declared.write_op.WriteOp.TheVariants as edit
use Rattle.sk_key.specs.Class.{class_of, is_plain, is_queue, queue_of}
use Rattle.sk_key.specs.declared.key_class.KeyClass.{KeyClass}
use Rattle.sk_key.specs.declared.key_class.KeyClass.TheVariants as class
use Rattle.sk_places.specs.declared.row.Place.{Place}
use Rattle.sk_places.specs.declared.row.Place.TheVariants.{Queue, Set}
use Rattle.sk_places.specs.declared.row.Row.{Row}
use Rattle.sk_places.specs.Rows.{row_at_end, row_of, rows_at}
use Rattle.sk_seats.specs.Phases.{is_plain as is_plain_seat, works_of}
use Rattle.sk_seats.specs.Works.{is_buried_as, is_done_as, is_held_as, is_retried_as, most_works}
use Rattle.sk_seats.specs.declared.phase.Phase.{Phase}
use Rattle.sk_seats.specs.declared.phase.Phase.TheVariants.{Plain, Joined}
use Rattle.sk_seats.specs.declared.work.Work.{Work}
use Rattle.sk_batch.specs.declared.batch.Batch.{Batch}
use Rattle.sk_batch.specs.declared.batch_fault.BatchFault.{BatchFault}
use Rattle.sk_batch.specs.declared.batch_stat.BatchStat.{BatchStat}
use Rattle.sk_batch.specs.Stat.{stat}
use Rattle.sk_leases.specs.Leased.{holder_at, is_alive, is_led_by_another, last, leads}
use Rattle.sk_payload.specs.Digest.{digest}
use Rattle.sk_batch.specs.Faults.{bid_fault, batch_fault, jids_fault, breaks, is_full as batches_full}
use Rattle.sk_batch.specs.declared.batch_fault.BatchFault.TheVariants as fault
use Rattle.sk_places.specs.declared.origin.Origin.TheVariants.{Inner}
use Rattle.sk_model.specs.Change.{TakesSlot}
use Rattle.sk_model.specs.Notify.{push_job}
use Rattle.sk_model.specs.World.{World, phase_of}
use Rattle.sk_model.specs.Outcome.{Outcome, refuses}
use Rattle.sk_model.specs.Room.{is_full, is_too_much}
use Rattle.sk_model.specs.Queues.{add_names, move_row}
use Rattle.sk_model.specs.Sets.{edit_jobs}
use Rattle.sk_model.specs.Jobs.{kill_row, revive, revive_as, revive_row, waiting_rows}
use Rattle.sk_model.specs.Deletes.{delete, may_go}
use Rattle.sk_model.specs.Seats.{is_open_to_all, is_worker_action, only, released_by, fetched_from, where_held, where_plain, where_some}
use Rattle.sk_model.specs.Workers.{back, beat, bury, drop, fail, fetch, fetch_row, give, give_row, join, listed, ok, release_of, retry, start, work, work_as, work_edit}
use Rattle.sk_model.specs.Unique.{or_holder, push_locked, unique_push, unique_push_by, unique_push_of}
use Rattle.sk_model.specs.Periodic.{cron, has_loop, is_above, is_in_time, is_process, lead, lead_as}
use Rattle.sk_model.specs.Batches.{all_may_join, are_callbacks, batch_add, batch_of, batch_push, batch_stat, jids_of, join as join_batch, make, may_call, tells_stat, unless}
use Rattle.sk_model.specs.Step.{act, by_seat, edit_names, edit_queue, edits, moves, on_keys, on_plain, run}
use Rattle.sk_model.proofs.Replay.Calm.{Calm, calm_either, calm_keys}
use Rattle.sk_model.proofs.Replay.CalmKeys.{mild_action}

-- ## Keys, queues and sets

calm_on_keys : (w : World) (a : Action) → Calm w (on_keys w a)
calm_on_keys w a = calm_keys w (applied w.moment a w.keys) (mild_action w.moment a w.keys)

calm_on_plain : (w : World) (a : Action) (c : KeyClass) → Calm w (on_plain w a c)
calm_on_plain w a c = calm_either w (is_plain c) _ _ (calm_on_keys w a) (inr refl)

calm_queue : (w : World) (queue : Bytes) (e : WriteOp) → Calm w (edit_queue w queue e)
calm_queue w queue (edit.Push side texts) = calm_either w (is_full w texts) _ _ (inr refl) (inl refl)
calm_queue w queue (edit.Lrem count text) = inl refl
calm_queue w queue (edit.Incrby n) = inr refl
calm_queue w queue (edit.Sadd members) = inr refl
calm_queue w queue (edit.Srem members) = inr refl
calm_queue w queue (edit.Hset pairs) = inr refl
calm_queue w queue (edit.Hdel fields) = inr refl
calm_queue w queue (edit.Zadd scores) = inr refl
calm_queue w queue (edit.Zrem members) = inr refl
calm_queue w queue (edit.Zremrangebyrank first last) = inr refl
calm_queue w queue (edit.Zremrangebyscore least greatest) = inr refl

calm_names : (w : World) (e : WriteOp) → Calm w (edit_names w e)
calm_names w (edit.Sadd names) = calm_either w (list_all (is_name 255) names) _ _ (inl refl) (inr refl)
calm_names w (edit.Push side texts) = inr refl
calm_names w (edit.Lrem count text) = inr refl
calm_names w (edit.Incrby n) = inr refl
calm_names w (edit.Srem members) = inr refl
calm_names w (edit.Hset pairs) = inr refl
calm_names w (edit.Hdel fields) = inr refl
calm_names w (edit.Zadd scores) = inr refl
calm_names w (edit.Zrem members) = inr refl
calm_names w (edit.Zremrangebyrank first last) = inr refl
calm_names w (edit.Zremrangebyscore least greatest) = inr refl

calm_jobs : (w : World) (set : Scored) (e : WriteOp) → Calm w (edit_jobs w set e)
calm_jobs w Schedule (edit.Zadd pairs) = calm_either w (is_full w _) _ _ (inr refl) (inl refl)
calm_jobs w Retry (edit.Zadd pairs) = inr refl
calm_jobs w Dead (edit.Zadd pairs) = inr refl
calm_jobs w set (edit.Zrem members) = inl refl
calm_jobs w set (edit.Zremrangebyrank first last) = inl refl
calm_jobs w set (edit.Zremrangebyscore least greatest) = inl refl
calm_jobs w set (edit.Push side texts) = inr refl
calm_jobs w set (edit.Lrem count text) = inr refl
calm_jobs w set (edit.Incrby n) = inr refl
calm_jobs w set (edit.Sadd members) = inr refl
calm_jobs w set (edit.Srem members) = inr refl
calm_jobs w set (edit.Hset pairs) = inr refl
calm_jobs w set (edit.Hdel fields) = inr refl

calm_edits : (w : World) (key : Bytes) (e : WriteOp) (c : KeyClass) → Calm w (edits w key e c)
calm_edits w key e class.Plain = calm_on_keys w (action.WriteOp key e)
calm_edits w key e class.Queue = calm_queue w (queue_of key) e
calm_edits w key e class.Queues = calm_names w e
calm_edits w key e (class.Jobs set) = calm_jobs w set e
calm_edits w key e class.NoQueue = inr refl
calm_edits w key e class.Private = inr refl
calm_edits w key e class.NoPrivate = inr refl
calm_edits w key e class.Processes = inr refl
calm_edits w key e class.Counter = inr refl

calm_move_row : (w : World) (found : Option Row) (from : Side) (to : Place) (end : Side) → Calm w (move_row found from to end)
calm_move_row w None from to end = inr refl
calm_move_row w (Some row) from to end = inl refl

calm_moves : (w : World) (source destination : Bytes) (from to : Side) (c d : KeyClass) → Calm w (moves w source destination from to c d)
calm_moves w source destination from to c d = calm_either w (is_plain c && is_plain d) _ _ (calm_on_keys w (action.Move source destination from to))
    (calm_either w (is_queue c && is_queue d) _ _ (calm_move_row w (row_at_end from (Queue (queue_of source)) w.rows) from (Queue (queue_of destination)) to) (inr refl))

calm_act : (w : World) (a : Action) → Calm w (act w a)
calm_act w action.Ping = inr refl
calm_act w (action.Echo text) = inr refl
calm_act w action.Quit = inr refl
calm_act w (action.ReadOp key look) = inr refl
calm_act w (action.WriteOp key e) = calm_edits w key e (class_of key)
calm_act w (action.Set key text options) = calm_on_plain w (action.Set key text options) (class_of key)
calm_act w (action.Expire key millis) = calm_on_plain w (action.Expire key millis) (class_of key)
calm_act w (action.Give key text) = calm_on_plain w (action.Give key text) (class_of key)
calm_act w (action.Exists keys) = inr refl
calm_act w (action.Delete keys) = calm_either w (list_all (λ key. may_go (class_of key)) keys) _ _ (inl refl) (inr refl)
calm_act w (action.Move source destination from to) = calm_moves w source destination from to (class_of source) (class_of destination)
calm_act w action.Flush = inl refl

-- ## Workers

calm_fetch_row : (w : World) (seat : ℕ) (phase : Phase) (ident : Bytes) (found : Option Row) → Calm w (fetch_row seat phase ident found)
calm_fetch_row w seat phase ident None = inr refl
calm_fetch_row w seat phase ident (Some row) = inl refl

calm_fetch : (w : World) (seat : ℕ) (phase : Phase) (ident : Bytes) (queue : Option Bytes) → Calm w (fetch w seat phase ident queue)
calm_fetch w seat phase ident None = inr refl
calm_fetch w seat phase ident (Some queue) = calm_either w (nat_lt (length (works_of phase)) most_works) _ _ (calm_fetch_row w seat phase ident (row_at_end Right (Queue queue) w.rows)) (inr refl)

calm_release : (w : World) (seat : ℕ) (phase : Phase) (ident : Bytes) (text : Option Bytes) → Calm w (release_of w seat phase ident text)
calm_release w seat phase ident None = inr refl
calm_release w seat phase ident (Some text) = calm_either w (list_any (is_done_as text) (works_of phase)) _ _ (inl refl) (inr refl)

calm_retry : (w : World) (seat : ℕ) (phase : Phase) (pair : Option Pair) → Calm w (retry w seat phase pair)
calm_retry w seat phase None = inr refl
calm_retry w seat phase (Some pair) = calm_either w (list_any (is_retried_as pair.1) (works_of phase)) _ _ (inl refl) (inr refl)

calm_work_edit : (w : World) (seat : ℕ) (phase : Phase) (ident key : Bytes) (e : WriteOp) → Calm w (work_edit w seat phase ident key e)
calm_work_edit w seat phase ident key (edit.Zadd pairs) = calm_retry w seat phase (only pairs)
calm_work_edit w seat phase ident key (edit.Push side texts) = calm_release w seat phase ident (released_by ident key (edit.Push side texts))
calm_work_edit w seat phase ident key (edit.Lrem count text) = calm_release w seat phase ident (released_by ident key (edit.Lrem count text))
calm_work_edit w seat phase ident key (edit.Incrby n) = calm_release w seat phase ident (released_by ident key (edit.Incrby n))
calm_work_edit w seat phase ident key (edit.Sadd members) = calm_release w seat phase ident (released_by ident key (edit.Sadd members))
calm_work_edit w seat phase ident key (edit.Srem members) = calm_release w seat phase ident (released_by ident key (edit.Srem members))
calm_work_edit w seat phase ident key (edit.Hset pairs) = calm_release w seat phase ident (released_by ident key (edit.Hset pairs))
calm_work_edit w seat phase ident key (edit.Hdel fields) = calm_release w seat phase ident (released_by ident key (edit.Hdel fields))
calm_work_edit w seat phase ident key (edit.Zrem members) = calm_release w seat phase ident (released_by ident key (edit.Zrem members))
calm_work_edit w seat phase ident key (edit.Zremrangebyrank first last) = calm_release w seat phase ident (released_by ident key (edit.Zremrangebyrank first last))
calm_work_edit w seat phase ident key (edit.Zremrangebyscore least greatest) = calm_release w seat phase ident (released_by ident key (edit.Zremrangebyscore least greatest))

calm_work_as : (w : World) (seat : ℕ) (phase : Phase) (ident : Bytes) (a : Action) → Calm w (work_as w seat phase ident a)
calm_work_as w seat phase ident (action.WriteOp key e) = calm_work_edit w seat phase ident key e
calm_work_as w seat phase ident action.Ping = inr refl
calm_work_as w seat phase ident (action.Echo text) = inr refl
calm_work_as w seat phase ident action.Quit = inr refl
calm_work_as w seat phase ident (action.ReadOp key look) = inr refl
calm_work_as w seat phase ident (action.Set key text options) = inr refl
calm_work_as w seat phase ident (action.Expire key millis) = inr refl
calm_work_as w seat phase ident (action.Give key text) = inr refl
calm_work_as w seat phase ident (action.Exists keys) = inr refl
calm_work_as w seat phase ident (action.Delete keys) = inr refl
calm_work_as w seat phase ident (action.Move source destination from to) = calm_fetch w seat phase ident (fetched_from ident (action.Move source destination from to))
calm_work_as w seat phase ident action.Flush = inr refl

calm_work : (w : World) (seat : ℕ) (phase : Phase) (a : Action) → Calm w (work w seat phase a)
calm_work w seat Plain a = inr refl
calm_work w seat (Joined ident works) a = calm_work_as w seat (Joined ident works) ident a

-- plain commands, from any seat
pub calm_by_seat : (w : World) (seat : ℕ) (phase : Phase) (c : PlainCommand) → Calm w (by_seat w seat phase c)
calm_by_seat w seat phase c = calm_either w (is_worker_action (action_of c)) _ _ (calm_work w seat phase (action_of c))
    (calm_either w (is_plain_seat phase || is_open_to_all c) _ _ (calm_act w (action_of c)) (inr refl))

-- ## Scripts

calm_plain : (w : World) (phase : Phase) (o : Outcome) → Calm w o → Calm w (where_plain phase o)
calm_plain w Plain o c = c
calm_plain w (Joined ident works) o c = inr refl

calm_some : (w : World) (phase : Phase) (test : Work → Bool) (o : Bytes → Outcome) → ((ident : Bytes) → Calm w (o ident)) → Calm w (where_some phase test o)
calm_some w Plain test o c = inr refl
calm_some w (Joined ident works) test o c = calm_either w (list_any test works) _ _ (c ident) (inr refl)

calm_give_row : (w : World) (seat : ℕ) (phase : Phase) (h : Head) (found : Option Row) → Calm w (give_row seat phase h found)
calm_give_row w seat phase h None = inl refl
calm_give_row w seat phase h (Some row) = inl refl

calm_give : (w : World) (seat : ℕ) (phase : Phase) (ident text : Bytes) (h : Option Head) → Calm w (give w seat phase ident text h)
calm_give w seat phase ident text None = inr refl
calm_give w seat phase ident text (Some h) = calm_give_row w seat _ h (listed w ident text)

calm_revive_as : (w : World) (row : Row) (h : Option Head) → Calm w (revive_as row h)
calm_revive_as w row None = inr refl
calm_revive_as w row (Some h) = inl refl

calm_revive : (w : World) (found : Option Row) → Calm w (revive_row found)
calm_revive w None = inr refl
calm_revive w (Some row) = calm_revive_as w row (head row.text)

calm_kill : (w : World) (found : Option Row) → Calm w (kill_row w found)
calm_kill w None = inl refl
calm_kill w (Some row) = inl refl

calm_holder : (w : World) (holder : Option Bytes) (o : Outcome) → Calm w o → Calm w (or_holder holder o)
calm_holder w None o c = c
calm_holder w (Some jid) o c = inr refl

calm_unique_of : (w : World) (text : Bytes) (score : Option ℤ) (h : Head) (lock : Option Lock) (bid : Option Bytes) → Calm w (unique_push_of w text score h lock bid)
calm_unique_of w text score h None bid = inr refl
calm_unique_of w text score h (Some lock) None = calm_either w (is_full w (text ∷ [])) _ _ (inr refl) (calm_holder w (holder_at (digest h) w.moment w.leases) (push_locked w h lock text score) (inl refl))
calm_unique_of w text score h (Some lock) (Some bid) = inr refl

calm_unique : (w : World) (text : Bytes) (score : Option ℤ) (h : Option Head) → Calm w (unique_push_by w text score h)
calm_unique w text score None = inr refl
calm_unique w text score (Some h) = calm_unique_of w text score h h.lock h.bid

calm_unless : (w : World) (fault : Option BatchFault) (o : Outcome) → Calm w o → Calm w (unless fault o)
calm_unless w None o c = c
calm_unless w (Some fault) o c = inr refl

calm_push : (w : World) (batch : Batch) (texts : List Bytes) → Calm w (batch_push w batch texts)
calm_push w batch texts =
    let roomy : Outcome = cond (is_too_much w texts) (refuses refusal.Full) (make batch texts) in
    let free : Outcome = unless (jids_fault batch.bid (jids_of texts) w.batches (breaks (batches_full w.batches) fault.Full None)) roomy in
    let lawful : Outcome = cond (not (are_callbacks batch.callbacks && all_may_join batch.bid texts)) (refuses refusal.BadPayload) free in
    calm_either w (not (is_name 64 batch.bid)) (refuses refusal.NoBatch) (unless (bid_fault batch.bid batch.parent w.batches None) lawful) (inr refl)
    (calm_unless w (bid_fault batch.bid batch.parent w.batches None) lawful
    (calm_either w (not (are_callbacks batch.callbacks && all_may_join batch.bid texts)) (refuses refusal.BadPayload) free (inr refl)
    (calm_unless w (jids_fault batch.bid (jids_of texts) w.batches (breaks (batches_full w.batches) fault.Full None)) roomy
    (calm_either w (is_too_much w texts) (refuses refusal.Full) (make batch texts) (inr refl) (inl refl)))))

calm_add : (w : World) (bid : Bytes) (texts : List Bytes) → Calm w (batch_add w bid texts)
calm_add w bid texts =
    let roomy : Outcome = cond (is_too_much w texts) (refuses refusal.Full) (join_batch bid texts) in
    let free : Outcome = unless (jids_fault bid (jids_of texts) w.batches None) roomy in
    calm_unless w (batch_fault bid w.batches None) (cond (not (all_may_join bid texts)) (refuses refusal.BadPayload) free)
    (calm_either w (not (all_may_join bid texts)) (refuses refusal.BadPayload) free (inr refl)
    (calm_unless w (jids_fault bid (jids_of texts) w.batches None) roomy
    (calm_either w (is_too_much w texts) (refuses refusal.Full) (join_batch bid texts) (inr refl) (inl refl))))

calm_stat : (w : World) (found : Option BatchStat) → Calm w (tells_stat found)
calm_stat w None = inr refl
calm_stat w (Some s) = inr refl

calm_lead_as : (w : World) (ident : Bytes) (other : Bool) → Calm w (lead_as w ident other)
calm_lead_as w ident other = calm_either w other _ _ (inr refl) (inl refl)

calm_cron : (w : World) (ident loop : Bytes) (slot : ℕ) (text : Bytes) → Calm w (cron w ident loop slot text)
calm_cron w ident loop slot text =
    let pushed : Outcome = record { reply = reply.Say say.Ok; changes = TakesSlot loop slot text ∷ push_job Inner text } in
    let roomy : Outcome = cond (is_full w (text ∷ [])) (refuses refusal.Full) pushed in
    let fifth : Outcome = cond (not (has_loop w loop)) (refuses refusal.Full) roomy in
    let fourth : Outcome = cond (not (is_in_time w slot)) (refuses refusal.SlotTime) fifth in
    let third : Outcome = cond (not (is_above slot (last loop w.leases))) (refuses refusal.SlotDone) fourth in
    let second : Outcome = cond (not (leads ident w.moment w.leases)) (refuses refusal.NotLeader) third in
    let first : Outcome = cond (not (may_call (head text) && is_name 255 loop)) (refuses refusal.BadPayload) second in
    calm_either w (not (is_process w ident)) (refuses refusal.NoProcess) first (inr refl)
    (calm_either w (not (may_call (head text) && is_name 255 loop)) (refuses refusal.BadPayload) second (inr refl)
    (calm_either w (not (leads ident w.moment w.leases)) (refuses refusal.NotLeader) third (inr refl)
    (calm_either w (not (is_above slot (last loop w.leases))) (refuses refusal.SlotDone) fourth (inr refl)
    (calm_either w (not (is_in_time w slot)) (refuses refusal.SlotTime) fifth (inr refl)
    (calm_either w (not (has_loop w loop)) (refuses refusal.Full) roomy (inr refl)
    (calm_either w (is_full w (text ∷ [])) (refuses refusal.Full) pushed (inr refl) (inl refl)))))))

calm_join : (w : World) (seat : ℕ) (ident : Bytes) → Calm w (join w seat ident)
calm_join w seat ident = calm_either w (is_name 255 ident && is_alive ident w.moment w.leases) _ _ (inl refl) (inr refl)

pub calm_run : (w : World) (seat : ℕ) (phase : Phase) (c : ScriptCommand) → Calm w (run w seat phase c)
calm_run w seat phase (script.Beat ident) = calm_either w (is_name 255 ident) _ _ (inl refl) (inr refl)
calm_run w seat phase (script.Join ident) = calm_plain w phase (join w seat ident) (calm_join w seat ident)
calm_run w seat phase (script.Start text) = calm_some w phase (is_held_as text) _ (λ ident. inl refl)
calm_run w seat phase (script.Ok text) = calm_some w phase (is_held_as text) _ (λ ident. inl refl)
calm_run w seat phase (script.Fail text) = calm_some w phase (is_held_as text) _ (λ ident. inl refl)
calm_run w seat phase (script.Drop text) = calm_some w phase (is_held_as text) _ (λ ident. inl refl)
calm_run w seat phase (script.Bury text) = calm_some w phase (is_buried_as text) _ (λ ident. inl refl)
calm_run w seat phase (script.Back text) = calm_some w phase (is_held_as text) _ (λ ident. calm_give w seat phase ident text (head text))
calm_run w seat phase (script.Due set limit) = calm_plain w phase _ (inl refl)
calm_run w seat phase (script.Revive set text) = calm_plain w phase (revive w set text) (calm_revive w (row_of text (rows_at (Set set) w.rows)))
calm_run w seat phase (script.Kill set text) = calm_plain w phase _ (calm_kill w (row_of text (waiting_rows w set)))
calm_run w seat phase script.Rescue = calm_plain w phase _ (inl refl)
calm_run w seat phase (script.Upush text score) = calm_unique w text score (head text)
calm_run w seat phase (script.Bpush bid parent complete success death texts) = calm_push w (batch_of bid parent complete success death) texts
calm_run w seat phase (script.Badd bid texts) = calm_add w bid texts
calm_run w seat phase (script.Bstat bid) = calm_stat w (stat bid w.batches)
calm_run w seat phase (script.Where jid) = inr refl
calm_run w seat phase script.Status = inr refl
calm_run w seat phase (script.Lead ident) = calm_plain w phase _ (calm_either w (is_process w ident) _ _ (calm_lead_as w ident (is_led_by_another ident w.moment w.leases)) (inr refl))
calm_run w seat phase (script.Cron ident loop slot text) = calm_plain w phase _ (calm_cron w ident loop (nat_abs slot) text)
