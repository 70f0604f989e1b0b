-- One command for the store: from the world, to a reply and changes.
use Rattle.std.specs.Prelude.{◌≡◌, ◌⊎◌, ℕ, [], ◌∷◌, Bool, true, false, cond, not, ◌&&◌, ◌||◌, nat_abs}
use Rattle.sk_resp.specs.Spelling.{Bytes}
use Rattle.sk_resp.specs.declared.reply.Reply.TheVariants as reply
use Rattle.sk_resp.specs.declared.say.Say.TheVariants as say
use Rattle.sk_resp.specs.declared.refusal.Refusal.TheVariants.{ManagedKey, OutOfTurn}
use Rattle.sk_cmd.specs.declared.argument.Side.{Side}
use Rattle.sk_cmd.specs.declared.command.Command.{Command}
use Rattle.sk_cmd.specs.declared.command.Command.TheVariants as command
use Rattle.sk_cmd.specs.declared.command.PlainCommand.{PlainCommand}
use Rattle.sk_cmd.specs.declared.command.ScriptCommand.{ScriptCommand}
use Rattle.sk_cmd.specs.declared.command.ScriptCommand.TheVariants as script
use Rattle.sk_value.specs.declared.action.Action.{Action}
use Rattle.sk_value.specs.declared.action.Action.TheVariants as action
use Rattle.sk_value.specs.declared.write_op.WriteOp.{WriteOp}
use Rattle.sk_value.specs.declared.write_op.WriteOp.TheVariants as edit
use Rattle.sk_value.specs.Answer.{counted}
use Rattle.sk_value.specs.Action.{action_of}
use Rattle.sk_value.specs.Keys.{how_many}
use Rattle.sk_value.specs.Values.{look_at}
use Rattle.sk_value.specs.Apply.{applied, Applied}
use Rattle.sk_key.specs.declared.key_class.KeyClass.{KeyClass}
use Rattle.sk_key.specs.declared.key_class.KeyClass.TheVariants as class
use Rattle.sk_seats.specs.declared.phase.Phase.{Phase}
use Rattle.sk_seats.specs.declared.phase.Phase.TheVariants.{Plain}
use Rattle.sk_places.specs.declared.row.Place.TheVariants.{Queue}
use Rattle.sk_seats.specs.Phases.{is_plain as is_plain_seat}
use Rattle.sk_model.specs.World.{World, phase_of}
use Rattle.sk_model.specs.Change.{Passes, Keeps, Turns, changed}
use Rattle.sk_key.specs.Class.{class_of, queue_of, is_plain, is_queue}
use Rattle.sk_model.specs.Held.{held}
use Rattle.sk_model.specs.Outcome.{Outcome, says, tells, refuses, reply_of}
use Rattle.sk_model.specs.Queues.{push, remove, move, add_names}
use Rattle.sk_model.specs.Sets.{edit_jobs}
use Rattle.sk_model.specs.Jobs.{due, kill, revive}
use Rattle.sk_model.specs.Deletes.{delete, flush}
use Rattle.sk_model.specs.Seats.{is_worker_action, is_open_to_all, releases, where_plain}
use Rattle.sk_model.specs.Rescue.{rescue}
use Rattle.sk_model.specs.Life.{rows_of}
use Rattle.sk_model.specs.Status.{status}
use Rattle.sk_model.specs.Workers.{beat, join, work, start, ok, drop, fail, bury, back}
use Rattle.sk_model.specs.Unique.{unique_push}
use Rattle.sk_model.specs.Periodic.{cron, lead}
use Rattle.sk_model.specs.Batches.{batch_of, batch_push, batch_add, batch_stat}

-- ## Keys of the clients' own

-- the action is done to the plain keys
abbrev pub on_keys : World → Action → Outcome
on_keys w a = let done : Applied = applied w.moment a w.keys in record { reply = reply_of done.answer; changes = Keeps done.keys ∷ [] }

-- A write on a managed key that isn't listed here is refused.
abbrev pub on_plain : World → Action → KeyClass → Outcome
on_plain w a c = cond (is_plain c) (on_keys w a) (refuses ManagedKey)

-- ## Edits

-- what may be written on a queue
abbrev pub edit_queue : World → Bytes → WriteOp → Outcome
edit_queue w queue (edit.Push side texts) = push w side (Queue queue) texts
edit_queue w queue (edit.Lrem count text) = remove w (Queue queue) count text
edit_queue w queue other = refuses ManagedKey

-- what may be written on the set of the queues' names
abbrev pub edit_names : World → WriteOp → Outcome
edit_names w (edit.Sadd names) = add_names w names
edit_names w other = refuses ManagedKey

abbrev pub edits : World → Bytes → WriteOp → KeyClass → Outcome
edits w key e class.Plain = on_keys w (action.WriteOp key e)
edits w key e class.Queue = edit_queue w (queue_of key) e
edits w key e class.Queues = edit_names w e
edits w key e class.NoQueue = refuses ManagedKey
edits w key e class.Private = refuses ManagedKey
edits w key e class.NoPrivate = refuses ManagedKey
edits w key e class.Processes = refuses ManagedKey
edits w key e (class.Jobs set) = edit_jobs w set e
edits w key e class.Counter = refuses ManagedKey

-- LMOVE goes between two queues, or between two plain keys.
abbrev pub moves : World → Bytes → Bytes → Side → Side → KeyClass → KeyClass → Outcome
moves w source destination from to c d = cond (is_plain c && is_plain d) (on_keys w (action.Move source destination from to))
    (cond (is_queue c && is_queue d) (move w (Queue (queue_of source)) (Queue (queue_of destination)) from to) (refuses ManagedKey))

-- ## Every action

abbrev pub act : World → Action → Outcome
act w action.Ping = tells say.Pong
act w (action.Echo text) = says (reply.Bulk text)
act w action.Quit = tells say.Ok
act w (action.ReadOp key look) = says (reply_of (look_at w.moment look (held w key)))
act w (action.WriteOp key edit) = edits w key edit (class_of key)
act w (action.Set key text options) = on_plain w (action.Set key text options) (class_of key)
act w (action.Expire key millis) = on_plain w (action.Expire key millis) (class_of key)
act w (action.Give key text) = on_plain w (action.Give key text) (class_of key)
act w (action.Exists keys) = says (counted (how_many (held w) keys))
act w (action.Delete keys) = delete w keys
act w (action.Move source destination from to) = moves w source destination from to (class_of source) (class_of destination)
act w action.Flush = flush w

-- What a seat in this phase sends: a worker's command, or one that all seats may send, or, from a Plain seat, any other.
abbrev pub by_seat : World → ℕ → Phase → PlainCommand → Outcome
by_seat w seat phase c = cond (is_worker_action (action_of c)) (work w seat phase (action_of c))
    (cond (is_plain_seat phase || is_open_to_all c) (act w (action_of c)) (refuses OutOfTurn))

-- ## The commands of the store's own

abbrev pub run : World → ℕ → Phase → ScriptCommand → Outcome
run w seat phase (script.Beat ident) = beat ident
run w seat phase (script.Join ident) = where_plain phase (join w seat ident)
run w seat phase (script.Start text) = start phase text
run w seat phase (script.Ok text) = ok w seat phase text
run w seat phase (script.Fail text) = fail w phase text
run w seat phase (script.Drop text) = drop seat phase text
run w seat phase (script.Bury text) = bury w seat phase text
run w seat phase (script.Back text) = back w seat phase text
run w seat phase (script.Due set limit) = where_plain phase (due w set (nat_abs limit))
run w seat phase (script.Revive set text) = where_plain phase (revive w set text)
run w seat phase (script.Kill set text) = where_plain phase (kill w set text)
run w seat phase script.Rescue = where_plain phase (rescue w)
run w seat phase (script.Upush text score) = unique_push w text score
run w seat phase (script.Bpush bid parent complete success death texts) = batch_push w (batch_of bid parent complete success death) texts
run w seat phase (script.Badd bid texts) = batch_add w bid texts
run w seat phase (script.Bstat bid) = batch_stat w bid
run w seat phase (script.Where jid) = says (counted (rows_of jid w))
run w seat phase script.Status = status w
run w seat phase (script.Lead ident) = where_plain phase (lead w ident)
run w seat phase (script.Cron ident loop slot text) = where_plain phase (cron w ident loop (nat_abs slot) text)

-- ## The step

-- what is done at a moment
abbrev pub at_moment : ℕ → Outcome → Outcome
at_moment now o = record o { changes = Passes now ∷ o.changes }

abbrev pub plain_outcome : World → ℕ → ℕ → PlainCommand → Outcome
plain_outcome w seat now c = at_moment now (by_seat (changed w (Passes now)) seat (phase_of w seat) c)

abbrev pub script_outcome : World → ℕ → ℕ → ScriptCommand → Outcome
script_outcome w seat now c = at_moment now (run (changed w (Passes now)) seat (phase_of w seat) c)

-- What the store makes of a command that a seat hands it at a moment.
abbrev pub outcome : World → ℕ → ℕ → Command → Outcome
outcome w seat now (command.Plain c) = plain_outcome w seat now c
outcome w seat now (command.Script c) = script_outcome w seat now c

-- The seat is cut off: it is Plain from then on, and nothing else changes. Not even time goes on.
abbrev pub cut : ℕ → Outcome
cut seat = record { reply = reply.Say say.Ok; changes = Turns seat Plain ∷ [] }

-- there is no memory for it: time goes on, and nothing else changes
abbrev pub starves : ℕ → Outcome
starves now = record { reply = reply.Say say.Oom; changes = Passes now ∷ [] }

-- whether there may be no memory for the command: there is always some for a release
abbrev pub may_starve : World → ℕ → Command → Bool
may_starve w seat (command.Plain c) = not (releases (phase_of w seat) (action_of c))
may_starve w seat (command.Script c) = true

-- From the world, the command comes to this outcome. It may starve.
abbrev pub MayComeTo : World → ℕ → ℕ → Command → Outcome → Type 0
MayComeTo w seat now c o = (o ≡ outcome w seat now c) ⊎ ((may_starve w seat c ≡ true) × (o ≡ starves now))
