-- Which seat may send which command. A client's seat is Plain. What a worker's may send besides turns on its phase.
use Rattle.std.specs.Prelude.{pos, List, [], ◌∷◌, Option, Some, None, Bool, true, false, ◌||◌, ◌&&◌, cond}
use Rattle.std.specs.Ordering.{int_cmp, is_eq}
use Rattle.std.specs.List.{list_any}
use Rattle.std.specs.Str.{bytes_eq}
use Rattle.sk_resp.specs.Spelling.{Bytes}
use Rattle.sk_resp.specs.declared.refusal.Refusal.TheVariants.{NotWorker, OutOfTurn}
use Rattle.sk_cmd.specs.declared.argument.Side.TheVariants.{Left, Right}
use Rattle.sk_cmd.specs.declared.argument.Scored.TheVariants.{Schedule, Retry}
use Rattle.sk_cmd.specs.declared.command.PlainCommand.{PlainCommand}
use Rattle.sk_cmd.specs.ReadOnly.{only_reads}
use Rattle.sk_zset.specs.Pair.{Pair}
use Rattle.sk_value.specs.declared.action.Action.{Action}
use Rattle.sk_value.specs.declared.action.Action.TheVariants as action
use Rattle.sk_value.specs.declared.write_op.WriteOp.{WriteOp}
use Rattle.sk_value.specs.declared.write_op.WriteOp.TheVariants as edit
use Rattle.sk_value.specs.Action.{action_of}
use Rattle.sk_key.specs.declared.key_class.KeyClass.{KeyClass}
use Rattle.sk_key.specs.declared.key_class.KeyClass.TheVariants as class
use Rattle.sk_seats.specs.declared.phase.Phase.{Phase}
use Rattle.sk_seats.specs.declared.phase.Phase.TheVariants.{Plain, Joined}
use Rattle.sk_seats.specs.declared.work.Work.{Work}
use Rattle.sk_seats.specs.Works.{is_done_as, is_held_as}
use Rattle.sk_key.specs.Class.{class_of, queue_of, private_key, is_queue, is_private}
use Rattle.sk_model.specs.Outcome.{Outcome, refuses}

-- ## What all seats may send

-- the pushes from outside, and names into `queues`
abbrev pub may_push : KeyClass → WriteOp → Bool
may_push class.Queue (edit.Push side texts) = true
may_push class.Queues (edit.Sadd names) = true
may_push (class.Jobs Schedule) (edit.Zadd pairs) = true
may_push other e = false

abbrev pub adds : Action → Bool
adds (action.WriteOp key e) = may_push (class_of key) e
adds other = false

abbrev pub is_open_to_all : PlainCommand → Bool
is_open_to_all c = only_reads c || adds (action_of c)

-- ## What is a worker's

-- ZADD on `retry`, and LREM on a private list
abbrev pub is_worker_write : KeyClass → WriteOp → Bool
is_worker_write (class.Jobs Retry) (edit.Zadd pairs) = true
is_worker_write class.Private (edit.Lrem count text) = true
is_worker_write class.NoPrivate (edit.Lrem count text) = true
is_worker_write other e = false

-- besides these LMOVE to a private list
abbrev pub is_worker_action : Action → Bool
is_worker_action (action.WriteOp key e) = is_worker_write (class_of key) e
is_worker_action (action.Move source destination from to) = is_private (class_of destination)
is_worker_action other = false

-- The queue from which a seat of this process fetches: LMOVE queue:q sq:ident RIGHT LEFT
abbrev pub fetched_from : Bytes → Action → Option Bytes
fetched_from ident (action.Move source destination Right Left) = cond (is_queue (class_of source) && bytes_eq destination (private_key ident)) (Some (queue_of source)) None
fetched_from ident other = None

-- the only one of pairs
abbrev pub only : List Pair → Option Pair
only (pair ∷ []) = Some pair
only other = None

-- the text that a release names: LREM sq:ident 1 text
abbrev pub released_by : Bytes → Bytes → WriteOp → Option Bytes
released_by ident key (edit.Lrem count text) = cond (bytes_eq key (private_key ident) && is_eq (int_cmp count (pos 1))) (Some text) None
released_by ident key other = None

-- one of the works was put back or is settled, of this text
abbrev pub has_done : List Work → Option Bytes → Bool
has_done works None = false
has_done works (Some text) = list_any (is_done_as text) works

abbrev pub releases_by : Bytes → List Work → Action → Bool
releases_by ident works (action.WriteOp key e) = has_done works (released_by ident key e)
releases_by ident works other = false

-- the seat releases a job that it has put back, or is done with
abbrev pub releases : Phase → Action → Bool
releases Plain a = false
releases (Joined ident works) a = releases_by ident works a

-- ## Refusals

-- what a Plain seat alone may send
abbrev pub where_plain : Phase → Outcome → Outcome
where_plain Plain o = o
where_plain (Joined ident works) o = refuses OutOfTurn

-- what a worker's seat may send that has a work which passes
abbrev pub where_some : Phase → (Work → Bool) → (Bytes → Outcome) → Outcome
where_some Plain test o = refuses NotWorker
where_some (Joined ident works) test o = cond (list_any test works) (o ident) (refuses OutOfTurn)

-- what it may send with the text of a work that it holds
abbrev pub where_held : Phase → Bytes → (Bytes → Outcome) → Outcome
where_held phase text o = where_some phase (is_held_as text) o
