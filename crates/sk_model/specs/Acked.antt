-- How many rows a reply acknowledges: those that its command pushed from outside. The store's tally counts them as `outside`.
use Rattle.std.specs.Prelude.{◌≡◌, ◌+◌, ◌≤◌, ℕ, ℤ, nat_abs, length, Option, Some, None}
use Rattle.sk_resp.specs.declared.reply.Reply.{Reply}
use Rattle.sk_resp.specs.declared.reply.Reply.TheVariants as reply
use Rattle.sk_cmd.specs.declared.argument.Scored.TheVariants.{Schedule}
use Rattle.sk_cmd.specs.declared.command.Command.{Command}
use Rattle.sk_cmd.specs.declared.command.Command.TheVariants as command
use Rattle.sk_cmd.specs.declared.command.ScriptCommand.{ScriptCommand}
use Rattle.sk_cmd.specs.declared.command.ScriptCommand.TheVariants as script
use Rattle.sk_value.specs.declared.action.Action.{Action}
use Rattle.sk_value.specs.declared.action.Action.TheVariants as action
use Rattle.sk_value.specs.declared.write_op.WriteOp.{WriteOp}
use Rattle.sk_value.specs.declared.write_op.WriteOp.TheVariants as edit
use Rattle.sk_value.specs.Action.{action_of}
use Rattle.sk_key.specs.declared.key_class.KeyClass.{KeyClass}
use Rattle.sk_key.specs.declared.key_class.KeyClass.TheVariants as class
use Rattle.sk_key.specs.Class.{class_of}
use Rattle.sk_places.specs.LiveJobs.{one_if}
use Rattle.sk_model.specs.World.{World}
use Rattle.sk_model.specs.Change.{perform}
use Rattle.sk_model.specs.Outcome.{Outcome}
use Rattle.sk_model.specs.Step.{MayComeTo}
use Rattle.sk_model.specs.Run.{is_ok}

-- ## What a reply tells

-- the number that was answered, if one was
abbrev pub number_in : Reply → ℕ
number_in (reply.Int n) = nat_abs n
number_in other = 0

-- so many, if a number was answered
abbrev pub where_number : Reply → ℕ → ℕ
where_number (reply.Int n) count = count
where_number other count = 0

-- so many, if an array was answered
abbrev pub where_array : Reply → ℕ → ℕ
where_array (reply.Array texts) count = count
where_array other count = 0

-- ## Redis's commands

-- LPUSH and RPUSH push each text; ZADD tells how many texts are new.
abbrev pub acked_by_edit : KeyClass → WriteOp → Reply → ℕ
acked_by_edit class.Queue (edit.Push side texts) answer = where_number answer (length texts)
acked_by_edit (class.Jobs Schedule) (edit.Zadd pairs) answer = number_in answer
acked_by_edit other e answer = 0

abbrev pub acked_by : Action → Reply → ℕ
acked_by (action.WriteOp key e) answer = acked_by_edit (class_of key) e answer
acked_by other answer = 0

-- ## The store's own commands

-- An accepted SK.UPUSH pushes its text. With a score it may be there already: then it gets the score, and the reply is the same.
abbrev pub AcksUnique : Option ℤ → Reply → ℕ → Type 0
AcksUnique None answer count = count ≡ one_if (is_ok answer)
AcksUnique (Some score) answer count = count ≤ one_if (is_ok answer)

-- SK.BPUSH answers what the batch fires, SK.BADD how many jobs it pushed.
abbrev pub AcksScript : ScriptCommand → Reply → ℕ → Type 0
AcksScript (script.Upush text score) answer count = AcksUnique score answer count
AcksScript (script.Bpush bid parent complete success death texts) answer count = count ≡ where_array answer (length texts)
AcksScript (script.Badd bid texts) answer count = count ≡ number_in answer
AcksScript other answer count = count ≡ 0

-- ## Every command

-- The reply to the command acknowledges so many rows.
abbrev pub Acks : Command → Reply → ℕ → Type 0
Acks (command.Plain c) answer count = count ≡ acked_by (action_of c) answer
Acks (command.Script c) answer count = AcksScript c answer count

-- A number rose by as many as the reply acknowledges.
pub record Acknowledges (c : Command) (answer : Reply) (before after : ℕ) : Type 0 where
  pub added : ℕ
  pub acks : Acks c answer added
  pub after_is : after ≡ before + added

-- Each step pushes as many rows from outside as its reply acknowledges.
abbrev pub RepliesAcknowledge : Type 0
RepliesAcknowledge = (w : World) (seat now : ℕ) (c : Command) (o : Outcome) → MayComeTo w seat now c o → Acknowledges c o.reply w.tally.outside (perform w o.changes).tally.outside
