-- What a reply says of an event.
use Rattle.std.proofs.Common.{◌≡◌, ◌≢◌, inl, inr, refl, sym, ap, ◌∙◌, true}
use Rattle.std.specs.Prelude.{Ok, Err, Result, IsErrOf}
use Rattle.sk_cmd.proofs.AgreeTable.{one_command}
use Rattle.sk_cmd.specs.Fault.{fault_say}
use Rattle.sk_cmd.specs.Reading.{Read}
use Rattle.sk_cmd.specs.Table.{IsRead}
use Rattle.sk_cmd.specs.declared.cmd_fault.CmdFault.{CmdFault}
use Rattle.sk_cmd.specs.declared.cmd_fault.CmdFault.TheVariants as fault
use Rattle.sk_cmd.specs.declared.command.Command.{Command}
use Rattle.sk_resp.specs.declared.reply.Reply.{Reply}
use Rattle.sk_resp.specs.declared.reply.Reply.TheVariants as reply
use Rattle.sk_resp.specs.declared.say.Say.TheVariants as say
use Rattle.sk_log.specs.declared.replayer.ReplayFault.{ReplayFault}
use Rattle.sk_log.specs.declared.replayer.ReplayFault.TheVariants.{Refused, Memory}
use Rattle.sk_model.specs.World.{World}
use Rattle.sk_model.specs.Outcome.{Outcome, Realizes}
use Rattle.sk_model.specs.Reading.{Words}
use Rattle.sk_model.specs.Step.{MayComeTo, outcome}
use Rattle.sk_model.specs.Event.{Ask}
use Rattle.sk_resp.specs.Errors.{is_error}
use Rattle.sk_model.specs.Starving.{outcome_of}
use Rattle.sk_aof.specs.Accepted.{IsRefused, Judges}

judged : (answer : Reply) (result : Result (Unit {0}) ReplayFault) → Judges answer result → IsErrOf result Refused → (is_error answer ≡ true) × (answer ≢ reply.Say say.Oom)
judged answer (Ok u) j e = absurd (cc e)
judged answer (Err Refused) j e = j
judged answer (Err Memory) j e = absurd (cc e)

-- the text of a fault is an error's
pub fault_is_error : (f : CmdFault) → is_error (reply.Say (fault_say f)) ≡ true
fault_is_error fault.Unknown = refl
fault_is_error (fault.Arity name) = refl
fault_is_error fault.NotInt = refl
fault_is_error fault.NotScore = refl
fault_is_error fault.BadBound = refl
fault_is_error fault.Syntax = refl
fault_is_error fault.Memory = refl

module _ (w : World) (seat now : _) (words : Words) where
  -- words that are no command are refused
  pub unread_refused : (f : CmdFault) → IsRead words (Err f) → f ≢ fault.Memory → IsRefused w (Ask seat now words)
  unread_refused f read some = λ o s.
      let same = one_command words s.0 (Err f) s.1 read s.2 (λ e. some (cc e)) in
      ap (λ (p : Outcome). is_error p.reply) (s.3 ∙ ap (λ (r : Read Command). outcome_of w seat now r) same) ∙ fault_is_error f

  -- a command whose reply is an error, and not for want of memory
  pub answer_refused : (c : Command) (answer : Reply) (new : World) (result : Result (Unit {0}) ReplayFault) → IsRead words (Ok c) → ((o : Outcome) × MayComeTo w seat now c o × Realizes w o answer new)
      → Judges answer result → IsErrOf result Refused → IsRefused w (Ask seat now words)
  answer_refused c answer new result read came judges refused = λ o s.
      let j = judged answer result judges refused in
      let same = one_command words s.0 (Ok c) s.1 read s.2 (λ e. cc e) in
      let o_is : o ≡ outcome w seat now c = s.3 ∙ ap (λ (r : Read Command). outcome_of w seat now r) same in
      by_outcome o came.0 o_is j came.1 came.2.reply_is
    where
      by_outcome : (o p : Outcome) → o ≡ outcome w seat now c → (is_error answer ≡ true) × (answer ≢ reply.Say say.Oom) → MayComeTo w seat now c p → answer ≡ p.reply → is_error o.reply ≡ true
      by_outcome o p o_is j (inl e) answered = ap (λ (q : Outcome). is_error q.reply) (o_is ∙ sym e) ∙ ap is_error (sym answered) ∙ j.0
      by_outcome o p o_is j (inr e) answered = absurd (j.1 (answered ∙ ap (λ (q : Outcome). q.reply) e.1))
