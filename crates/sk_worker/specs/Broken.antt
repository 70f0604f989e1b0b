-- What a worker does is told as a walk through a table. A line of it says which request is asked at a stage, which kind of answer is wanted, and
-- where that leads; other events lead from a stage to the next without a request. A fault breaks a walk off.
use Rattle.std.specs.Prelude.{◌≡◌, ◌++◌, ◌∷◌, [], Bool, true, false, List, Result, Ok, Err, IfOk}
use Rattle.sk_resp.specs.Spelling.{Bytes}
use Rattle.sk_resp.specs.declared.reply.Reply.{Reply}
use Rattle.sk_link.specs.Asking.{answers}
use Rattle.sk_link.specs.declared.asking.Answer.{Answer}
use Rattle.sk_link.specs.declared.link.LinkFault.{LinkFault}
use Rattle.sk_link.specs.Walk.{Walk}
use Rattle.sk_worker.specs.Event.{Event, asked}
use Rattle.sk_worker.specs.declared.turn.WorkFault.{WorkFault}
use Rattle.sk_worker.specs.declared.turn.WorkFault.TheVariants as fault

-- The events lead to this stage, and the last of them is the request of a line from there, which has no answer as wanted: this came of it, a reply
-- that the line doesn't want, or the fault of the link by which it was lost.
pub record Unanswered {S : Type 0} (Line : S → List Bytes → Answer → (Reply → S) → Type 0) (Step : S → Event → S → Type 0)
    (from : S) (events : List Event) (stage : S) (came : Result Reply LinkFault) : Type 0 where
  pub done : List Event
  pub walk : Walk Step from done stage
  pub request : List Bytes
  pub wanted : Answer
  pub next : Reply → S
  pub line : Line stage request wanted next
  pub unwanted : IfOk came (λ r. answers wanted r ≡ false)
  pub are : events ≡ done ++ asked (record { request = request; reply = came }) ∷ []

-- The events came as far as this stage, where a fault broke them off: a request without an answer as wanted; that the job can't fail once more,
-- which the table allows at its limit; or want of memory.
abbrev pub Broken : {S : Type 0} → (S → List Bytes → Answer → (Reply → S) → Type 0) → (S → Event → S → Type 0) → (S → Type 0) →
    S → List Event → S → WorkFault → Type 0
Broken Line Step Limit from events stage (fault.Link f) = Unanswered Line Step from events stage (Err f)
Broken Line Step Limit from events stage (fault.Refused r) = Unanswered Line Step from events stage (Ok r)
Broken Line Step Limit from events stage fault.GenLimit = Walk Step from events stage × Limit stage
Broken Line Step Limit from events stage fault.Ended = ⊥
Broken Line Step Limit from events stage fault.Memory = Walk Step from events stage

abbrev pub is_link : WorkFault → Bool
is_link (fault.Link f) = true
is_link f = false

-- The result is a fault of the link.
abbrev pub is_lost : {T : Type 0} → Result T WorkFault → Bool
is_lost (Ok x) = false
is_lost (Err f) = is_link f
