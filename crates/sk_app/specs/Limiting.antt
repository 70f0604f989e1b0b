-- The program `limit`.
use Rattle.std.specs.Prelude.{◌≡◌, ◌++◌, ℕ, Bool, true, false, List, Option, Some, None, Result, Ok, Err, codes}
use Rattle.std.specs.Fmt.{decimal}
use Rattle.clap.specs.Words.{Text}
use Rattle.sk_client.specs.Jid.{jid_of_words}
use Rattle.sk_limit.specs.Grant.{Grants}
use Rattle.sk_limit.specs.Hold.{Holds, Wish, wish}
use Rattle.sk_limit.specs.declared.holds.HeldSlot.{HeldSlot}
use Rattle.sk_limit.specs.declared.limit_fault.LimitFault.{LimitFault}
use Rattle.sk_limit.specs.declared.limit_fault.LimitFault.TheVariants as fault
use Rattle.sk_line.specs.Limit.{IsLimit}
use Rattle.sk_line.specs.declared.limit_line.LimitKind.{LimitKind}
use Rattle.sk_line.specs.declared.limit_line.LimitKind.TheVariants.{Hold, Grant}
use Rattle.sk_line.specs.declared.limit_line.LimitLine.{LimitLine}
use Rattle.sk_link.specs.Call.{Call}
use Rattle.sk_resp.specs.Spelling.{Bytes}
use Rattle.sk_app.specs.Ending.{ended}
use Rattle.sk_app.specs.declared.failure.Failure.{Failure}
use Rattle.sk_app.specs.declared.failure.Failure.TheVariants as failure
use Rattle.sk_app.specs.declared.limit.Asked.{Asked}

-- ## What is told

-- where nothing is free, or the window is used up
abbrev pub over : Bytes
over = ended (codes "over")

abbrev pub held_text : Option HeldSlot → Bytes
held_text (Some held) = ended (codes "held " ++ decimal held.slot)
held_text None = over

abbrev pub granted_text : Bool → Bytes
granted_text true = ended (codes "granted")
granted_text false = over

abbrev pub by_limiter : LimitFault → Failure
by_limiter fault.Name = failure.Line
by_limiter (fault.Link f) = failure.Link f
by_limiter (fault.Refused r) = failure.Refused r
by_limiter fault.Memory = failure.Memory

-- what is told of a limiter's answer, by the text of one that came
abbrev pub told_of : {A : Type 0} → (A → Bytes) → Result A LimitFault → Result Bytes Failure
told_of text (Ok answer) = Ok (text answer)
told_of text (Err f) = Err (by_limiter f)

-- ## What is asked

-- who asks, for a slot of which name, of how many, and for how long
abbrev pub wish_of : Asked → Wish
wish_of q = wish q.line.name q.line.most q.line.millis q.token

-- The limiter was asked for what the line says, and the outcome tells its answer.
abbrev pub LimitsAs : LimitKind → Asked → (List Call → Type 0) → Result Bytes Failure → Type 0
LimitsAs Hold q Carried outcome =
    (answer : Result (Option HeldSlot) LimitFault) × Holds Carried (wish_of q) answer × (outcome ≡ told_of held_text answer)
LimitsAs Grant q Carried outcome =
    (answer : Result Bool LimitFault) × Grants Carried q.line.name q.line.most q.line.millis answer × (outcome ≡ told_of granted_text answer)

abbrev pub Limits : Asked → (List Call → Type 0) → Result Bytes Failure → Type 0
Limits q = LimitsAs q.line.kind q

-- ## The program

-- what a line asks with the id of these two words as its token
abbrev pub asked_by : LimitLine → ℕ → ℕ → Asked
asked_by line first second = record { line = line; token = jid_of_words first second }

-- The words are no line of `limit`; then nothing was done. Or there was no memory. Or the line's limiter was asked, with a token of words that were drawn.
pub data LimitRun (words : List Text) (Untouched : Type 0) (Drawn : ℕ → ℕ → Type 0) (Speaks : Asked → Result Bytes Failure → Type 0) :
    Result Bytes Failure → Type 0 where
  refused : ((line : LimitLine) → IsLimit words line → ⊥) → Untouched → LimitRun words Untouched Drawn Speaks (Err failure.Line)
  starved : LimitRun words Untouched Drawn Speaks (Err failure.Memory)
  spoke : (line : LimitLine) (first second : ℕ) (outcome : Result Bytes Failure) → IsLimit words line → Drawn first second →
      Speaks (asked_by line first second) outcome → LimitRun words Untouched Drawn Speaks outcome
