-- A program that asks a store one thing.
use Rattle.std.specs.Prelude.{Result, Err}
use Rattle.sk_resp.specs.Spelling.{Bytes}
use Rattle.sk_app.specs.declared.failure.Failure.{Failure}
use Rattle.sk_app.specs.declared.failure.Failure.TheVariants as failure

-- The words are no line of the program; then nothing was done. Or there was no memory. Or what a line asks was asked.
pub data QuestionRun {Line : Type 0} (IsLine : Line → Type 0) (Untouched : Type 0) (Speaks : Line → Result Bytes Failure → Type 0) : Result Bytes Failure → Type 0 where
  refused : ((line : Line) → IsLine line → ⊥) → Untouched → QuestionRun IsLine Untouched Speaks (Err failure.Line)
  starved : QuestionRun IsLine Untouched Speaks (Err failure.Memory)
  spoke : (line : Line) (outcome : Result Bytes Failure) → IsLine line → Speaks line outcome → QuestionRun IsLine Untouched Speaks outcome
