-- Runs of programs that ask a store one thing.
use Rattle.std.proofs.Common.{◌≡◌, Result, Ok, Err, subst, sym}
use Rattle.std.specs.Result.{IsErrAnd}
use Rattle.sk_resp.specs.Spelling.{Bytes}
use Rattle.sk_line.specs.Lines.{Reads}
use Rattle.sk_line.specs.declared.fault.LineFault.{LineFault}
use Rattle.sk_line.specs.declared.fault.LineFault.TheVariants as line
use Rattle.sk_app.specs.Failures.{by_line}
use Rattle.sk_app.specs.Questions.{QuestionRun, refused, starved}
use Rattle.sk_app.specs.declared.failure.Failure.{Failure}

pub no_line : {Line : Type 0} (IsLine : Line → Type 0) (Untouched : Type 0) (Speaks : Line → Result Bytes Failure → Type 0) (f : LineFault) (r : Result Bytes Failure)
    → IsErrAnd r (λ e. e ≡ by_line f) → Reads IsLine (Err f) → Untouched → QuestionRun IsLine Untouched Speaks r
no_line IsLine Untouched Speaks f (Ok output) h none untouched = absurd h
no_line IsLine Untouched Speaks line.Refused (Err e) h none untouched = subst (λ x. QuestionRun IsLine Untouched Speaks (Err x)) (sym h) (refused none untouched)
no_line IsLine Untouched Speaks line.Memory (Err e) h none untouched = subst (λ x. QuestionRun IsLine Untouched Speaks (Err x)) (sym h) starved
