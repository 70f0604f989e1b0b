-- Runs of `drill`.
use Rattle.std.proofs.Common.{◌≡◌, ℕ, List, Result, Ok, Err, subst, sym}
use Rattle.std.specs.Result.{IsErrAnd}
use Rattle.clap.specs.Words.{Text}
use Rattle.sk_drill.specs.declared.drill_end.DrillEnd.{DrillEnd}
use Rattle.sk_line.specs.Drill.{IsDrill}
use Rattle.sk_line.specs.Lines.{Reads}
use Rattle.sk_line.specs.declared.drill_line.DrillLine.{DrillLine}
use Rattle.sk_line.specs.declared.fault.LineFault.{LineFault}
use Rattle.sk_line.specs.declared.fault.LineFault.TheVariants as line
use Rattle.sk_resp.specs.Spelling.{Bytes}
use Rattle.sk_app.specs.Drilling.{DrillRun, refused, starved}
use Rattle.sk_app.specs.Failures.{by_line}
use Rattle.sk_app.specs.declared.failure.Failure.{Failure}

pub no_line : (teams : ℕ) (words : List Text) (Untouched : Type 0) (Drills : DrillLine → DrillEnd → Type 0) (count : ℕ) → count ≡ teams →
    (f : LineFault) (r : Result Bytes Failure) → IsErrAnd r (λ e. e ≡ by_line f) → Reads (IsDrill count words) (Err f) → Untouched →
    DrillRun teams words Untouched Drills r
no_line teams words Untouched Drills count same f (Ok output) h none untouched = absurd h
no_line teams words Untouched Drills count same line.Refused (Err e) h none untouched =
    subst (λ x. DrillRun teams words Untouched Drills (Err x)) (sym h) (refused (λ l is. none l (subst (λ n. IsDrill n words l) (sym same) is)) untouched)
no_line teams words Untouched Drills count same line.Memory (Err e) h none untouched = subst (λ x. DrillRun teams words Untouched Drills (Err x)) (sym h) starved
