-- Runs of `work`.
use Rattle.std.proofs.Common.{◌≡◌, ◌&&◌, ap₂, ℕ, List, [], ◌∷◌, Result, Ok, Err, true, subst, sym, refl}
use Rattle.std.specs.List.{AllZip, list_all}
use Rattle.std.specs.Result.{IsErrAnd}
use Rattle.clap.specs.Words.{Text}
use Rattle.sk_resp.specs.Spelling.{Bytes}
use Rattle.sk_launcher.specs.declared.counts.Counts.{Counts}
use Rattle.sk_launcher.specs.declared.launch_fault.LaunchFault.{LaunchFault}
use Rattle.sk_launcher.specs.declared.work_settings.WorkSettings.{WorkSettings}
use Rattle.sk_line.specs.Lines.{Reads}
use Rattle.sk_line.specs.Work.{IsLoop, IsWork}
use Rattle.sk_line.specs.declared.fault.LineFault.{LineFault}
use Rattle.sk_line.specs.declared.fault.LineFault.TheVariants as line
use Rattle.sk_poller.specs.Loop.{is_loop}
use Rattle.sk_poller.specs.declared.poller.Loop.{Loop}
use Rattle.sk_app.specs.Failures.{by_line}
use Rattle.sk_app.specs.Working.{WorkRun, refused, starved}
use Rattle.sk_app.specs.declared.failure.Failure.{Failure}

pub no_line : (teams : ℕ) (words : List Text) (Untouched : Type 0) (Launches : WorkSettings → Result Counts LaunchFault → Type 0) (count : ℕ) → count ≡ teams →
    (f : LineFault) (r : Result Bytes Failure) → IsErrAnd r (λ e. e ≡ by_line f) → Reads (IsWork count words) (Err f) → Untouched →
    WorkRun teams words Untouched Launches r
no_line teams words Untouched Launches count same f (Ok output) h none untouched = absurd h
no_line teams words Untouched Launches count same line.Refused (Err e) h none untouched =
    subst (λ x. WorkRun teams words Untouched Launches (Err x)) (sym h) (refused (λ l is. none l (subst (λ n. IsWork n words l) (sym same) is)) untouched)
no_line teams words Untouched Launches count same line.Memory (Err e) h none untouched = subst (λ x. WorkRun teams words Untouched Launches (Err x)) (sym h) starved

-- the periodic jobs of a line keep the rules of names
pub named : (texts : List Text) (loops : List Loop) → AllZip IsLoop texts loops → list_all is_loop loops ≡ true
named [] [] h = refl
named [] (l ∷ loops) h = absurd h
named (text ∷ texts) [] h = absurd h
named (text ∷ texts) (l ∷ loops) h = ap₂ (λ a b. a && b) h.0.1.names (named texts loops h.1)
