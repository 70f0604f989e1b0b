-- The program `work`.
use Rattle.std.specs.Prelude.{◌≡◌, ◌⊎◌, ◌++◌, ℕ, List, [], ◌∷◌, Result, Ok, Err, codes}
use Rattle.std.specs.Fmt.{decimal}
use Rattle.clap.specs.Words.{Text}
use Rattle.sk_resp.specs.Spelling.{Bytes, lf}
use Rattle.sk_launcher.specs.declared.counts.Counts.{Counts}
use Rattle.sk_launcher.specs.declared.launch_fault.LaunchFault.{LaunchFault}
use Rattle.sk_launcher.specs.declared.work_settings.WorkSettings.{WorkSettings}
use Rattle.sk_line.specs.Work.{IsWork}
use Rattle.sk_app.specs.Failures.{by_launch}
use Rattle.sk_app.specs.declared.failure.Failure.{Failure}
use Rattle.sk_app.specs.declared.failure.Failure.TheVariants as failure

-- how many turns came to each answer
abbrev pub summary_text : Counts → Bytes
summary_text c = codes "done " ++ (decimal c.done ++ (codes " retried " ++ (decimal c.retried ++ (codes " buried " ++ (decimal c.buried
    ++ (codes " discarded " ++ (decimal c.discarded ++ lf ∷ [])))))))

abbrev pub outcome_of : Result Counts LaunchFault → Result Bytes Failure
outcome_of (Ok c) = Ok (summary_text c)
outcome_of (Err f) = Err (by_launch f)

-- An end comes to its outcome, or there was no memory for the summary.
abbrev pub IsOutcome : Result Counts LaunchFault → Result Bytes Failure → Type 0
IsOutcome how outcome = (outcome ≡ outcome_of how) ⊎ (outcome ≡ Err failure.Memory)

-- The words are no line of `work`; then nothing was done. Or there was no memory to read them. Or a launcher worked by the settings that they ask for, and came to this
-- end.
pub data WorkRun (teams : ℕ) (words : List Text) (Untouched : Type 0) (Launches : WorkSettings → Result Counts LaunchFault → Type 0) :
    Result Bytes Failure → Type 0 where
  refused : ((settings : WorkSettings) → IsWork teams words settings → ⊥) → Untouched → WorkRun teams words Untouched Launches (Err failure.Line)
  starved : WorkRun teams words Untouched Launches (Err failure.Memory)
  worked : (settings : WorkSettings) (how : Result Counts LaunchFault) (outcome : Result Bytes Failure) → IsWork teams words settings →
      Launches settings how → IsOutcome how outcome → WorkRun teams words Untouched Launches outcome
