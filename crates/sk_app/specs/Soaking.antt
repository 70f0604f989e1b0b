-- The program `soak`.
use Rattle.std.specs.Prelude.{List, Result, Ok, Err}
use Rattle.clap.specs.Words.{Text}
use Rattle.sk_resp.specs.Spelling.{Bytes}
use Rattle.sk_drill.specs.Soaked.{IsSummaryOf}
use Rattle.sk_drill.specs.SoakText.{soak_text}
use Rattle.sk_drill.specs.declared.summary.Summary.{Summary}
use Rattle.sk_line.specs.Soak as line
use Rattle.sk_line.specs.declared.soak_line.SoakLine.{SoakLine}
use Rattle.sk_app.specs.declared.failure.Failure.{Failure}
use Rattle.sk_app.specs.declared.failure.Failure.TheVariants as failure

-- There was no memory, or the output is the summary of the run that the line asks for.
pub data Soaks (line : SoakLine) : Result Bytes Failure → Type 0 where
  starved : Soaks line (Err failure.Memory)
  soaked : (summary : Summary) → IsSummaryOf line.seed line.jobs summary → Soaks line (Ok (soak_text line.seed line.jobs summary))

-- The words are no line of `soak`. Or there was no memory to read them. Or a run was made.
pub data SoakRun (words : List Text) : Result Bytes Failure → Type 0 where
  refused : ((asked : SoakLine) → line.IsSoak words asked → ⊥) → SoakRun words (Err failure.Line)
  unread : SoakRun words (Err failure.Memory)
  ran : (asked : SoakLine) (outcome : Result Bytes Failure) → line.IsSoak words asked → Soaks asked outcome → SoakRun words outcome
