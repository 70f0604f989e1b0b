-- The program `serve`.
use Rattle.std.specs.Prelude.{◌≡◌, ◌⊎◌, ◌++◌, List, [], ◌∷◌, Result, Ok, Err, codes}
use Rattle.std.specs.Fmt.{decimal}
use Rattle.clap.specs.Words.{Text}
use Rattle.sk_resp.specs.Spelling.{Bytes, lf}
use Rattle.sk_line.specs.Lines.{IsServe}
use Rattle.sk_line.specs.declared.serve_line.ServeLine.{ServeLine}
use Rattle.sk_serve.specs.declared.serve_end.ServeEnd.{ServeEnd}
use Rattle.sk_serve.specs.declared.serve_end.ServeEnd.TheVariants as end
use Rattle.sk_serve.specs.declared.serve_end.Served.{Served}
use Rattle.sk_status.specs.Tally.{tally_bytes}
use Rattle.sk_app.specs.declared.failure.Failure.{Failure}
use Rattle.sk_app.specs.declared.failure.Failure.TheVariants as failure

-- how many connections were served, and how many rows acknowledged
abbrev pub first_line : Served → Bytes
first_line s = codes "sessions " ++ (decimal s.sessions ++ (codes " acknowledged " ++ (decimal s.acknowledged ++ lf ∷ [])))

-- below it the tally, a line for each number
abbrev pub summary_text : Served → Bytes
summary_text s = first_line s ++ tally_bytes s.tally

abbrev pub outcome_of : ServeEnd → Result Bytes Failure
outcome_of (end.Served s) = Ok (summary_text s)
outcome_of end.Failed = Err failure.Door
outcome_of end.Spent = Err failure.Seats
outcome_of end.Memory = Err failure.Memory

-- An end comes to its outcome, or there was no memory for the summary.
abbrev pub IsOutcome : ServeEnd → Result Bytes Failure → Type 0
IsOutcome e outcome = (outcome ≡ outcome_of e) ⊎ (outcome ≡ Err failure.Memory)

-- A server ran as the line says, and came to the outcome. `Ended` tells what holds of a server by a line that ended so.
pub record Serves (line : ServeLine) (Ended : ServeLine → ServeEnd → Type 0) (outcome : Result Bytes Failure) : Type 0 where
  pub how : ServeEnd
  pub ended : Ended line how
  pub is : IsOutcome how outcome

-- The words are no line of `serve`; then nothing was done. Or there was no memory to read them. Or a server ran.
pub data ServeRun (words : List Text) (Untouched : Type 0) (Ended : ServeLine → ServeEnd → Type 0) : Result Bytes Failure → Type 0 where
  refused : ((line : ServeLine) → IsServe words line → ⊥) → Untouched → ServeRun words Untouched Ended (Err failure.Line)
  starved : ServeRun words Untouched Ended (Err failure.Memory)
  served : (line : ServeLine) (outcome : Result Bytes Failure) → IsServe words line → Serves line Ended outcome → ServeRun words Untouched Ended outcome
