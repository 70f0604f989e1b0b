-- The command line of `drill`.
use Rattle.std.specs.Prelude.{ℕ, List, codes}
use Rattle.clap.specs.Words.{App, Row, Text, new_app, with_rule}
use Rattle.sk_line.specs.Lines.{IsLine}
use Rattle.sk_line.specs.Options.{positional}
use Rattle.sk_line.specs.Values.{Has, IsNumber, IsSeed}
use Rattle.sk_line.specs.declared.drill_line.DrillLine.{DrillLine}
use Rattle.sk_line.specs.declared.drill_line.TheConstants.{MOST_CRASHES, MOST_DRILLED}

abbrev pub drill_app : App
drill_app = with_rule (with_rule (with_rule (with_rule (new_app (codes "drill")) (positional (codes "SEED"))) (positional (codes "JOBS")))
    (positional (codes "WORKERS"))) (positional (codes "CRASHES"))

-- The values, where there are so many teams.
pub record IsDrillValues (teams : ℕ) (rows : List Row) (line : DrillLine) : Type 0 where
  pub seed : Has IsSeed rows (codes "SEED") line.seed
  pub jobs : Has (IsNumber 1 MOST_DRILLED) rows (codes "JOBS") line.jobs
  pub workers : Has (IsNumber 1 teams) rows (codes "WORKERS") line.workers
  pub crashes : Has (IsNumber 0 MOST_CRASHES) rows (codes "CRASHES") line.crashes

-- The words, which begin with `drill`, ask for this, where there are so many teams.
abbrev pub IsDrill : ℕ → List Text → DrillLine → Type 0
IsDrill teams = IsLine drill_app (IsDrillValues teams)
