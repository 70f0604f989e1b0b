-- The command line of `soak`.
use Rattle.std.specs.Prelude.{List, codes}
use Rattle.clap.specs.Words.{App, Row, Text, new_app, with_rule}
use Rattle.sk_line.specs.Lines.{IsLine}
use Rattle.sk_line.specs.Options.{positional}
use Rattle.sk_line.specs.Values.{Has, IsNumber, IsSeed}
use Rattle.sk_line.specs.declared.soak_line.SoakLine.{SoakLine}
use Rattle.sk_line.specs.declared.soak_line.TheConstants.{MOST_SOAKED}

abbrev pub soak_app : App
soak_app = with_rule (with_rule (new_app (codes "soak")) (positional (codes "SEED"))) (positional (codes "JOBS"))

pub record IsSoakValues (rows : List Row) (line : SoakLine) : Type 0 where
  pub seed : Has IsSeed rows (codes "SEED") line.seed
  pub jobs : Has (IsNumber 1 MOST_SOAKED) rows (codes "JOBS") line.jobs

-- The words, which begin with `soak`, ask for this.
abbrev pub IsSoak : List Text → SoakLine → Type 0
IsSoak = IsLine soak_app IsSoakValues
