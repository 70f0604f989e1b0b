-- The command line of `pipe` with a file.
use Rattle.std.specs.Prelude.{List, codes}
use Rattle.clap.specs.Words.{App, Row, Text, new_app, with_rule}
use Rattle.sk_line.specs.Lines.{IsLine}
use Rattle.sk_line.specs.Options.{optional}
use Rattle.sk_line.specs.Values.{Has, IsPath}
use Rattle.sk_line.specs.declared.log_line.LogLine.{LogLine}

abbrev pub log_app : App
log_app = with_rule (new_app (codes "pipe")) (optional (codes "log"))

pub record IsLogValues (rows : List Row) (line : LogLine) : Type 0 where
  pub path : Has IsPath rows (codes "log") line.path

-- The words, which begin with `pipe`, ask for this.
abbrev pub IsLog : List Text → LogLine → Type 0
IsLog = IsLine log_app IsLogValues
