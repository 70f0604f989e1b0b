-- The command line of `serve` with a file.
use Rattle.std.specs.Prelude.{◌≡◌, ℕ, List, Option, Some, None, codes}
use Rattle.clap.specs.Words.{App, Row, Text, with_rule}
use Rattle.sk_line.specs.Lines.{IsLine, IsServeValues, serve_app}
use Rattle.sk_line.specs.Options.{optional, with_default}
use Rattle.sk_line.specs.Values.{Has, IsNumber, IsPath}
use Rattle.sk_line.specs.declared.log_serve_line.LogServeLine.{LogServeLine}
use Rattle.sk_line.specs.declared.log_serve_line.TheConstants.{MOST_SYNC_EVERY}
use Rattle.sk_line.specs.declared.serve_line.ServeLine.{ServeLine}

abbrev pub log_serve_app : App
log_serve_app = with_rule (with_rule serve_app (optional (codes "log"))) (with_default (codes "sync") (codes "always"))

-- when what was logged is stored: `always`, before each reply; or every so many milliseconds
abbrev pub IsSync : Text → Option ℕ → Type 0
IsSync text None = text ≡ codes "always"
IsSync text (Some millis) = IsNumber 1 MOST_SYNC_EVERY text millis

-- the line without its file and when that is written
abbrev pub served : LogServeLine → ServeLine
served line = record { port = line.port; loops = line.loops; sessions = line.sessions }

pub record IsLogServeValues (rows : List Row) (line : LogServeLine) : Type 0 where
  pub path : Has IsPath rows (codes "log") line.path
  pub sync : Has IsSync rows (codes "sync") line.sync_every
  pub serve : IsServeValues rows (served line)

-- The words, which begin with `serve`, ask for this.
abbrev pub IsLogServe : List Text → LogServeLine → Type 0
IsLogServe = IsLine log_serve_app IsLogServeValues
