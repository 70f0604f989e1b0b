-- The command lines of the subcommands.
use Rattle.std.specs.Prelude.{◌≡◌, ◌^◌, ◌-◌, List, [], Result, Ok, Err, codes}
use Rattle.sk_base.specs.declared.limits.TheConstants.{MOST_LOOPS_SERVED}
use Rattle.clap.specs.Words.{App, Row, Text, new_app, with_rule}
use Rattle.sk_launcher.specs.declared.address.Address.{Address}
use Rattle.sk_line.specs.Options.{refusal, rows, with_default}
use Rattle.sk_line.specs.Values.{Has, IsNumber, IsPort, IsText}
use Rattle.sk_line.specs.declared.fault.LineFault.{LineFault}
use Rattle.sk_line.specs.declared.fault.LineFault.TheVariants as fault
use Rattle.sk_line.specs.declared.serve_line.ServeLine.{ServeLine}
use Rattle.sk_line.specs.declared.status_line.StatusLine.{StatusLine}

-- What was read, as this function shows it, is what the fact speaks of; or there is no such thing; or there was no memory.
abbrev pub ReadsAs : {V W : Type 0} → (V → W) → (W → Type 0) → Result V LineFault → Type 0
ReadsAs shown Is (Ok value) = Is (shown value)
ReadsAs {W = W} shown Is (Err fault.Refused) = (value : W) → Is value → ⊥
ReadsAs shown Is (Err fault.Memory) = Unit {0}

abbrev pub Reads : {V : Type 0} → (V → Type 0) → Result V LineFault → Type 0
Reads Is result = ReadsAs (λ value. value) Is result

-- The words, which begin with the subcommand, are taken by its options, and their values are these.
pub record IsLine {V : Type 0} (app : App) (Is : List Row → V → Type 0) (words : List Text) (line : V) : Type 0 where
  pub taken : refusal app words ≡ []
  pub values : Is (rows app words) line

-- where the store is
pub record IsAddress (rows : List Row) (address : Address) : Type 0 where
  pub host : Has IsText rows (codes "host") address.host
  pub port : Has IsPort rows (codes "port") address.port

-- the options that say it
abbrev pub addressed : App → App
addressed app = with_rule (with_rule app (with_default (codes "host") (codes "localhost"))) (with_default (codes "port") (codes "7419"))

-- ## serve

abbrev pub serve_app : App
serve_app = with_rule (with_rule (with_rule (new_app (codes "serve")) (with_default (codes "port") (codes "7419")))
    (with_default (codes "loops") (codes "4"))) (with_default (codes "sessions") (codes "0"))

pub record IsServeValues (rows : List Row) (line : ServeLine) : Type 0 where
  pub port : Has IsPort rows (codes "port") line.port
  pub loops : Has (IsNumber 1 MOST_LOOPS_SERVED) rows (codes "loops") line.loops
  pub sessions : Has (IsNumber 0 (2 ^ 32 - 1)) rows (codes "sessions") line.sessions

abbrev pub IsServe : List Text → ServeLine → Type 0
IsServe = IsLine serve_app IsServeValues

-- ## status

abbrev pub status_app : App
status_app = addressed (new_app (codes "status"))

pub record IsStatusValues (rows : List Row) (line : StatusLine) : Type 0 where
  pub address : IsAddress rows line.address

abbrev pub IsStatus : List Text → StatusLine → Type 0
IsStatus = IsLine status_app IsStatusValues
