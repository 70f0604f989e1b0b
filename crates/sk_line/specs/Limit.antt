-- The command line of `limit`.
use Rattle.std.specs.Prelude.{◌≡◌, List, codes}
use Rattle.clap.specs.Words.{App, Row, Text, new_app, with_rule}
use Rattle.sk_line.specs.Lines.{IsAddress, IsLine, addressed}
use Rattle.sk_line.specs.Options.{positional}
use Rattle.sk_line.specs.Values.{Has, IsNamed, IsNumber}
use Rattle.sk_line.specs.declared.limit_line.LimitKind.{LimitKind}
use Rattle.sk_line.specs.declared.limit_line.LimitKind.TheVariants.{Hold, Grant}
use Rattle.sk_line.specs.declared.limit_line.LimitLine.{LimitLine}
use Rattle.sk_line.specs.declared.limit_line.TheConstants.{LONGEST_LIMITER, MOST_LIMITED, MOST_LIMITED_MILLIS}

abbrev pub limit_app : App
limit_app = with_rule (with_rule (with_rule (with_rule (addressed (new_app (codes "limit"))) (positional (codes "KIND")))
    (positional (codes "NAME"))) (positional (codes "MOST"))) (positional (codes "MILLIS"))

-- what a limiter is asked for
abbrev pub IsKind : Text → LimitKind → Type 0
IsKind text Hold = text ≡ codes "hold"
IsKind text Grant = text ≡ codes "grant"

pub record IsLimitValues (rows : List Row) (line : LimitLine) : Type 0 where
  pub address : IsAddress rows line.address
  pub kind : Has IsKind rows (codes "KIND") line.kind
  pub name : Has (IsNamed LONGEST_LIMITER) rows (codes "NAME") line.name
  pub most : Has (IsNumber 1 MOST_LIMITED) rows (codes "MOST") line.most
  pub millis : Has (IsNumber 1 MOST_LIMITED_MILLIS) rows (codes "MILLIS") line.millis

-- The words, which begin with `limit`, ask for this.
abbrev pub IsLimit : List Text → LimitLine → Type 0
IsLimit = IsLine limit_app IsLimitValues
