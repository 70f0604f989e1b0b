-- The command line of `iterate`.
use Rattle.std.specs.Prelude.{◌^◌, ◌-◌, List, codes}
use Rattle.clap.specs.Words.{App, Row, Text, new_app, with_rule}
use Rattle.sk_base.specs.declared.limits.TheConstants.{LONGEST_ID}
use Rattle.sk_line.specs.Lines.{IsAddress, IsLine, addressed}
use Rattle.sk_line.specs.Options.{positional, with_default}
use Rattle.sk_line.specs.Values.{Has, IsNamed, IsNumber}
use Rattle.sk_line.specs.declared.iterate_line.IterateLine.{IterateLine}
use Rattle.sk_line.specs.declared.iterate_line.TheConstants.{MOST_EVERY, MOST_ITERATED}

abbrev pub iterate_app : App
iterate_app = with_rule (with_rule (with_rule (with_rule (addressed (new_app (codes "iterate"))) (with_default (codes "every") (codes "100")))
    (with_default (codes "most") (codes "4294967295"))) (positional (codes "JID"))) (positional (codes "COUNT"))

pub record IsIterateValues (rows : List Row) (line : IterateLine) : Type 0 where
  pub address : IsAddress rows line.address
  pub every : Has (IsNumber 1 MOST_EVERY) rows (codes "every") line.every
  pub most : Has (IsNumber 0 (2 ^ 32 - 1)) rows (codes "most") line.most
  pub jid : Has (IsNamed LONGEST_ID) rows (codes "JID") line.jid
  pub count : Has (IsNumber 0 MOST_ITERATED) rows (codes "COUNT") line.count

-- The words, which begin with `iterate`, ask for this.
abbrev pub IsIterate : List Text → IterateLine → Type 0
IsIterate = IsLine iterate_app IsIterateValues
