-- The command line of `push`.
use Rattle.std.specs.Prelude.{List, codes}
use Rattle.clap.specs.Words.{App, Row, Text, new_app, with_rule}
use Rattle.sk_line.specs.Lines.{IsAddress, IsLine, addressed}
use Rattle.sk_line.specs.Options.{optional, positional, with_default}
use Rattle.sk_line.specs.Values.{Has, IsArgs, IsRetry, IsScoreText, IsSeconds, IsText, MayHave}
use Rattle.sk_line.specs.declared.push_line.PushLine.{PushLine}

abbrev pub push_app : App
push_app = with_rule (with_rule (with_rule (with_rule (with_rule (with_rule (with_rule (addressed (new_app (codes "push")))
    (with_default (codes "queue") (codes "default"))) (with_default (codes "retry") (codes "true"))) (optional (codes "retry-for")))
    (optional (codes "at"))) (optional (codes "unique"))) (positional (codes "CLASS"))) (positional (codes "ARGS"))

pub record IsPushValues (rows : List Row) (line : PushLine) : Type 0 where
  pub address : IsAddress rows line.address
  pub queue : Has IsText rows (codes "queue") line.queue
  pub retry : Has IsRetry rows (codes "retry") line.retry
  pub retry_for : MayHave IsSeconds rows (codes "retry-for") line.retry_for
  pub at_is : MayHave IsScoreText rows (codes "at") line.at
  pub unique : MayHave IsSeconds rows (codes "unique") line.unique
  pub class : Has IsText rows (codes "CLASS") line.class
  pub args : Has IsArgs rows (codes "ARGS") line.args

-- The words, which begin with `push`, ask for this.
abbrev pub IsPush : List Text → PushLine → Type 0
IsPush = IsLine push_app IsPushValues
