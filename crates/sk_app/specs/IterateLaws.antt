-- That what the words of `iterate` ask may be run.
use Rattle.std.proofs.Common.{◌≡◌, true, List, subst, sym}
use Rattle.clap.specs.Words.{Text}
use Rattle.sk_base.specs.Name.{is_name}
use Rattle.sk_line.specs.Iterate.{IsIterate}
use Rattle.sk_line.specs.declared.iterate_line.IterateLine.{IterateLine}
use Rattle.sk_app.specs.Iterating.{MayRun}

-- what the words of a line ask may be run
pub may_run : (words : List Text) (line : IterateLine) → IsIterate words line → MayRun line
may_run words line is =
    let v = is.values in
    record {
      jid = subst (λ n. is_name 64 n ≡ true) (sym v.jid.2.1) v.jid.2.0;
      some = v.every.2.least_is;
      few = v.every.2.most_is;
      count = v.count.2.most_is;
    }
