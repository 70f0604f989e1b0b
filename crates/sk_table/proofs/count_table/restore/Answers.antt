use Rattle.std.proofs.Common.{sym, ◌∙◌, ap, subst}
use Rattle.std.specs.Option.{IsSome, is_some}
use Rattle.sk_table.specs.Counts.{counted, with_count}
use Rattle.sk_table.specs.Entries.{at}
use Rattle.sk_table.proofs.Counts.{keeps_same}
use Rattle.sk_table.proofs.count_table.restore.Goals as goal

pub returns-clause-counts : goal.returns-clause-counts
returns-clause-counts g c =
    c.exchange.ensures.counts (ap (λ x. is_some (at x c.args.table.now)) c.bytes.ensures ∙ c.requires) ∙ ap (λ x. with_count x c.args.edit.now.count (counted c.args.table.now)) c.bytes.ensures

pub returns-clause-keeps : goal.returns-clause-keeps
returns-clause-keeps g c = keeps_same c.args.table.now c.exchange.new.table c.exchange.ensures.keys
