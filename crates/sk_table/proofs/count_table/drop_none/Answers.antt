use Rattle.std.proofs.Common.{sym, ◌∙◌, ap}
use Rattle.sk_table.specs.Counts.{counted}
use Rattle.sk_table.proofs.Counts.{counted_dropped}
use Rattle.sk_table.proofs.count_table.drop_none.Goals as goal

pub returns-then-counts_none : goal.returns-then-counts_none
returns-then-counts_none g c = ap counted c.remove.ensures.rest ∙ counted_dropped (g.K.TextKey.text c.args.key.now) c.args.table.now c.in_order.ensures (c.counts_none.ensures c.if-counts_none.true)
