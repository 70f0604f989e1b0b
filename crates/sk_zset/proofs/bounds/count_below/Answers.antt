use Rattle.std.proofs.Common.{sym, ◌∙◌}
use Rattle.sk_zset.proofs.Ranges.{count_below}
use Rattle.sk_zset.proofs.bounds.count_below.Goals as goal

pub returns : goal.returns
returns c = c.begin_of.ensures.is ∙ sym (count_below c.args.low c.args.pairs.now.list.current c.requires)
