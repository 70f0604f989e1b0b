use Rattle.sk_zset.proofs.Ranges.{HasRange, has_range}
use Rattle.sk_zset.proofs.bounds.range_of.Goals as goal

range : (c : goal.After-max) → HasRange c.args.low c.args.high c.begin_of-first.result c.max.result c.args.pairs.now.list.current
range c = has_range c.args.low c.args.high c.args.pairs.now.list.current c.begin_of-first.result c.end_of.result c.max.result c.requires c.begin_of-first.ensures.is c.end_of.ensures.is c.max.ensures

pub returns-clause-is : goal.returns-clause-is
returns-clause-is c = (range c).inside

pub returns-clause-others : goal.returns-clause-others
returns-clause-others c = (range c).others

pub returns-clause-count : goal.returns-clause-count
returns-clause-count c = (range c).count
