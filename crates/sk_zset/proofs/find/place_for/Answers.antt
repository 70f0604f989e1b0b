use Rattle.std.proofs.Common.{◌∙◌}
use Rattle.sk_zset.proofs.Places.{place_new}
use Rattle.sk_zset.proofs.Rising.{partitioned_from}
use Rattle.sk_zset.proofs.find.place_for.Goals as goal

pub partition_point-requires : goal.partition_point-requires
partition_point-requires c = partitioned_from (c.args.score, c.args.member.now) c.args.pairs.now.list.current c.requires.ordered

pub returns-clause-is : goal.returns-clause-is
returns-clause-is c = c.partition_point.ensures.is ∙ place_new (c.args.score, c.args.member.now) c.args.pairs.now.list.current c.requires.new
