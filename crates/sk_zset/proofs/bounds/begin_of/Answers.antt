use Rattle.sk_zset.proofs.Rising.{partitioned_below}
use Rattle.sk_zset.proofs.bounds.begin_of.Goals as goal

pub partition_point-requires : goal.partition_point-requires
partition_point-requires c = partitioned_below c.args.low c.args.pairs.now.list.current c.requires
