use Rattle.sk_zset.proofs.Rising.{partitioned_above}
use Rattle.sk_zset.proofs.bounds.end_of.Goals as goal

pub partition_point-requires : goal.partition_point-requires
partition_point-requires c = partitioned_above c.args.high c.args.pairs.now.list.current c.requires
