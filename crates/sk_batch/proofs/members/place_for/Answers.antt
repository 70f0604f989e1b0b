use Rattle.sk_batch.proofs.Order.{partitioned_behind}
use Rattle.sk_batch.proofs.members.place_for.Goals as goal

pub partition_point-requires : goal.partition_point-requires
partition_point-requires c = partitioned_behind c.args.new.now c.args.members.now.list.current c.requires
