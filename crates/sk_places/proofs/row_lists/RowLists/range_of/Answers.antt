use Rattle.sk_places.proofs.SetRows.{above_rises, reached_rises, set_scores}
use Rattle.sk_places.proofs.row_lists.RowLists.range_of.Goals as goal

pub partition_point-from-requires : goal.partition_point-from-requires
partition_point-from-requires c = reached_rises c.args.self.now c.args.set c.requires.lists c.of-items.result.now.list.current c.of-items.ensures c.requires.ordered c.args.low

pub partition_point-to-requires : goal.partition_point-to-requires
partition_point-to-requires c = above_rises c.args.self.now c.args.set c.requires.lists c.of-items.result.now.list.current c.of-items.ensures c.requires.ordered c.args.high

pub returns : goal.returns
returns c = set_scores c.args.self.now c.args.set c.requires.lists c.of-items.result.now.list.current c.of-items.ensures c.requires.ordered c.args.low c.args.high c.partition_point-from.result c.partition_point-to.result c.max.result c.partition_point-from.ensures.is c.partition_point-to.ensures.is c.max.ensures
