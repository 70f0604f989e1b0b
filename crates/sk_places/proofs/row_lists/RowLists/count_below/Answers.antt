use Rattle.sk_places.proofs.SetRows.{reached_rises, set_below}
use Rattle.sk_places.proofs.row_lists.RowLists.count_below.Goals as goal

pub partition_point-requires : goal.partition_point-requires
partition_point-requires c = reached_rises c.args.self.now c.args.set c.requires.lists c.of.result.now.list.current c.of.ensures c.requires.ordered c.args.low

pub returns : goal.returns
returns c = set_below c.args.self.now c.args.set c.requires.lists c.of.result.now.list.current c.of.ensures c.requires.ordered c.args.low c.partition_point.result c.partition_point.ensures.is
