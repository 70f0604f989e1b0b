use Rattle.sk_places.specs.TextIndex.{is_from}
use Rattle.sk_places.proofs.SetRows.{from_rises, set_position}
use Rattle.sk_places.proofs.row_lists.RowLists.position_from.Goals as goal

pub partition_point-requires : goal.partition_point-requires
partition_point-requires c = from_rises c.args.self.now c.args.set c.requires.lists c.of.result.now.list.current c.of.ensures c.requires.ordered c.args.score c.args.text.now

pub returns : goal.returns
returns c = set_position c.args.self.now c.args.set c.requires.lists c.of.result.now.list.current c.of.ensures (is_from c.args.score c.args.text.now) c.partition_point.result c.partition_point.ensures.is
