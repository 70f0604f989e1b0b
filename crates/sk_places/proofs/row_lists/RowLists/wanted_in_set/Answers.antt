use Rattle.sk_places.specs.RowFilter.{selects}
use Rattle.sk_places.specs.declared.row.Place.TheVariants.{Set}
use Rattle.sk_places.proofs.SetRows.{set_end, set_range}
use Rattle.sk_places.proofs.row_lists.RowLists.wanted_in_set.Goals as goal

pub position_in-requires-clause-within : goal.position_in-requires-clause-within
position_in-requires-clause-within c = set_end c.args.self.now c.args.set c.requires.lists c.of.result.now.list.current c.of.ensures c.args.end c.requires.within

pub returns-clause-is : goal.returns-clause-is
returns-clause-is c = set_range c.args.self.now c.args.set c.requires.lists c.of.result.now.list.current c.of.ensures (selects (Set c.args.set) c.args.wanted.now) c.args.first c.args.end c.position_in.result c.position_in.ensures.is
