use Rattle.sk_places.specs.Entries.{as_rows}
use Rattle.sk_places.specs.RowLists.{rows_in_lists}
use Rattle.sk_places.proofs.SetRows.{ordered_behind}
use Rattle.sk_places.proofs.rows.Rows.count_below.Goals as goal

pub count_below-requires-clause-ordered : goal.count_below-requires-clause-ordered
count_below-requires-clause-ordered c = ordered_behind (rows_in_lists c.self.inside.lists.names.list.current c.self.inside.lists.deques.lists.current) (as_rows c.self.inside.lists.sets.list.current) c.self.invariant.sound.kept.ordered
