use Rattle.std.proofs.Common.{arith}
use Rattle.sk_places.specs.RowLists.{rows_in}
use Rattle.sk_places.specs.Rows.{is_at}
use Rattle.sk_places.proofs.Sound.{fewer}
use Rattle.sk_places.proofs.rows.Rows.len_at.Goals as goal

pub returns-clause-small : goal.returns-clause-small
returns-clause-small c = let f = fewer (is_at c.args.place.now) (rows_in c.self.inside.lists).current in omega (arith, f, c.self.invariant.count, c.self.invariant.few, c.len.ensures)
