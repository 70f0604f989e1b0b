use Rattle.std.proofs.Common.{Some, length, slice_get, subst, sym, ◌≡◌, ◌+◌, ◌<◌}
use Rattle.sk_places.specs.RowLists.{listed, start_of}
use Rattle.sk_places.specs.Rows.{rows_at}
use Rattle.sk_places.proofs.Sound.{row_there}
use Rattle.sk_places.specs.RowsView.{counts_of}
use Rattle.sk_places.proofs.rows.Rows.get.Goals as goal

pub returns-clause-there : goal.returns-clause-there
returns-clause-there c = subst (λ v. slice_get v.list.current (start_of c.args.place.now v.list.current + c.args.at) ≡ Some (listed c.args.place.now (c.get.result.0, c.get.result.1.now))) c.self.view_is (row_there c.self.inside.lists c.self.inside.size c.self.inside.size_then (counts_of c.self.inside.jobs) c.self.inside.text_index.list c.self.invariant c.args.place.now c.args.at (c.get.result.0, c.get.result.1.now) (subst (λ v. c.args.at < length (rows_at c.args.place.now v.list.current)) (sym c.self.view_is) c.requires) c.get.ensures)
