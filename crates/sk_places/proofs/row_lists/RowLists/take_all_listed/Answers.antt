use Rattle.std.proofs.Common.{ap, map, refl, sym, ◌∙◌}
use Rattle.sk_undo.specs.Versions.{edited}
use Rattle.sk_places.specs.Ends.{texts_of}
use Rattle.sk_places.specs.RowLists.{listed, rows_in}
use Rattle.sk_places.proofs.Entries.{map_map}
use Rattle.sk_places.specs.Rows.{is_at}
use Rattle.sk_places.proofs.GoneRows.{all_stay}
use Rattle.sk_places.proofs.Holding.{emptied_is, list_there, no_rows, own_rows}
use Rattle.sk_places.proofs.row_lists.RowLists.take_all_listed.Goals as goal

pub take_all-requires-clause-list : goal.take_all-requires-clause-list
take_all-requires-clause-list c = list_there c.args.self.now c.args.place.now c.in-Some.list c.requires.lists (sym c.number_of.ensures ∙ c.in-Some.is)

pub returns-in-Some-clause-lists : goal.returns-in-Some-clause-lists
returns-in-Some-clause-lists c = (emptied_is c.args.self.now c.args.place.now c.in-Some.list c.requires.lists c.requires.list (sym c.number_of.ensures ∙ c.in-Some.is) (record { names = c.args.self.now.names; spare = c.args.self.now.spare; deques = c.take_all.new.self; sets = c.args.self.now.sets }) refl refl refl c.take_all.ensures.rest).0

pub returns-in-Some-clause-own : goal.returns-in-Some-clause-own
returns-in-Some-clause-own c = ap texts_of (own_rows c.args.self.now c.args.place.now c.in-Some.list c.requires.lists c.requires.list (sym c.number_of.ensures ∙ c.in-Some.is)) ∙ map_map (listed c.args.place.now) (λ row. row.text) _ ∙ ap (map (λ e. e.1)) (sym c.take_all.ensures.items)

pub returns-in-Some-clause-rows : goal.returns-in-Some-clause-rows
returns-in-Some-clause-rows c = (emptied_is c.args.self.now c.args.place.now c.in-Some.list c.requires.lists c.requires.list (sym c.number_of.ensures ∙ c.in-Some.is) (record { names = c.args.self.now.names; spare = c.args.self.now.spare; deques = c.take_all.new.self; sets = c.args.self.now.sets }) refl refl refl c.take_all.ensures.rest).1

pub returns-in-None-clause-own : goal.returns-in-None-clause-own
returns-in-None-clause-own c = ap texts_of (no_rows c.args.self.now c.args.place.now c.requires.lists c.requires.list (sym c.number_of.ensures ∙ c.in-None.is))

pub returns-in-None-clause-rows : goal.returns-in-None-clause-rows
returns-in-None-clause-rows c = ap (λ rows. edited rows (rows_in c.args.self.now)) (sym (all_stay (is_at c.args.place.now) (rows_in c.args.self.now).current (no_rows c.args.self.now c.args.place.now c.requires.lists c.requires.list (sym c.number_of.ensures ∙ c.in-None.is))))
