use Rattle.std.proofs.Common.{ap, arith, refl, sym, ◌∙◌}
use Rattle.sk_deques.specs.DequeMoves.{list_at, with_item}
use Rattle.sk_undo.specs.Versions.{edited}
use Rattle.sk_places.proofs.Holding.{list_there, place_within, put_is, space_for}
use Rattle.sk_places.proofs.row_lists.RowLists.put_listed.Goals as goal

pub place_in-at-requires : goal.place_in-at-requires
place_in-at-requires c = list_there c.args.self.now c.args.place.now c.in-Some.list c.requires.lists (sym c.number_of.ensures ∙ c.in-Some.is)

pub insert-requires-clause-list : goal.insert-requires-clause-list
insert-requires-clause-list c = list_there c.args.self.now c.args.place.now c.in-Some.list c.requires.lists (sym c.number_of.ensures ∙ c.in-Some.is)

pub insert-requires-clause-within : goal.insert-requires-clause-within
insert-requires-clause-within c = let w = place_within c.args.end (list_at c.in-Some.list c.args.self.now.deques.lists.current) in omega (arith, w, c.place_in-at.ensures)

pub insert-requires-clause-space : goal.insert-requires-clause-space
insert-requires-clause-space c = let s = space_for 1 c.args.place.now c.args.self.now c.in-Some.list (c.requires.ready.space c.requires.list) (sym c.number_of.ensures ∙ c.in-Some.is) in omega (arith, s)

pub insert-requires-clause-room : goal.insert-requires-clause-room
insert-requires-clause-room c = omega (arith, c.requires.ready.edits)

pub returns-clause-lists : goal.returns-clause-lists
returns-clause-lists c = (put_is c.args.self.now c.args.place.now c.in-Some.list c.requires.lists c.requires.list (sym c.number_of.ensures ∙ c.in-Some.is) (record { names = c.args.self.now.names; spare = c.args.self.now.spare; deques = c.insert.new.self; sets = c.args.self.now.sets }) c.args.end c.place_in-at.result (c.args.score, c.args.payload) refl refl refl c.place_in-at.ensures (c.insert.ensures.lists ∙ ap (λ text. edited (with_item c.in-Some.list c.place_in-at.result (c.args.score, text) c.args.self.now.deques.lists.current) c.args.self.now.deques.lists) c.of.ensures)).0

pub returns-clause-rows : goal.returns-clause-rows
returns-clause-rows c = (put_is c.args.self.now c.args.place.now c.in-Some.list c.requires.lists c.requires.list (sym c.number_of.ensures ∙ c.in-Some.is) (record { names = c.args.self.now.names; spare = c.args.self.now.spare; deques = c.insert.new.self; sets = c.args.self.now.sets }) c.args.end c.place_in-at.result (c.args.score, c.args.payload) refl refl refl c.place_in-at.ensures (c.insert.ensures.lists ∙ ap (λ text. edited (with_item c.in-Some.list c.place_in-at.result (c.args.score, text) c.args.self.now.deques.lists.current) c.args.self.now.deques.lists) c.of.ensures)).1
