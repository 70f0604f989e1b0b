use Rattle.std.proofs.Common.{arith, refl, sym, ◌∙◌}
use Rattle.sk_places.proofs.Holding.{list_there, some_found, space_for, within_listed}
use Rattle.sk_places.proofs.Shifts.{may_move, shifted_is}
use Rattle.sk_places.proofs.row_lists.RowLists.shift.Goals as goal

pub place_behind-there-requires-clause-list : goal.place_behind-there-requires-clause-list
place_behind-there-requires-clause-list c = list_there c.args.self.now c.args.from.now c.in-Some.list c.requires.lists (sym c.number_of.ensures ∙ c.in-Some.is)

pub place_behind-there-requires-clause-onto : goal.place_behind-there-requires-clause-onto
place_behind-there-requires-clause-onto c = list_there c.args.self.now c.args.row_key.now.place c.in-Some-number_of.onto c.requires.lists (sym c.number_of-in-Some.ensures ∙ c.in-Some-number_of.is)

pub place_behind-there-requires-clause-within : goal.place_behind-there-requires-clause-within
place_behind-there-requires-clause-within c = within_listed c.args.self.now c.args.from.now c.in-Some.list c.args.at c.requires.lists c.requires.from (sym c.number_of.ensures ∙ c.in-Some.is) c.requires.within

pub unreachable-requires-in-None : goal.unreachable-requires-in-None
unreachable-requires-in-None c = some_found c.args.self.now c.args.from.now c.args.at c.requires.lists c.requires.from c.requires.within (sym c.number_of.ensures ∙ c.in-None.is)

pub shift-requires-clause-fits : goal.shift-requires-clause-fits
shift-requires-clause-fits c =
    let s = space_for 2 c.args.row_key.now.place c.args.self.now c.in-Some-number_of.onto (c.requires.ready.space c.requires.to) (sym c.number_of-in-Some.ensures ∙ c.in-Some-number_of.is) in
    may_move c.args.end c.args.self.now.deques.lists.current c.args.self.now.deques.spaces c.in-Some.list c.in-Some-number_of.onto c.args.at c.place_behind-there.result (list_there c.args.self.now c.args.from.now c.in-Some.list c.requires.lists (sym c.number_of.ensures ∙ c.in-Some.is)) (list_there c.args.self.now c.args.row_key.now.place c.in-Some-number_of.onto c.requires.lists (sym c.number_of-in-Some.ensures ∙ c.in-Some-number_of.is)) (within_listed c.args.self.now c.args.from.now c.in-Some.list c.args.at c.requires.lists c.requires.from (sym c.number_of.ensures ∙ c.in-Some.is) c.requires.within) c.place_behind-there.ensures (omega (arith, s))

pub returns-clause-lists : goal.returns-clause-lists
returns-clause-lists c = (shifted_is c.args.self.now (record { names = c.args.self.now.names; spare = c.args.self.now.spare; deques = c.shift.new.self; sets = c.args.self.now.sets }) c.args.from.now c.args.row_key.now c.args.end c.in-Some.list c.in-Some-number_of.onto c.args.at c.place_behind-there.result c.requires.lists c.requires.ordered c.requires.from c.requires.to (sym c.number_of.ensures ∙ c.in-Some.is) (sym c.number_of-in-Some.ensures ∙ c.in-Some-number_of.is) c.requires.within c.place_behind-there.ensures refl refl refl c.shift.ensures.lists).0

pub returns-clause-rows : goal.returns-clause-rows
returns-clause-rows c = (shifted_is c.args.self.now (record { names = c.args.self.now.names; spare = c.args.self.now.spare; deques = c.shift.new.self; sets = c.args.self.now.sets }) c.args.from.now c.args.row_key.now c.args.end c.in-Some.list c.in-Some-number_of.onto c.args.at c.place_behind-there.result c.requires.lists c.requires.ordered c.requires.from c.requires.to (sym c.number_of.ensures ∙ c.in-Some.is) (sym c.number_of-in-Some.ensures ∙ c.in-Some-number_of.is) c.requires.within c.place_behind-there.ensures refl refl refl c.shift.ensures.lists).1
