use Rattle.std.specs.List.{position_or_len}
use Rattle.sk_places.proofs.Holding.{no_rows}
use Rattle.sk_places.proofs.Ranges.{none}
use Rattle.std.proofs.Common.{arith, drop, length, sym, ap, take, ◌∙◌}
use Rattle.sk_places.specs.RowFilter.{selects}
use Rattle.sk_places.proofs.Holding.{len_is, list_there, position_is}
use Rattle.sk_places.proofs.row_lists.RowLists.wanted_listed.Goals as goal

pub position_in-requires-clause-list : goal.position_in-requires-clause-list
position_in-requires-clause-list c = list_there c.args.self.now c.args.place.now c.in-Some.list c.requires.lists (sym c.number_of.ensures ∙ c.in-Some.is)

pub position_in-requires-clause-within : goal.position_in-requires-clause-within
position_in-requires-clause-within c = let e = len_is c.args.self.now c.args.place.now c.in-Some.list c.requires.lists c.requires.list (sym c.number_of.ensures ∙ c.in-Some.is) in omega (arith, e, c.requires.within)

pub returns-in-Some-clause-is : goal.returns-in-Some-clause-is
returns-in-Some-clause-is c =
    let e = position_is c.args.self.now c.args.place.now c.in-Some.list c.requires.lists c.requires.list (sym c.number_of.ensures ∙ c.in-Some.is) (selects c.args.place.now c.args.wanted.now) c.args.first c.args.end in
    omega (arith, e, c.position_in.ensures.is)

pub returns-in-None-clause-is : goal.returns-in-None-clause-is
returns-in-None-clause-is c =
    let gone = no_rows c.args.self.now c.args.place.now c.requires.lists c.requires.list (sym c.number_of.ensures ∙ c.in-None.is) in
    let len = ap length gone in
    let inside = ap (λ rows. position_or_len (selects c.args.place.now c.args.wanted.now) (drop c.args.first (take c.args.end rows))) gone ∙ ap (position_or_len (selects c.args.place.now c.args.wanted.now)) (none c.args.first c.args.end) in
    omega (arith, inside, len, c.requires.order, c.requires.within)
