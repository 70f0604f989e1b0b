use Rattle.std.proofs.Common.{arith, sym, ap, ◌∙◌}
use Rattle.std.specs.List.{position_or_len}
use Rattle.sk_places.specs.Segments.{is_text}
use Rattle.sk_places.proofs.Holding.{list_there, no_rows, text_is}
use Rattle.sk_places.proofs.row_lists.RowLists.position_of.Goals as goal

pub len-len-requires : goal.len-len-requires
len-len-requires c = list_there c.args.self.now c.args.place.now c.in-Some.list c.requires.lists (sym c.number_of.ensures ∙ c.in-Some.is)

pub position_in-requires-clause-list : goal.position_in-requires-clause-list
position_in-requires-clause-list c = list_there c.args.self.now c.args.place.now c.in-Some.list c.requires.lists (sym c.number_of.ensures ∙ c.in-Some.is)

pub returns-in-Some : goal.returns-in-Some
returns-in-Some c =
    let e = text_is c.args.self.now c.args.place.now c.in-Some.list c.requires.lists c.requires.list (sym c.number_of.ensures ∙ c.in-Some.is) (is_text c.args.text.now) c.len-len.result c.len-len.ensures.is in
    omega (arith, e, c.position_in.ensures.is)

pub returns-in-None : goal.returns-in-None
returns-in-None c = sym (ap (position_or_len (is_text c.args.text.now)) (no_rows c.args.self.now c.args.place.now c.requires.lists c.requires.list (sym c.number_of.ensures ∙ c.in-None.is)))
