use Rattle.std.proofs.Common.{arith, drop, sym, take, ap, ap₂, ◌∙◌}
use Rattle.std.specs.List.{position_or_len}
use Rattle.sk_deques.specs.DequeMoves.{list_at}
use Rattle.sk_places.specs.Segments.{is_text}
use Rattle.sk_places.specs.Tags.{is_tagged, tag_of}
use Rattle.sk_places.specs.Rows.{rows_at}
use Rattle.sk_places.specs.Entries.{Item}
use Rattle.sk_places.specs.RowLists.{rows_in}
use Rattle.sk_places.proofs.Holding.{list_there, no_rows, text_is}
use Rattle.sk_places.proofs.Tags.{tagged_at}
use Rattle.sk_places.proofs.row_lists.RowLists.position_of_payload.Goals as goal

pub len-len-requires : goal.len-len-requires
len-len-requires c = list_there c.args.self.now c.args.place.now c.in-Some.list c.requires.lists (sym c.number_of.ensures ∙ c.in-Some.is)

pub position_in-requires-clause-list : goal.position_in-requires-clause-list
position_in-requires-clause-list c = list_there c.args.self.now c.args.place.now c.in-Some.list c.requires.lists (sym c.number_of.ensures ∙ c.in-Some.is)

pub returns-in-Some : goal.returns-in-Some
returns-in-Some c =
    let text = c.bytes-text.ensures ∙ c.text.ensures in
    let tagged = ap₂ (λ n t. position_or_len (λ (e : Item). is_tagged n t e.1) (drop 0 (take c.len-len.result (list_at c.in-Some.list c.args.self.now.deques.lists.current)))) c.tag_of-tag.ensures text in
    let e = text_is c.args.self.now c.args.place.now c.in-Some.list c.requires.lists c.requires.list (sym c.number_of.ensures ∙ c.in-Some.is) (λ row. is_tagged (tag_of c.args.payload.now) c.args.payload.now row.text) c.len-len.result c.len-len.ensures.is in
    let same = tagged_at c.args.payload.now (rows_at c.args.place.now (rows_in c.args.self.now).current) in
    omega (arith, tagged, e, same, c.position_in.ensures.is)

pub returns-in-None : goal.returns-in-None
returns-in-None c = sym (ap (position_or_len (is_text c.args.payload.now)) (no_rows c.args.self.now c.args.place.now c.requires.lists c.requires.list (sym c.number_of.ensures ∙ c.in-None.is)))
