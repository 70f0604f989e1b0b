use Rattle.std.proofs.Common.{◌+◌, ap, arith, false, option_map, sym, true, ◌∙◌}
use Rattle.std.specs.List.{count_by}
use Rattle.sk_places.specs.RowLists.{private_from}
use Rattle.sk_places.specs.Rows.{is_private}
use Rattle.sk_places.proofs.NamedRows.{count_here, from_past, number_below}
use Rattle.sk_places.proofs.row_lists.RowLists.private_at.Goals as goal

pub len-requires : goal.len-requires
len-requires c = number_below c.args.self.now c.args.at (c.in-Some.place.now, c.in-Some.list.now) c.requires (sym c.at.ensures ∙ ap (option_map (λ entry. (entry.0.now, entry.1.now))) c.in-Some.is)

pub returns-then-is_private : goal.returns-then-is_private
returns-then-is_private c = ap (λ n. n + private_from (c.args.at + 1) c.args.self.now) c.len.ensures.is ∙ count_here true c.args.self.now.names.list.current c.args.self.now.deques.lists.current c.args.at (c.in-Some.place.now, c.in-Some.list.now) (sym c.at.ensures ∙ ap (option_map (λ entry. (entry.0.now, entry.1.now))) c.in-Some.is) (sym c.is_private.ensures ∙ c.if-is_private.true)

pub returns-else-is_private : goal.returns-else-is_private
returns-else-is_private c = count_here false c.args.self.now.names.list.current c.args.self.now.deques.lists.current c.args.at (c.in-Some.place.now, c.in-Some.list.now) (sym c.at.ensures ∙ ap (option_map (λ entry. (entry.0.now, entry.1.now))) c.in-Some.is) (sym c.is_private.ensures ∙ c.if-is_private.false)

pub returns-in-None : goal.returns-in-None
returns-in-None c = let past = ap (count_by is_private) (from_past c.args.self.now.names.list.current c.args.self.now.deques.lists.current c.args.at (sym c.at.ensures ∙ ap (option_map (λ entry. (entry.0.now, entry.1.now))) c.in-None.is)) in omega (arith, past)
