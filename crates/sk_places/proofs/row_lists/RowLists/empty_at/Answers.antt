use Rattle.std.proofs.Common.{ap, option_map, sym, ◌∙◌}
use Rattle.sk_places.proofs.NamedRows.{number_below}
use Rattle.sk_places.proofs.row_lists.RowLists.empty_at.Goals as goal

pub len-requires : goal.len-requires
len-requires c = number_below c.args.self.now c.args.at (c.in-Some.place.now, c.in-Some.list.now) c.requires (sym c.at.ensures ∙ ap (option_map (λ entry. (entry.0.now, entry.1.now))) c.in-Some.is)
