use Rattle.std.proofs.Common.{ap, drop, map, sym, take, ◌++◌, ◌∙◌}
use Rattle.sk_deques.specs.DequeMoves.{list_at}
use Rattle.sk_places.proofs.Holding.{list_there, no_rows, texts_are}
use Rattle.sk_places.proofs.Ranges.{none}
use Rattle.sk_places.proofs.row_lists.RowLists.texts_listed.Goals as goal

pub walk-requires : goal.walk-requires
walk-requires c = list_there c.args.self.now c.args.place.now c.in-Some.list c.requires.lists (sym c.number_of.ensures ∙ c.in-Some.is)

pub returns-in-None : goal.returns-in-None
returns-in-None c = c.new.ensures.items ∙ sym (ap (map (λ row. row.text)) (ap (λ rows. drop c.args.start (take c.args.end rows)) (no_rows c.args.self.now c.args.place.now c.requires.lists c.requires.list (sym c.number_of.ensures ∙ c.in-None.is)) ∙ none c.args.start c.args.end))

pub returns-in_ok-walk-in-Some : goal.returns-in_ok-walk-in-Some
returns-in_ok-walk-in-Some c = c.in_ok-walk-in-Some.ensures ∙ ap (λ l. l ++ map (λ e. e.1) (drop c.args.start (take c.args.end (list_at c.in-Some.list c.args.self.now.deques.lists.current)))) c.new.ensures.items ∙ texts_are c.args.self.now c.args.place.now c.in-Some.list c.requires.lists c.requires.list (sym c.number_of.ensures ∙ c.in-Some.is) c.args.start c.args.end
