use Rattle.std.proofs.Common.{ap, drop, map, take, ◌++◌, ◌∙◌}
use Rattle.sk_places.proofs.SetRows.{set_pairs}
use Rattle.sk_places.proofs.row_lists.RowLists.pairs.Goals as goal

pub returns : goal.returns
returns c =
    c.in_ok-walk.ensures ∙ ap (λ l. l ++ map (λ e. e) (drop c.args.start (take c.args.end c.of.result.now.list.current))) c.new.ensures.items
    ∙ set_pairs c.args.self.now c.args.set c.requires c.of.result.now.list.current c.of.ensures c.args.start c.args.end
