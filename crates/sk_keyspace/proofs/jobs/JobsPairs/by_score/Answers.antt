use Rattle.std.proofs.Common.{◌≡◌, ◌∙◌, List, ap, drop, map, subst, sym, take}
use Rattle.std.specs.Prelude.{IfOk}
use Rattle.sk_zset.specs.Bounds.{is_between}
use Rattle.sk_places.specs.declared.row.Place.TheVariants.{Set}
use Rattle.sk_places.specs.declared.row.Row.{Row}
use Rattle.sk_places.specs.Rows.{pair_of, rows_at}
use Rattle.sk_keyspace.proofs.Scores.{pairs_between}
use Rattle.sk_keyspace.proofs.jobs.JobsPairs.by_score.Goals as goal

pub returns : goal.returns
returns c =
    let rows : List Row = rows_at (Set c.args.self.now.set) c.args.self.now.places.now.current.rows in
    subst (λ list. IfOk c.part.result (λ copies. copies.items ≡ take c.args.count (drop c.args.skip list))) (ap (map pair_of) (sym c.range_of-first.ensures.inside) ∙ pairs_between (is_between c.args.low c.args.high) rows) c.part.ensures
