use Rattle.std.proofs.Common.{◌≡◌, ◌-◌, ◌∙◌, List, ap, arith, length, max, take}
use Rattle.sk_places.specs.declared.row.Row.{Row}
use Rattle.sk_store.specs.Stored.{world}
use Rattle.sk_jobs.specs.Routing.{dead_rows}
use Rattle.sk_jobs.proofs.Fronts.{surplus_is}
use Rattle.sk_jobs.proofs.dead.surplus_count.Goals as goal

pub returns-clause-is : goal.returns-clause-is
returns-clause-is c =
    let w = world c.args.store.now in
    let rows : List Row = dead_rows w in
    let number : max c.range_of-old.result.1 (length rows - 10000) ≡ c.max.result = omega (arith, c.max.ensures, c.saturating_sub.ensures, c.len-count.ensures.is) in
    surplus_is w c.oldest.result _ _ rows c.oldest.ensures c.range_of-old.ensures ∙ ap (λ n. take n rows) number
