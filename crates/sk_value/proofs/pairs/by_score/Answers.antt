use Rattle.std.proofs.Common.{◌≤◌, List, arith, length}
use Rattle.std.proofs.lemmas.Grind.{common_steps}
use Rattle.sk_zset.specs.Bounds.{is_between}
use Rattle.sk_zset.specs.Pair.{Pair}
use Rattle.sk_value.specs.Sorted.{between}
use Rattle.sk_value.proofs.Ranks.{fewer}
use Rattle.sk_value.proofs.pairs.by_score.Goals as goal

pub returns : goal.returns
returns g c =
    let pairs : List Pair = between c.args.least c.args.greatest (g.P.Pairs.pairs c.args.pairs.now) in
    let few : length pairs ≤ c.len.result = grind (arith, fewer (is_between c.args.least c.args.greatest) (g.P.Pairs.pairs c.args.pairs.now)) in
    let given = c.window-skip.ensures pairs few in
    grind (arith, common_steps, given)
