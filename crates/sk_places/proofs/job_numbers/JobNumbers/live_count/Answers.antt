use Rattle.std.proofs.Common.{arith}
use Rattle.sk_places.proofs.JobParts.{live_few}
use Rattle.sk_places.proofs.job_numbers.JobNumbers.live_count.Goals as goal

pub returns-clause-small : goal.returns-clause-small
returns-clause-small c =
    let fewer = live_few c.self.inside.numbers.list.current in
    omega (arith, fewer, c.self.invariant.current, c.len.ensures.is, c.len.ensures.small)
