use Rattle.std.proofs.Common.{◌≡◌, length, rules}
use Rattle.sk_drill.specs.Crews.{Worked}
use Rattle.sk_drill.proofs.Assigning.{all_by_place, between}
use Rattle.sk_drill.proofs.threads.run_workers.Goals as goal

pub returns : goal.returns
returns g c =
    let same : length c.args.workers.now ≡ length c.for_each_mut.new.s = search rules in
    all_by_place (Worked g.S.Seats (λ v. (goal.Job-dyn g v).runs v.1)) c.args.workers.now c.for_each_mut.new.s same
    (λ i d less.
    let one = (c.for_each_mut.ensures i d less).1 in
    between (Worked g.S.Seats (λ v. (goal.Job-dyn g v).runs v.1)) _ _ _ _ one.argument_is one.left one.call)
