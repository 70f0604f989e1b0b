use Rattle.std.proofs.Common.{rules, length, ◌≡◌}
use Rattle.sk_worker.specs.Promises.{Answers}
use Rattle.sk_launcher.specs.Working.{WorkerAdvances, hired_worker}
use Rattle.sk_launcher.proofs.Zips.{between, seen_by_place}
use Rattle.sk_launcher.proofs.manager.run_workers.Goals as goal

pub returns : goal.returns
returns g c =
    let same : length c.args.workers.now ≡ length c.for_each_mut.new.s = search rules in
    seen_by_place (WorkerAdvances g.L.Link.carried Answers c.args.shared.now.turns) (hired_worker g.C.Clock.moments (λ v. (goal.Job-dyn g v).runs v.1)) c.args.workers.now c.for_each_mut.new.s same
    (λ i d less.
    let one = (c.for_each_mut.ensures i d less).1 in
    between (WorkerAdvances g.L.Link.carried Answers c.args.shared.now.turns) (hired_worker g.C.Clock.moments (λ v. (goal.Job-dyn g v).runs v.1)) _ _ _ _ one.argument_is one.left one.call)
