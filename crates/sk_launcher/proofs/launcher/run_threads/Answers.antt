use Rattle.std.proofs.Common.{◌≡◌, ◌≤◌, sym, subst, length, arith, rules, false}
use Rattle.std.specs.List.{AllByRecursion, AllZip}
use Rattle.sk_worker.specs.Promises.{Answers}
use Rattle.sk_launcher.specs.Launching.{HaveTaken, InThreads}
use Rattle.sk_launcher.specs.Polling.{own_poller}
use Rattle.sk_launcher.specs.Turning.{WentOn}
use Rattle.sk_launcher.specs.Working.{WorkerAdvances, WorkerTurn, hired_worker, hired_workers}
use Rattle.sk_launcher.proofs.Employed.{all_listed, all_placed, all_taken, seam}
use Rattle.sk_launcher.proofs.Zips.{zip_along}
use Rattle.sk_launcher.proofs.launcher.run_threads.Goals as goal

pub returns-clause-worked : goal.returns-clause-worked
returns-clause-worked g c =
    let moments = g.C.Clock.moments in
    let same : c.args.staff.now.len ≡ length c.run_on.new.workers = search rules in
    subst (λ items. InThreads g.L.Link.carried Answers (own_poller moments c.args.poller.now) (own_poller moments c.run_on.new.poller)
    (hired_workers moments (λ v. (goal.Job-dyn g v).runs v.1) c.args.staff.now.items) (hired_workers moments (λ v. (goal.Job-dyn g v).runs v.1) items)) (sym (seam c.run_on.new.workers _ c.args.staff.now.len same))
    (record {
      polled = c.run_on.ensures.poller.goes_on;
      worked = subst (λ items. AllZip (WentOn (WorkerTurn g.L.Link.carried Answers)) (hired_workers moments (λ v. (goal.Job-dyn g v).runs v.1) items) (hired_workers moments (λ v. (goal.Job-dyn g v).runs v.1) c.run_on.new.workers))
          c.as_mut_slice.ensures.value (zip_along (WorkerAdvances g.L.Link.carried Answers c.args.shared.now.turns) _ (λ x y p. p.goes_on) _ _ c.run_on.ensures.workers);
    })

pub returns-clause-taken : goal.returns-clause-taken
returns-clause-taken g c = λ most whole.
    let moments = g.C.Clock.moments in
    let turns = c.args.shared.now.turns in
    let same : c.args.staff.now.len ≡ length c.run_on.new.workers = search rules in
    let is = seam c.run_on.new.workers _ c.args.staff.now.len same in
    let unended = subst (λ items. AllByRecursion (λ w. w.ended ≡ false) (hired_workers moments (λ v. (goal.Job-dyn g v).runs v.1) items)) is whole.1 in
    let least = c.run_on.ensures.all whole.0 (all_placed (λ w. w.ended ≡ false) (hired_worker moments (λ v. (goal.Job-dyn g v).runs v.1)) c.run_on.new.workers unended) in
    let before = subst (λ items. AllByRecursion (λ w. w.tally.taken ≤ turns) (hired_workers moments (λ v. (goal.Job-dyn g v).runs v.1) items)) (sym c.as_mut_slice.ensures.value) most.1 in
    subst (λ items. HaveTaken c.args.shared.now.polls turns (own_poller moments c.run_on.new.poller) (hired_workers moments (λ v. (goal.Job-dyn g v).runs v.1) items)) (sym is) (
      omega (arith, c.run_on.ensures.poller.most most.0, least.0),
      all_taken (λ w. w.tally.taken) (WorkerAdvances g.L.Link.carried Answers turns) turns (λ x y p. p.most) _ (hired_workers moments (λ v. (goal.Job-dyn g v).runs v.1) c.run_on.new.workers) c.run_on.ensures.workers before
          (all_listed (λ w. turns ≤ w.tally.taken) (hired_worker moments (λ v. (goal.Job-dyn g v).runs v.1)) c.run_on.new.workers least.1),
    )
