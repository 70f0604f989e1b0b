use Rattle.std.proofs.Common.{◌≡◌, ◌<◌, length}
use Rattle.std.specs.List.{AllZip}
use Rattle.sk_worker.specs.Promises.{Answers}
use Rattle.sk_launcher.specs.Polling.{PollerAdvances, own_poller}
use Rattle.sk_launcher.specs.Working.{WorkerAdvances, hired_workers}
use Rattle.sk_launcher.proofs.manager.run_on.Given as goal

abbrev pub invariant-loop : goal.invariant-loop
invariant-loop g l = (goal.iterator-loop g).can_next l.iterator' × (goal.iterator-loop g).is_finite l.iterator'
    × PollerAdvances g.L.Link.carried l.shared.polls (own_poller g.C.Clock.moments l.fn.poller) (own_poller g.C.Clock.moments l.poller)
    × AllZip (WorkerAdvances g.L.Link.carried Answers l.shared.turns) (hired_workers g.C.Clock.moments (λ v. (goal.Job-dyn g v).runs v.1) l.fn.workers)
    (hired_workers g.C.Clock.moments (λ v. (goal.Job-dyn g v).runs v.1) l.workers)
    × (length l.workers ≡ length l.fn.workers)
    × (0 < length l.workers)
