use Rattle.std.proofs.Common.{◌∙◌, arith}
use Rattle.sk_worker.specs.Promises.{Answers}
use Rattle.sk_launcher.specs.Working.{WorkerAdvances}
use Rattle.sk_launcher.proofs.Threads.{poller_advances_on, worker_advances_on}
use Rattle.sk_launcher.proofs.Zips.{all_on, zipped_same}
use Rattle.sk_launcher.proofs.manager.run_on.Goals as goal

pub loop-preserved : goal.loop-preserved
loop-preserved g c =
    let turns = c.args.shared.now.turns in
    let i = c.loop.invariant in
    let ran = c.run_workers.ensures in (
      tt,
      tt,
      poller_advances_on g.L.Link.carried c.args.shared.now.polls _ _ _ i.2 c.run.ensures,
      all_on (WorkerAdvances g.L.Link.carried Answers turns) (worker_advances_on g.L.Link.carried Answers turns) _ _ _ i.3 ran,
      zipped_same _ _ _ _ ran ∙ i.4,
      omega (arith, i.5, zipped_same _ _ _ _ ran),
    )
