use Rattle.std.proofs.Common.{◌≡◌, false}
use Rattle.sk_worker.specs.Promises.{Answers}
use Rattle.sk_launcher.specs.Working.{WorkerAdvances, worker_of}
use Rattle.sk_launcher.proofs.worker_thread.WorkerThread.run.Given as goal

abbrev pub invariant-loop-turn : goal.invariant-loop-turn
invariant-loop-turn g l = record {
  advances : WorkerAdvances g.L.Link.carried Answers l.shared.turns (worker_of g.C.Clock.moments g.D.Dice.words (λ v. (goal.Job-dyn g v).runs v.1) l.fn.self)
      (worker_of g.C.Clock.moments g.D.Dice.words (λ v. (goal.Job-dyn g v).runs v.1) l.self);
  whole : l.self.processor.worker.ended ≡ false;
  taken : l.self.processor.tally.taken ≡ l._turn;
}
