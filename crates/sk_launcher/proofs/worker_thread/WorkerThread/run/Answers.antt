use Rattle.std.proofs.Common.{arith, rules}
use Rattle.sk_launcher.specs.TurningLaws.{went_on_none}
use Rattle.sk_launcher.proofs.Threads.{worker_advances}
use Rattle.sk_launcher.proofs.worker_thread.WorkerThread.run.Goals as goal

pub returns-then-is_broken : goal.returns-then-is_broken
returns-then-is_broken g c = record { goes_on = went_on_none _ _; most = λ le. le }

pub loop-turn-init : goal.loop-turn-init
loop-turn-init g c = record {
  advances = record { goes_on = went_on_none _ _; most = λ le. le };
  whole = search rules;
  taken = search rules;
}

pub returns-then-is_broken-2 : goal.returns-then-is_broken-2
returns-then-is_broken-2 g c =
    let i = c.loop-turn.invariant in
    worker_advances _ _ _ _ _ _ i.advances c.turn.ensures.went_on (omega (arith, i.taken, c.turn.ensures.most, c.loop-turn-test.true))

pub loop-turn-preserved : goal.loop-turn-preserved
loop-turn-preserved g c =
    let i = c.loop-turn.invariant in
    record {
      advances = worker_advances _ _ _ _ _ _ i.advances c.turn.ensures.went_on (omega (arith, i.taken, c.turn.ensures.most, c.loop-turn-test.true));
      whole = search rules;
      taken = search rules;
    }
