use Rattle.std.proofs.Common.{arith, rules}
use Rattle.sk_launcher.specs.TurningLaws.{went_on_none}
use Rattle.sk_launcher.proofs.Threads.{poller_advances}
use Rattle.sk_launcher.proofs.poller_thread.PollerThread.run.Goals as goal

pub returns-then-is_some : goal.returns-then-is_some
returns-then-is_some g c = record { goes_on = went_on_none _ _; most = λ le. le }

pub loop-turn-init : goal.loop-turn-init
loop-turn-init g c = record {
  advances = record { goes_on = went_on_none _ _; most = λ le. le };
  whole = search rules;
  taken = search rules;
}

pub returns-then-is_some-2 : goal.returns-then-is_some-2
returns-then-is_some-2 g c =
    let i = c.loop-turn.invariant in
    poller_advances _ _ _ _ _ i.advances c.turn.ensures.went_on (omega (arith, i.taken, c.turn.ensures.most, c.loop-turn-test.true))

pub loop-turn-preserved : goal.loop-turn-preserved
loop-turn-preserved g c =
    let i = c.loop-turn.invariant in
    record {
      advances = poller_advances _ _ _ _ _ i.advances c.turn.ensures.went_on (omega (arith, i.taken, c.turn.ensures.most, c.loop-turn-test.true));
      whole = search rules;
      taken = search rules;
    }
