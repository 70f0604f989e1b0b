use Rattle.std.proofs.Common.{arith}
use Rattle.sk_drill.proofs.SoFar.{begun, count_small, crons_small, moment_small, soaked, taken_on}
use Rattle.sk_drill.proofs.soaking.run_load.Goals as goal

pub loop-turns-init : goal.loop-turns-init
loop-turns-init c =
    (begun c.args.seed c.args.jobs c.new-load.result c.begin.new.load c.args.core.now c.begin.new.core c.in_ok-events.events c.new-load.ensures c.requires.empty c.in_ok-events.ensures.done, omega arith)

pub take_turn-requires-clause-moment : goal.take_turn-requires-clause-moment
take_turn-requires-clause-moment c =
    omega (arith, moment_small c.args.seed c.args.jobs c.loop-turns.turns c.loop-turns.load c.loop-turns.core c.loop-turns.events c.loop-turns.invariant.0, c.loop-turns.invariant.1, c.requires.few)

pub take_turn-requires-clause-crons : goal.take_turn-requires-clause-crons
take_turn-requires-clause-crons c =
    omega (arith, crons_small c.args.seed c.args.jobs c.loop-turns.turns c.loop-turns.load c.loop-turns.core c.loop-turns.events c.loop-turns.invariant.0, c.loop-turns.invariant.1, c.requires.few)

pub overflow_add-events : goal.overflow_add-events
overflow_add-events c =
    omega (arith, count_small c.args.seed c.args.jobs c.loop-turns.turns c.loop-turns.load c.loop-turns.core c.loop-turns.events c.loop-turns.invariant.0, c.loop-turns.invariant.1, c.requires.few, c.in_ok-events-2.ensures.small)

pub loop-turns-preserved : goal.loop-turns-preserved
loop-turns-preserved c = (
  taken_on c.args.seed c.args.jobs c.loop-turns.turns c.loop-turns.load c.take_turn.new.load c.loop-turns.core c.take_turn.new.core c.loop-turns.events c.in_ok-events-2.field-0
      c.loop-turns.invariant.0 c.in_ok-events-2.ensures.done,
  omega (arith, c.loop-turns-test.true),
)

pub returns-clause-run : goal.returns-clause-run
returns-clause-run c =
    soaked c.args.seed c.args.jobs c.loop-turns.turns c.loop-turns.load c.loop-turns.core c.loop-turns.events c.summary.result c.loop-turns.invariant.0
    (omega (arith, c.loop-turns.invariant.1, c.loop-turns-test.false)) c.summary.ensures.is
