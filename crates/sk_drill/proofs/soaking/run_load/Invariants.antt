use Rattle.std.proofs.Common.{◌*◌, ◌≤◌}
use Rattle.sk_drill.proofs.SoFar.{HasTaken}
use Rattle.sk_drill.proofs.soaking.run_load.Given as goal

abbrev pub invariant-loop-turns : goal.invariant-loop-turns
invariant-loop-turns l = HasTaken l.fn.seed l.fn.jobs l.turns l.load l.core l.events × (l.turns ≤ 20 * l.fn.jobs)
