use Rattle.std.proofs.Common.{◌-◌}
use Rattle.sk_limit.proofs.Holding.{IsBehind}
use Rattle.sk_limit.proofs.holds.take_first.Given as goal

abbrev pub invariant-loop-slot : goal.invariant-loop-slot
invariant-loop-slot g l = IsBehind (g.L.Link.carried l.initial.link l.link) l.initial.slot l.slot l.most l.millis

abbrev pub decreases-loop-slot : goal.decreases-loop-slot
decreases-loop-slot g l = l.most - l.slot.slot
