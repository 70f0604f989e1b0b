use Rattle.std.proofs.Common.{length}
use Rattle.sk_poller.specs.Stage.{watch_of}
use Rattle.sk_poller.proofs.Polls.{SoFar, left}
use Rattle.sk_poller.proofs.poller.Poller.turn.Given as goal

abbrev pub invariant-loop-stage : goal.invariant-loop-stage
invariant-loop-stage g l =
    SoFar (g.L.Link.carried l.initial.link l.link) (g.C.Clock.moments l.initial.clock) (g.C.Clock.moments l.clock) (g.D.Dice.words l.initial.dice) (g.D.Dice.words l.dice)
    (watch_of l.self) l.stage

abbrev pub decreases-loop-stage : goal.decreases-loop-stage
decreases-loop-stage g l = left (length l.self.loops.items) l.stage
