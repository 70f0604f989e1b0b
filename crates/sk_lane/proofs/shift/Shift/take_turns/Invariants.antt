use Rattle.std.proofs.Common.{◌≡◌, ◌≤◌, false}
use Rattle.sk_worker.specs.Promises.{settings}
use Rattle.sk_lane.specs.Carrying.{KeepsCalls}
use Rattle.sk_lane.specs.Drawing.{is_off}
use Rattle.sk_lane.specs.Lane.{RulesOf, RunsOf}
use Rattle.sk_lane.specs.Progress.{KeepsRules, KeepsWorker, Stands, TurnsSoFar}
use Rattle.sk_lane.proofs.shift.Shift.take_turns.Given as goal

abbrev pub decreases-loop-left : goal.decreases-loop-left
decreases-loop-left g l = l.left

abbrev pub invariant-loop-left : goal.invariant-loop-left
invariant-loop-left g l = record {
  most : l.left ≤ l.initial.left;
  stands : Stands (g.C.Clock.moments l.self.link.clock);
  on : is_off l.self.link.drawing ≡ false;
  whole : l.self.worker.ended ≡ false;
  worker : KeepsWorker l.initial.self.worker l.self.worker;
  registry : KeepsRules l.initial.registry l.registry;
  calls : KeepsCalls g.D.Desk l.initial.self.link l.self.link;
  told : TurnsSoFar (settings l.initial.self.worker l.initial.registry) (RulesOf l.initial.registry l.initial.self.worker.plain)
      (RunsOf (λ v. (goal.Job-dyn g v).runs v.1) l.initial.registry l.registry)
      l.initial.self.link.drawing l.initial.left l.initial.self.worker.held.items l.initial.self.link.asks.items l.self.link.asks.items
      l.initial.self.marks.items l.self.marks.items l.self.link.drawing l.left l.self.worker.held.items;
}
