use Rattle.std.proofs.Common.{◌≡◌, ◌≤◌, ◌+◌, ◌*◌, true}
use Rattle.sk_lane.specs.Drawing.{first_crashes}
use Rattle.sk_lane.specs.Lane.{RulesOf, RunsOf}
use Rattle.sk_lane.specs.Progress.{KeepsRules, LaneSoFar}
use Rattle.sk_lane.specs.Story.{sitting}
use Rattle.sk_lane.specs.Threads.{IsThread}
use Rattle.sk_lane.specs.Turns.{lane_settings}
use Rattle.sk_lane.proofs.lanes.lane.Given as goal

abbrev pub decreases-loop-left : goal.decreases-loop-left
decreases-loop-left g l = l.left

abbrev pub invariant-loop-left : goal.invariant-loop-left
invariant-loop-left g l = record {
  enough : l.left ≤ g.S.Seats.left l.seats;
  free : g.S.Seats.free l.seats ≡ true;
  registry : KeepsRules l.fn.registry l.registry;
  thread : IsThread l.fn.number l.fn.rule l.thread.crashes l.thread;
  told : LaneSoFar (l.fn.number + 1) (lane_settings l.fn.number l.fn.registry.classes) (RulesOf l.fn.registry l.fn.rule)
      (RunsOf (λ v. (goal.Job-dyn g v).runs v.1) l.fn.registry l.registry) (first_crashes l.fn.seed l.fn.number l.fn.crashes) (2 * l.fn.jobs)
      (sitting g.S.Seats l.fn.seats) (sitting g.S.Seats l.seats) l.stories.items l.thread.crashes l.left;
}
