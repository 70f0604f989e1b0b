use Rattle.std.proofs.Common.{◌≡◌, ◌≤◌}
use Rattle.std.specs.Prelude.{OnErr}
use Rattle.sk_base.specs.Outside.{Rose}
use Rattle.sk_edge.specs.Doors.{IsNudged}
use Rattle.sk_serve.proofs.accept_loop.wake.Given as goal

abbrev pub invariant-loop-other : goal.invariant-loop-other
invariant-loop-other g l = record {
  later : g.E.Ear.ear_faults l.fn.ear ≤ g.E.Ear.ear_faults l.ear;
  failed : OnErr l.woken (Rose (g.E.Ear.ear_faults l.fn.ear) (g.E.Ear.ear_faults l.ear));
  count : IsNudged (g.E.Ear.nudged l.fn.ear) l._other (g.E.Ear.nudged l.ear);
  heard : g.E.Ear.heard l.ear ≡ g.E.Ear.heard l.fn.ear;
  kept : g.E.Ear.kept l.ear ≡ g.E.Ear.kept l.fn.ear;
}
