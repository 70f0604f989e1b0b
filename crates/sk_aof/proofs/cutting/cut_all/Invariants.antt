use Rattle.std.proofs.Common.{◌≡◌, ◌≤◌, ℕ, true}
use Rattle.sk_seats.specs.Phases.{is_plain}
use Rattle.sk_model.specs.World.{phase_of}
use Rattle.sk_aof.specs.Cuts.{CutsOff}
use Rattle.sk_aof.proofs.SeatsCut.{IsUpTo, left}
use Rattle.sk_aof.proofs.cutting.cut_all.Given as goal

abbrev pub invariant-loop-seat : goal.invariant-loop-seat
invariant-loop-seat g l = record {
  cuts : CutsOff g.D.Disk.may_leave g.D.Disk.moment g.D.Disk.left_since l.fn.log l.fn.disk l.fn.core l.log l.disk l.core;
  plain : (seat : ℕ) → IsUpTo l.after seat → is_plain (phase_of l.core seat) ≡ true;
  later : g.D.Disk.disk_faults l.fn.disk ≤ g.D.Disk.disk_faults l.disk;
}

abbrev pub decreases-loop-seat : goal.decreases-loop-seat
decreases-loop-seat g l = left l.after
