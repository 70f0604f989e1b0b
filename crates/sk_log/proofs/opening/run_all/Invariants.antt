use Rattle.std.proofs.Common.{◌-◌, ◌≤◌, ◌^◌}
use Rattle.sk_log.specs.Reading.{Begun, HasFront, HasRun, OnlyRead}
use Rattle.sk_log.specs.Window.{Shows}
use Rattle.sk_log.proofs.opening.run_all.Given as goal

-- the file was read so far, and its bodies were run
abbrev pub invariant-loop-at : goal.invariant-loop-at
invariant-loop-at g l = record {
  only_read : OnlyRead g.D.Disk.reads g.D.Disk.may_leave g.D.Disk.moment g.D.Disk.left_since l.fn.disk l.disk;
  reached : HasRun g.R.Replayer.runs HasFront (Begun (g.D.Disk.reads l.fn.disk)) l.at l.fn.replayer l.replayer;
  shows : Shows (g.D.Disk.reads l.disk) l.window;
  later : g.D.Disk.disk_faults l.fn.disk ≤ g.D.Disk.disk_faults l.disk;
}

abbrev pub decreases-loop-at : goal.decreases-loop-at
decreases-loop-at g l = 2 ^ 60 - l.at
