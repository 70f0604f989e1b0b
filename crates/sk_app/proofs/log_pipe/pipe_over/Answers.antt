use Rattle.std.proofs.Common.{refl, ◌∙◌}
use Rattle.sk_app.proofs.LogRuns.{shelf_failed}
use Rattle.sk_app.proofs.log_pipe.pipe_over.Goals as goal

pub returns-in_err-disk-clause-told : goal.returns-in_err-disk-clause-told
returns-in_err-disk-clause-told g c = shelf_failed _ _ _ _ _ _ _ _ _ _ c.from_residual.result c.from_residual.ensures.1 (refl, refl, c.in_err-disk.ensures.err, c.in_err-disk.ensures.cause.failed)

pub returns-clause-told : goal.returns-clause-told
returns-clause-told g c = record {
  disk = c.in_ok-disk.disk;
  disk' = c.log_pipe-end.new.disk;
  lends = record { without = c.open.new.self; given = c.in_ok-disk.ensures.given; kept = c.leave.ensures.kept; whole = c.leave.ensures.faults ∙ c.in_ok-disk.ensures.cause.whole };
  piped = record {
    pipes = c.log_pipe-end.ensures.is;
    not_a_log = c.log_pipe-end.ensures.not_a_log;
    damaged = c.log_pipe-end.ensures.damaged;
    full = c.log_pipe-end.ensures.full;
    disk_fault = c.log_pipe-end.ensures.disk;
    read_fault = c.log_pipe-end.ensures.read_fault;
    write_fault = c.log_pipe-end.ensures.write_fault;
    disk_count = c.log_pipe-end.ensures.later;
    source_count = c.log_pipe-end.ensures.source_count;
    sink_count = c.log_pipe-end.ensures.sink_count;
  };
}
