use Rattle.std.proofs.Common.{◌∙◌, ap, Ok, Err, refl}
use Rattle.std.specs.Result.{is_err}
use Rattle.sk_launcher.proofs.Threads.{has_left, same_settings}
use Rattle.sk_launcher.proofs.worker_thread.WorkerThread.leave.Goals as goal

pub returns-in-Err : goal.returns-in-Err
returns-in-Err g c = record {
  left = has_left _ _ _ _ c.leave.result (Err c.in-Err.fault) c.if-processor.false c.in-Err.is c.leave.ensures.told
      (record {
        moments = refl;
        dice = refl;
        words = refl;
        settings = same_settings _ _ _ _ _ _ _ _ c.leave.ensures.ident c.leave.ensures.order c.leave.ensures.prefetch refl;
        told = refl;
        rules = refl;
        plain = c.leave.ensures.plain;
        tally = refl;
      }) (c.leave.ensures.ends ∙ ap is_err c.in-Err.is) refl;
}

pub returns-in_default : goal.returns-in_default
returns-in_default g c = record {
  left = has_left _ _ _ _ c.leave.result (Ok c.in_default.field-0) c.if-processor.false c.in_default.is c.leave.ensures.told
      (record {
        moments = refl;
        dice = refl;
        words = refl;
        settings = same_settings _ _ _ _ _ _ _ _ c.leave.ensures.ident c.leave.ensures.order c.leave.ensures.prefetch refl;
        told = refl;
        rules = refl;
        plain = c.leave.ensures.plain;
        tally = refl;
      }) (c.leave.ensures.ends ∙ ap is_err c.in_default.is) refl;
}
