use Rattle.std.proofs.Common.{◌∙◌, ap, Ok, Err, refl}
use Rattle.std.specs.Result.{is_err}
use Rattle.sk_launcher.proofs.Threads.{has_joined, same_settings}
use Rattle.sk_launcher.proofs.worker_thread.WorkerThread.join.Goals as goal

pub returns-in-Err : goal.returns-in-Err
returns-in-Err g c = record {
  joined = has_joined _ _ _ c.join.result (Err c.in-Err.fault) c.requires c.in-Err.is c.join.ensures.told c.join.ensures.held
      (record {
        moments = refl;
        dice = refl;
        words = refl;
        settings = same_settings _ _ _ _ _ _ _ _ c.join.ensures.ident c.join.ensures.order c.join.ensures.prefetch refl;
        told = refl;
        rules = refl;
        plain = c.join.ensures.plain;
        tally = refl;
      }) (c.join.ensures.ends ∙ ap is_err c.in-Err.is) refl;
}

pub returns-in_default : goal.returns-in_default
returns-in_default g c = record {
  joined = has_joined _ _ _ c.join.result (Ok c.in_default.field-0) c.requires c.in_default.is c.join.ensures.told c.join.ensures.held
      (record {
        moments = refl;
        dice = refl;
        words = refl;
        settings = same_settings _ _ _ _ _ _ _ _ c.join.ensures.ident c.join.ensures.order c.join.ensures.prefetch refl;
        told = refl;
        rules = refl;
        plain = c.join.ensures.plain;
        tally = refl;
      }) (c.join.ensures.ends ∙ ap is_err c.in_default.is) refl;
}
