use Rattle.std.proofs.Common.{◌∙◌, ap, Ok, Err, refl}
use Rattle.std.specs.Result.{is_err}
use Rattle.sk_launcher.proofs.Threads.{same_settings, worker_turned}
use Rattle.sk_launcher.proofs.worker_thread.WorkerThread.turn.Goals as goal

pub returns-in-Some-clause-went_on : goal.returns-in-Some-clause-went_on
returns-in-Some-clause-went_on g c =
    worker_turned _ _ _ _ _ c.turn.result (Ok c.in-Ok.turn) c.in-Ok.is c.requires.whole c.pause.ensures c.turn.ensures.told
    (same_settings _ _ _ _ _ _ _ _ c.turn.ensures.ident c.turn.ensures.order
    c.turn.ensures.prefetch c.turn.ensures.classes) (ap (λ (v : _). v.items) c.turn.ensures.rules) c.turn.ensures.plain (c.turn.ensures.ends ∙ ap is_err c.in-Ok.is, refl, c.count.ensures)

pub returns-in_default-clause-went_on : goal.returns-in_default-clause-went_on
returns-in_default-clause-went_on g c =
    worker_turned _ _ _ _ _ c.turn.result (Ok c.in-Ok.turn) c.in-Ok.is c.requires.whole refl c.turn.ensures.told
    (same_settings _ _ _ _ _ _ _ _ c.turn.ensures.ident c.turn.ensures.order
    c.turn.ensures.prefetch c.turn.ensures.classes) (ap (λ (v : _). v.items) c.turn.ensures.rules) c.turn.ensures.plain (c.turn.ensures.ends ∙ ap is_err c.in-Ok.is, refl, c.count.ensures)

pub returns-in-Err-clause-went_on : goal.returns-in-Err-clause-went_on
returns-in-Err-clause-went_on g c =
    worker_turned _ _ _ _ _ c.turn.result (Err c.in-Err.fault) c.in-Err.is c.requires.whole refl c.turn.ensures.told
    (same_settings _ _ _ _ _ _ _ _ c.turn.ensures.ident c.turn.ensures.order
    c.turn.ensures.prefetch c.turn.ensures.classes) (ap (λ (v : _). v.items) c.turn.ensures.rules) c.turn.ensures.plain (c.turn.ensures.ends ∙ ap is_err c.in-Err.is, refl, refl)
