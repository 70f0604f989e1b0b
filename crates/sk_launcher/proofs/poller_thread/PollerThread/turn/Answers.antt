use Rattle.std.proofs.Common.{Ok, Err, refl}
use Rattle.sk_launcher.proofs.Threads.{none_is, poller_turned}
use Rattle.sk_launcher.proofs.poller_thread.PollerThread.turn.Goals as goal

pub returns-in-Ok-clause-went_on : goal.returns-in-Ok-clause-went_on
returns-in-Ok-clause-went_on g c =
    poller_turned _ _ _ _ c.turn.result (Ok c.in-Ok.field-0) c.in-Ok.is (none_is _ c.requires.whole) c.pause.ensures c.turn.ensures.told refl
    (c.requires.whole, refl)

pub returns-in-Err-clause-went_on : goal.returns-in-Err-clause-went_on
returns-in-Err-clause-went_on g c =
    poller_turned _ _ _ _ c.turn.result (Err c.in-Err.fault) c.in-Err.is (none_is _ c.requires.whole) c.pause.ensures c.turn.ensures.told refl (refl, refl)
