use Rattle.std.proofs.Common.{refl}
use Rattle.sk_launcher.proofs.Hiring.{started_by}
use Rattle.sk_launcher.proofs.Threads.{same_settings}
use Rattle.sk_launcher.proofs.hire.start.Goals as goal

pub returns : goal.returns
returns g c =
    let own = c.new-worker.ensures in
    started_by _ _ _ _ _ _ _ _ c.new-2.ensures (same_settings _ _ _ _ _ _ _ _ own.ident own.order own.prefetch refl) refl own.plain refl own.held own.ended refl
    c.new.ensures c.join.ensures.joined
