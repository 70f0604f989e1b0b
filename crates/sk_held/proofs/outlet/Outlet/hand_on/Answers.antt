use Rattle.std.proofs.Common.{sym, subst}
use Rattle.sk_held.specs.Counts.{HasSettled}
use Rattle.sk_held.proofs.Handing.{since_on}
use Rattle.sk_held.proofs.outlet.Outlet.hand_on.Goals as goal

pub invariant_of-self : goal.invariant_of-self
invariant_of-self g c =
    let taken = g.C.Sink.taken in
    let took = c.hand_on.ensures.took in
    let has = subst (λ o. HasSettled g.I.HeldId.count (g.W.Settler.settled o.settler) (g.W.Settler.stored o.settler)) (sym c.self.view_is) c.requires in
    since_on g.I.HeldId.first g.I.HeldId.count (taken c.self.inside.conn) took.0 (taken c.hand_on.new.conn) (g.W.Settler.settled c.self.inside.settler) (g.W.Settler.stored c.self.inside.settler) c.self.invariant took.2 has
