use Rattle.std.proofs.Common.{sym, subst}
use Rattle.sk_held.specs.Counts.{HasSettled}
use Rattle.sk_held.proofs.Handing.{since_on, some_taken}
use Rattle.sk_held.proofs.outlet.Outlet.write.Goals as goal

pub invariant_of-self : goal.invariant_of-self
invariant_of-self g c =
    let taken = g.C.Sink.taken in
    let sent = some_taken c.write.result c.args.bytes.now (taken c.self.inside.conn) (taken c.write.new.self) c.write.ensures.told c.write.ensures.err in
    let has = subst (λ o. HasSettled g.I.HeldId.count (g.W.Settler.settled o.settler) (g.W.Settler.stored o.settler)) (sym c.self.view_is) c.requires in
    since_on g.I.HeldId.first g.I.HeldId.count (taken c.self.inside.conn) sent.0 (taken c.write.new.self) (g.W.Settler.settled c.self.inside.settler) (g.W.Settler.stored c.self.inside.settler) c.self.invariant sent.1 has
