use Rattle.std.proofs.Common.{[], ◌∙◌, take, sym, subst, append-nil}
use Rattle.sk_base.specs.Outside.{Takes}
use Rattle.sk_held.specs.Holding.{with_gathered}
use Rattle.sk_held.proofs.Handing.{held_takes}
use Rattle.sk_held.proofs.held_conn.HeldConnSink.write.Goals as goal

pub returns-in-Ok-clause-told : goal.returns-in-Ok-clause-told
returns-in-Ok-clause-told g c =
    let taken = g.C.Sink.taken in
    let old = c.args.self.now in
    let new = c.put.new.self in
    let hands = c.in-Ok.ensures.hands in
    held_takes (taken old.conn) old.gathered (take c.in-Ok.n c.args.bytes.now) hands.sent (taken new.conn) new.gathered hands.took hands.order

pub returns-clause-err : goal.returns-clause-err
returns-clause-err g c =
    let taken = g.C.Sink.taken in
    let old = c.args.self.now in
    let new = c.put.new.self in
    let hands = c.in_default.ensures.hands in
    subst (λ h. Takes (with_gathered (taken old.conn) old.gathered) [] (with_gathered (taken h.conn) h.gathered)) (sym c.self.view_is)
    (held_takes (taken old.conn) old.gathered [] hands.sent (taken new.conn) new.gathered hands.took (append-nil old.gathered ∙ hands.order))
