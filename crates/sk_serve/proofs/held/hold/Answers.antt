use Rattle.std.proofs.Common.{◌≡◌, ◌∙◌, ap, sym}
use Rattle.sk_held.proofs.Handing.{held_same}
use Rattle.sk_serve.proofs.GivenBack.{given_back}
use Rattle.sk_serve.proofs.held.hold.Goals as goal

pub returns-clause-session : goal.returns-clause-session
returns-clause-session g c =
    let left = g.C.Source.left in
    let taken = g.C.Sink.taken in
    let mid = c.session-end.new.conn in
    let conn = c.finish-conn.result.0 in
    let back = c.finish-conn.ensures.hands in
    let apart = g.met.C.Duplex.writes_apart in
    let was = c.new-held.ensures in
    let left_is : left conn ≡ left mid.conn = ap (λ p. p.0) (sym (apart conn) ∙ c.finish-conn.ensures.beside ∙ apart mid.conn) in
    record {
      kept = back.0;
      session = given_back g.D.Desk.wants_words g.D.Desk.calls g.D.Desk.acked g.K.Clock.moments left taken c.args.desk.now c.args.clock.now c.new-held.result c.session-end.result
          c.session-end.new.desk c.session-end.new.clock mid c.args.conn conn back.0 c.session-end.ensures.ends (ap (λ h. h.conn) was) (ap (λ h. h.gathered) was) left_is
          (held_same (taken mid.conn) mid.gathered back.1.sent (taken conn) back.0 (g.met.C.Holdable.steady mid.conn conn) back.1.took back.1.order);
      all = back.2;
    }
