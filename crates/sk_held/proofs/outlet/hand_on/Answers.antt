use Rattle.std.proofs.Common.{◌≡◌, ◌++◌, take, ◌∙◌, ap, sym, subst, append_assoc}
use Rattle.sk_base.specs.Outside.{Takes}
use Rattle.sk_base.proofs.OutsideLaws.{takes_more}
use Rattle.sk_held.proofs.outlet.hand_on.Goals as goal

pub loop-conn-preserved : goal.loop-conn-preserved
loop-conn-preserved g c =
    let taken = g.C.Sink.taken in
    let front = c.loop-conn.invariant.front in
    let bytes = c.loop-conn.bytes.items in
    let piece = take c.in_ok-n.n bytes in
    let same : c.deref.result.now ≡ bytes = cc in
    let took : Takes (taken c.loop-conn.conn) piece (taken c.write.new.self) = subst (λ z. Takes (taken c.loop-conn.conn) (take c.in_ok-n.n z) (taken c.write.new.self)) same c.in_ok-n.ensures.told in
    record {
      front = (front.0 ++ piece, front.1 ∙ ap (λ z. front.0 ++ z) c.take_out.ensures ∙ sym (append_assoc front.0 piece _), takes_more _ front.0 _ piece _ front.2 took);
      count = c.in_ok-n.ensures.cause.whole ∙ c.loop-conn.invariant.count;
      beside = c.in_ok-n.ensures.beside ∙ c.loop-conn.invariant.beside;
    }
