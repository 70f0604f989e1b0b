use Rattle.std.proofs.Common.{◌≡◌, ◌++◌, ◌∷◌, [], ◌∙◌, ap, sym, refl, subst, append_assoc, arith}
use Rattle.std.specs.Prelude.{map}
use Rattle.std.specs.Vec.Iter.{drain_items}
use Rattle.std.proofs.lemmas.Grind.{common_steps}
use Rattle.sk_base.specs.Outside.{Takes}
use Rattle.sk_base.proofs.OutsideLaws.{takes_more, takes_nothing}
use Rattle.sk_resp.specs.Reply.{wire}
use Rattle.sk_resp.specs.Spelling.{joined}
use Rattle.sk_talk.proofs.Talking.{front_among, texts_more}
use Rattle.sk_talk.proofs.driver.send_all.Goals as goal

pub loop-reply-init : goal.loop-reply-init
loop-reply-init g c =
    let all : drain_items c.drain-reply-items.result ≡ c.args.replies.now.items = c.drain-reply-items.ensures.rest ∙ grind (arith, common_steps) in
    record {
      sent = ([], sym (ap drain_items c.into_iter-reply-iterator.ensures.into_iter_gives ∙ all), takes_nothing (g.K.Sink.taken c.args.sink.now));
      beside = refl;
      later = omega arith;
    }

pub returns-in-Err-clause-err : goal.returns-in-Err-clause-err
returns-in-Err-clause-err g c =
    let sent = c.loop-reply.invariant.sent in
    let err = c.in-Err.ensures.err in
    let reply = c.in-Some.reply in
    let rest = drain_items c.next.new.self in
    let is : c.args.replies.now.items ≡ sent.0 ++ reply ∷ rest = sent.1 ∙ ap (λ z. sent.0 ++ z) c.in-Some.ensures.steps.0 in (
      err.0,
      (
        joined (map wire sent.0) ++ err.1.0,
        front_among c.args.replies.now.items sent.0 rest reply err.1.0 is err.1.1,
        takes_more (g.K.Sink.taken c.args.sink.now) (joined (map wire sent.0)) (g.K.Sink.taken c.loop-reply.sink) err.1.0 (g.K.Sink.taken c.send_last.new.sink) sent.2 err.1.2,
      ),
    )

pub loop-reply-preserved : goal.loop-reply-preserved
loop-reply-preserved g c =
    let sent = c.loop-reply.invariant.sent in
    let reply = c.in-Some.reply in
    let rest = drain_items c.next.new.self in
    let is : c.args.replies.now.items ≡ sent.0 ++ reply ∷ rest = sent.1 ∙ ap (λ z. sent.0 ++ z) c.in-Some.ensures.steps.0 in
    record {
      sent = (
        sent.0 ++ reply ∷ [],
        is ∙ sym (append_assoc sent.0 (reply ∷ []) rest),
        subst (λ z. Takes (g.K.Sink.taken c.args.sink.now) z (g.K.Sink.taken c.send_last.new.sink)) (sym (texts_more sent.0 reply))
            (takes_more (g.K.Sink.taken c.args.sink.now) (joined (map wire sent.0)) (g.K.Sink.taken c.loop-reply.sink) (wire reply) (g.K.Sink.taken c.send_last.new.sink) sent.2 c.in-Ok.ensures.told),
      );
      beside = c.in-Ok.ensures.beside ∙ c.loop-reply.invariant.beside;
      later = omega (arith, c.in-Ok.ensures.later);
    }
