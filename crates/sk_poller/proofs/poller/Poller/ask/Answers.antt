use Rattle.std.proofs.Common.{◌≡◌, ◌∙◌, Some, sym, subst, ap}
use Rattle.sk_poller.specs.Stage.{Answers, after, request_at, watch_of}
use Rattle.sk_poller.proofs.Polls.{answer}
use Rattle.sk_poller.proofs.poller.Poller.ask.Goals as goal

pub returns : goal.returns
returns g c =
    let w = watch_of c.args.self.now in
    let stage = c.args.stage in
    let r = c.in_ok-reply.reply in
    let asks_it : request_at w.ident stage ≡ Some c.in-Some.words = sym c.in_ok-words.ensures ∙ c.in-Some.is in
    let leads : after w.loops stage r ≡ c.after.result = ap (λ loops. after loops stage r) (sym c.deref.ensures.value) ∙ sym c.after.ensures in
    subst (λ result. Answers (g.L.Link.carried c.args.link.now c.call.new.self) w stage result) (sym c.ok_or.ensures.value)
    (answer (g.L.Link.carried c.args.link.now c.call.new.self) w stage c.in-Some.words r c.after.result asks_it leads c.in_ok-reply.ensures.carried)
