use Rattle.std.proofs.Common.{◌≡◌, ◌+◌, ◌-◌, take, drop, length, subst, arith, length-drop, length-take}
use Rattle.std.proofs.lemmas.List.{take_all}
use Rattle.sk_client.specs.Bulk.{PushesFirst}
use Rattle.sk_client.proofs.Slices.{PushesFirst-more, StopsAt-next}
use Rattle.sk_client.proofs.bulk.push_slices.Goals as goal

pub returns-in-Err-clause-err : goal.returns-in-Err-clause-err
returns-in-Err-clause-err g c =
    let l = c.loop-sent in
    let texts = c.args.texts.now in
    let left = take (length texts - l.sent) (drop l.sent texts) in
    let all : left ≡ drop l.sent texts = take_all _ _ (omega (arith, length-drop l.sent texts)) in
    StopsAt-next (g.L.Link.carried c.args.link.now l.link) (g.L.Link.carried l.link c.push_slice.new.link) (g.L.Link.carried c.args.link.now c.push_slice.new.link)
    (g.met.L.Link.carried_more _ _ _) c.args.queue.now c.args.most l.sent c.slice_len.result texts (take c.slice_len.result left) left all
    l.invariant c.slice_len.ensures.slice c.in-Err.fault c.in-Err.ensures.drafts c.in-Err.ensures.err

pub loop-sent-preserved : goal.loop-sent-preserved
loop-sent-preserved g c =
    let l = c.loop-sent in
    let texts = c.args.texts.now in
    let left = take (length texts - l.sent) (drop l.sent texts) in
    let all : left ≡ drop l.sent texts = take_all _ _ (omega (arith, length-drop l.sent texts)) in
    let slice = take c.slice_len.result left in
    let sizes : c.slice_len.result ≡ length slice = omega (arith, length-take c.slice_len.result left, c.slice_len.ensures.within) in
    let pushed = PushesFirst-more (g.L.Link.carried c.args.link.now l.link) (g.L.Link.carried l.link c.push_slice.new.link)
    (g.L.Link.carried c.args.link.now c.push_slice.new.link) (g.met.L.Link.carried_more _ _ _) c.args.queue.now c.args.most l.sent c.slice_len.result texts slice left
    all c.slice_len.ensures.within l.invariant c.slice_len.ensures.slice c.in_default.ensures.ok in
    subst (λ n. PushesFirst (g.L.Link.carried c.args.link.now c.push_slice.new.link) c.args.queue.now c.args.most texts (l.sent + n)) sizes pushed
