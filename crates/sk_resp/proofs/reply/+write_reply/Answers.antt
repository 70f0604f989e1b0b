use Rattle.std.proofs.Common.{◌≡◌, ◌+◌, ◌<◌, ◌++◌, ◌∷◌, [], ℕ, List, map, take, get_or, length, sym, ap, ◌∙◌, refl, append_assoc, append-nil}
use Rattle.std.proofs.lemmas.List.{take_more, map-append}
use Rattle.sk_resp.specs.declared.reply.Reply.{Reply}
use Rattle.sk_resp.specs.Spelling.{Bytes, joined}
use Rattle.sk_resp.specs.Reply.{wire}
use Rattle.sk_resp.proofs.reply.+write_reply.Goals as goal

joined-append : (xs ys : List Bytes) → joined (xs ++ ys) ≡ joined xs ++ joined ys
joined-append [] ys = refl
joined-append (x ∷ xs) ys = ap (λ z. x ++ z) (joined-append xs ys) ∙ sym (append_assoc x (joined xs) (joined ys))

-- one more reply's text
joined_more : (rs : List Reply) (i : ℕ) (r : Reply) → i < length rs → r ≡ get_or rs i r → joined (map wire (take (i + 1) rs)) ≡ joined (map wire (take i rs)) ++ wire r
joined_more rs i r lt is =
    ap (λ z. joined (map wire z)) (take_more rs i r lt ∙ ap (λ w. take i rs ++ w ∷ []) (sym is))
    ∙ ap joined (map-append wire (take i rs) (r ∷ [])) ∙ joined-append (map wire (take i rs)) (wire r ∷ []) ∙ ap (λ z. joined (map wire (take i rs)) ++ z) (append-nil (wire r))

pub loop-reply-preserved : goal.loop-reply-preserved
loop-reply-preserved t c =
    let items = c.deref-reply-items.result.now in
    let i = c.loop-reply.reply-index in
    c.in_ok-write_reply-in-Array.ensures ∙ ap (λ z. z ++ wire c.reply-item.result) c.loop-reply.invariant
    ∙ append_assoc c.write_header.new.out.items (joined (map wire (take i items))) (wire c.reply-item.result)
    ∙ ap (λ z. c.write_header.new.out.items ++ z) (sym (joined_more items i c.reply-item.result c.loop-reply-test.true c.reply-item.is))
