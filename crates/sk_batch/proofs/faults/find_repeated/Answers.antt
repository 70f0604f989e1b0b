use Rattle.std.proofs.Common.{◌≡◌, ◌+◌, ◌||◌, ◌∷◌, ◌∙◌, List, suc, false, true, not, ap, ap₂, arith, drop, drop-cons, sym}
use Rattle.sk_resp.specs.Spelling.{Bytes}
use Rattle.sk_batch.specs.Batched.{is_member}
use Rattle.sk_batch.specs.Faults.{has_repeated}
use Rattle.sk_batch.proofs.Repeats.{any_seen, gone_on, has_seen}
use Rattle.sk_batch.proofs.faults.find_repeated.Goals as goal

pub loop-jid-preserved : goal.loop-jid-preserved
loop-jid-preserved c =
    let all = c.args.jids.now in
    let members = c.args.members.now.list.current in
    let key = c.bytes-bytes.result in
    let next : c.loop-jid.jid-index + 1 ≡ suc c.loop-jid.jid-index = omega arith in
    let same : c.jid-item.result ≡ key.now = sym c.bytes-bytes.ensures in
    let here : drop c.loop-jid.jid-index all ≡ key.now ∷ drop (c.loop-jid.jid-index + 1) all =
    drop-cons all c.loop-jid.jid-index c.jid-item.result c.loop-jid-test.true ∙ ap₂ (λ (x : Bytes) (xs : List Bytes). x ∷ xs) (sym c.jid-item.is ∙ same) (ap (λ n. drop n all) (sym next)) in
    let new_here : not (has_seen c.loop-jid.seen key.now) ≡ true = sym c.in_ok-new.ensures.added ∙ c.if-not-new.false in
    let unseen : has_seen c.loop-jid.seen key.now ≡ false = grind (arith, new_here) in
    let outside : is_member c.args.bid.now key.now members ≡ false = sym c.is_member.ensures ∙ c.if-is_member.false in
    gone_on c.loop-jid.seen c.insert.new.self key c.in_ok-new.ensures.updates c.args.bid.now members (drop (c.loop-jid.jid-index + 1) all) outside unseen
    ∙ ap (λ (l : List Bytes). any_seen c.loop-jid.seen l || has_repeated c.args.bid.now members l) (sym here) ∙ c.loop-jid.invariant
