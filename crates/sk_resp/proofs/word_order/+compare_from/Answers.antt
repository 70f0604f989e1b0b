use Rattle.std.proofs.Common.{◌≡◌, ◌∙◌, arith, sym}
use Rattle.sk_resp.specs.Groups.{group_at}
use Rattle.sk_resp.proofs.Groups.{order_greater, order_less, order_same}
use Rattle.sk_resp.proofs.word_order.+compare_from.Goals as goal

pub returns-then-first-other : goal.returns-then-first-other
returns-then-first-other t c =
    let a = c.args.a.now in
    let b = c.args.b.now in
    let same : group_at 8 c.args.at a ≡ group_at 8 c.args.at b = sym c.group_at-first.ensures ∙ c.if-first-other.true ∙ c.group_at-other.ensures in
    c.compare_from.ensures ∙ sym (order_same a b (λ k. (c.type_inv.a k).fits) (λ k. (c.type_inv.b k).fits) 8 c.args.at (omega (arith, c.if-both-at-lt-GROUP.false, c.requires.order, c.requires.within)) (omega (arith, c.if-both-at-lt-GROUP.false, c.requires.order, c.requires.within_other)) same)

pub returns-then-first-other-2 : goal.returns-then-first-other-2
returns-then-first-other-2 t c =
    let a = c.args.a.now in
    let b = c.args.b.now in
    sym (order_less a b (λ k. (c.type_inv.a k).fits) (λ k. (c.type_inv.b k).fits) 8 c.args.at (omega (arith, c.if-both-at-lt-GROUP.false, c.requires.order, c.requires.within)) (omega (arith, c.if-both-at-lt-GROUP.false, c.requires.order, c.requires.within_other)) (omega (arith, c.group_at-first.ensures, c.group_at-other.ensures, c.if-first-other-2.true)))

pub returns-else-first-other-2 : goal.returns-else-first-other-2
returns-else-first-other-2 t c =
    let a = c.args.a.now in
    let b = c.args.b.now in
    sym (order_greater a b (λ k. (c.type_inv.a k).fits) (λ k. (c.type_inv.b k).fits) 8 c.args.at (omega (arith, c.if-both-at-lt-GROUP.false, c.requires.order, c.requires.within)) (omega (arith, c.if-both-at-lt-GROUP.false, c.requires.order, c.requires.within_other)) (omega (arith, c.group_at-first.ensures, c.group_at-other.ensures, c.if-first-other.false, c.if-first-other-2.false)))
