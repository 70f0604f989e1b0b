use Rattle.std.proofs.Common.{◌≡◌, ◌∙◌, ◌+◌, ◌++◌, [], ◌∷◌, ap, sym, arith}
use Rattle.std.specs.List.{range_with_len}
use Rattle.sk_policy.proofs.Orders.{range-more}
use Rattle.sk_policy.proofs.order.in_order.Goals as goal

pub loop-place-preserved : goal.loop-place-preserved
loop-place-preserved c =
    let place = c.loop-place.place in
    let zero_more : 0 + place ≡ place = omega arith in
    c.in_ok-push.ensures.items ∙ (ap (λ xs. xs ++ place ∷ []) c.loop-place.invariant
    ∙ sym (range-more 0 place ∙ ap (λ k. range_with_len 0 place ++ k ∷ []) zero_more))
