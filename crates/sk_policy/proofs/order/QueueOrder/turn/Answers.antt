use Rattle.std.proofs.Common.{◌≡◌, ◌<◌, ◌∙◌, [], false, All, ℕ, length, is_some, refl, sym, ap, arith}
use Rattle.std.proofs.lemmas.Result.{IfOk-weaker}
use Rattle.std.proofs.lemmas.List.Elements.{All-same}
use Rattle.std.proofs.lemmas.List.Sorted.{All-permutation}
use Rattle.std.specs.List.{range_with_len}
use Rattle.sk_policy.proofs.Orders.{no_draws, in_order, All-lot, All-range, All-firsts}
use Rattle.sk_policy.proofs.order.QueueOrder.turn.Goals as goal

pub returns-then-not-is_weighted-clause-ok : goal.returns-then-not-is_weighted-clause-ok
returns-then-not-is_weighted-clause-ok g c =
    let order = c.args.self.now in
    let strict : is_some order.weights ≡ false = sym c.is_weighted.ensures ∙ c.if-not-is_weighted.true in
    IfOk-weaker c.in_order.result _ _ (λ turn is. ([], refl, no_draws order strict, is ∙ (ap (λ names. range_with_len 0 (length names)) c.names.ensures ∙ in_order order strict))) c.in_order.ensures

pub returns-then-not-is_weighted-clause-places : goal.returns-then-not-is_weighted-clause-places
returns-then-not-is_weighted-clause-places g c =
    let order = c.args.self.now in
    let len : length c.names.result.now ≡ length order.names = ap (λ names. length names) c.names.ensures in
    IfOk-weaker c.in_order.result _ _ (λ turn is. All-same (λ place. place < length order.names) turn.items _ is (All-range 0 _ _ (omega (arith, len)))) c.in_order.ensures

pub keep_firsts-requires-clause-room : goal.keep_firsts-requires-clause-room
keep_firsts-requires-clause-room g c =
    rw c.deref.ensures.value (omega (arith, c.shuffle.ensures.len, c.in_ok-lot.lot.ok.0, c.len.ensures, c.in_ok-room.ensures.capacity))

pub returns-clause-places : goal.returns-clause-places
returns-clause-places g c =
    let len = length c.args.self.now.names in
    let P : ℕ → Type 0 = λ place. place < len in
    let all : All P c.in_ok-lot.lot.items = All-same P c.in_ok-lot.lot.items _ c.in_ok-lot.ensures (All-lot c.args.self.now 0 len len (omega arith)) in
    let shuffled : All P c.shuffle.result.items = All-permutation P _ c.shuffle.result.items c.shuffle.ensures.same all in
    All-same P c.keep_firsts.result.items _ c.keep_firsts.ensures (All-firsts P _ (All-same P _ _ c.deref.ensures.value shuffled))
