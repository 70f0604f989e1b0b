use Rattle.std.proofs.Common.{◌≡◌, ◌∙◌, ◌+◌, ◌-◌, ◌<◌, ◌%◌, [], ◌∷◌, ◌++◌, length, swap, ap, sym, arith, length-append}
use Rattle.std.proofs.lemmas.List.Sorted.{IsPermutation-trans, IsPermutation-swap}
use Rattle.sk_policy.proofs.Orders.{YieldsAll-more, shuffled-more}
use Rattle.sk_policy.proofs.order.shuffle.Goals as goal

pub swap-requires-clause-i_in_bounds : goal.swap-requires-clause-i_in_bounds
swap-requires-clause-i_in_bounds g c = omega (arith, c.loop-i.invariant.drawn.2, c.loop-i-test.true, c.loop-i.invariant.len)

pub swap-requires-clause-j_in_bounds : goal.swap-requires-clause-j_in_bounds
swap-requires-clause-j_in_bounds g c = omega (arith, c.loop-i.invariant.drawn.2, c.loop-i-test.true, c.loop-i.invariant.len)

pub loop-i-preserved : goal.loop-i-preserved
loop-i-preserved g c =
    let drawn = c.loop-i.invariant.drawn in
    let i = c.loop-i.i - 1 in
    let count : i + length drawn.0 ≡ length c.args.lot.items - 1 = omega (arith, drawn.2, c.loop-i-test.true) in
    let at_i : i < length c.loop-i.lot.items = omega (arith, drawn.2, c.loop-i-test.true, c.loop-i.lot.ok.0, c.loop-i.invariant.len) in
    let at_chosen : c.word.result % (i + 1) < length c.loop-i.lot.items = omega (arith, drawn.2, c.loop-i-test.true, c.loop-i.lot.ok.0, c.loop-i.invariant.len) in
    record {
      drawn = (
        drawn.0 ++ c.word.result ∷ [],
        YieldsAll-more _ drawn.0 _ c.word.result _ drawn.1 c.word.ensures,
        omega (arith, drawn.2, c.loop-i-test.true, length-append drawn.0 (c.word.result ∷ [])),
        c.swap.ensures.items ∙ (ap (λ xs. swap xs i (c.word.result % (i + 1))) drawn.3 ∙ sym (shuffled-more (length c.args.lot.items - 1) drawn.0 c.word.result c.args.lot.items i count)),
      );
      some = λ _. omega (arith, c.loop-i-test.true);
      len = omega (arith, c.swap.ensures.len, c.loop-i.invariant.len);
      same = IsPermutation-trans _ _ _ c.loop-i.invariant.same (IsPermutation-swap c.loop-i.lot.items _ i (c.word.result % (i + 1)) at_i at_chosen c.swap.ensures.items);
    }
