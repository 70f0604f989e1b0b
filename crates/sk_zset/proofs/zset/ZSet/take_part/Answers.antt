use Rattle.std.proofs.Common.{◌≡◌, ◌-◌, ◌<◌, suc, length, sym, ap, arith, ◌∙◌}
use Rattle.std.proofs.lemmas.List.Edits.{length-remove}
use Rattle.sk_zset.specs.Pairs.{without_ranks}
use Rattle.sk_zset.proofs.Order.{without_ranks_step}
use Rattle.sk_zset.proofs.zset.ZSet.take_part.Goals as goal

pub loop-left-preserved : goal.loop-left-preserved
loop-left-preserved c =
    let here : c.args.first < length c.loop-left.self.current = omega (arith, c.loop-left.invariant.within, c.loop-left-test.true) in
    let last : c.loop-left.left ≡ suc (c.loop-left.left - 1) = omega (arith, c.loop-left-test.true) in
    let short = length-remove c.loop-left.self.current c.args.first here in
    let step = without_ranks_step c.loop-left.self.current c.args.first (c.loop-left.left - 1) here in
    rw (c.take_at.ensures.rest) (record {
      within = omega (arith, c.loop-left.invariant.within, c.loop-left-test.true, short);
      closed = c.loop-left.invariant.closed;
      rest = sym step ∙ ap (λ n. without_ranks c.args.first n c.loop-left.self.current) (sym last) ∙ c.loop-left.invariant.rest;
    })
