use Rattle.std.proofs.Common.{◌++◌, take, ◌∙◌}
use Rattle.sk_base.proofs.OutsideLaws.{takes_more, front_and_piece}
use Rattle.sk_base.proofs.sink.write_all.Goals as goal

pub loop-rest-preserved : goal.loop-rest-preserved
loop-rest-preserved g c =
    let front = c.loop-rest.invariant.front in
    record {
      front = (front.0 ++ take c.in_ok-n.n c.loop-rest.rest.now, front_and_piece _ front.0 c.loop-rest.rest.now c.in_ok-n.n front.1, takes_more _ front.0 _ (take c.in_ok-n.n c.loop-rest.rest.now) _ front.2 c.in_ok-n.ensures.told);
      count = c.in_ok-n.ensures.cause.whole ∙ c.loop-rest.invariant.count;
      beside = c.in_ok-n.ensures.beside ∙ c.loop-rest.invariant.beside;
    }
