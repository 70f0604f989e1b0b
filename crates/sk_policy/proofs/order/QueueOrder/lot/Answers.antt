use Rattle.std.proofs.Common.{◌∙◌, arith}
use Rattle.sk_policy.proofs.Orders.{lot-more}
use Rattle.sk_policy.proofs.order.QueueOrder.lot.Goals as goal

pub loop-place-preserved : goal.loop-place-preserved
loop-place-preserved c =
    lot-more c.args.self.now c.loop-place.place c.loop-place.lot.items _ c.len.result _ c.from.result (omega (arith, c.loop-place.lot.ok.0, c.len.ensures)) (omega (arith, c.loop-place.lot.ok.0))
    (c.from.ensures ∙ c.weight.ensures) c.loop-place.invariant c.in_ok-resize.ensures.items
