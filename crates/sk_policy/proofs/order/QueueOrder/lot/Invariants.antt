use Rattle.std.proofs.Common.{◌≡◌, replicate}
use Rattle.std.specs.List.{range_with_len, flat_map}
use Rattle.sk_policy.specs.Order.{weight_at}
use Rattle.sk_policy.proofs.order.QueueOrder.lot.Given as goal

abbrev pub invariant-loop-place : goal.invariant-loop-place
invariant-loop-place l = l.lot.items ≡ flat_map (λ place. replicate (weight_at l.self place) place) (range_with_len 0 l.place)
