use Rattle.std.proofs.Common.{ℕ, ◌<◌}
use Rattle.sk_policy.specs.Order.{IsQueue}
use Rattle.sk_policy.proofs.order.QueueOrder.check.Given as goal

abbrev pub invariant-loop-place : goal.invariant-loop-place
invariant-loop-place l = (k : ℕ) → k < l.place → IsQueue l.self k
