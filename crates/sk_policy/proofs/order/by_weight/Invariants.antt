use Rattle.std.proofs.Common.{◌≡◌, map}
use Rattle.sk_policy.proofs.order.by_weight.Given as goal

abbrev pub invariant-loop-name : goal.invariant-loop-name
invariant-loop-name l = record {
  names : l.names.items ≡ map (λ queue. queue.0) l.yielded;
  weights : l.weights.items ≡ map (λ queue. queue.1) l.yielded;
}
