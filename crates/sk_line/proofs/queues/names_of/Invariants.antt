use Rattle.std.proofs.Common.{◌≡◌, map}
use Rattle.sk_line.proofs.queues.names_of.Given as goal

abbrev pub invariant-loop-name : goal.invariant-loop-name
invariant-loop-name l = l.names.items ≡ map (λ queue. queue.0) l.yielded
