use Rattle.std.proofs.Common.{◌≡◌, ◌≤◌, ◌-◌}
use Rattle.std.specs.Prelude.{vec_len, vec_capacity}
use Rattle.sk_edge.proofs.connections.Connections.new.Given as goal

abbrev pub invariant-loop-descriptors : goal.invariant-loop-descriptors
invariant-loop-descriptors l = record { few : vec_len l.descriptors ≤ l.ears; room : l.ears ≤ vec_capacity l.descriptors }

abbrev pub decreases-loop-descriptors : goal.decreases-loop-descriptors
decreases-loop-descriptors l = l.ears - vec_len l.descriptors
