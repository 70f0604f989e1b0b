use Rattle.std.proofs.Common.{◌≡◌, ◌≤◌, ◌-◌}
use Rattle.std.specs.Prelude.{vec_len, vec_capacity}
use Rattle.sk_edge.proofs.tcp_door.TcpDoor.open.Given as goal

abbrev pub invariant-loop-ears : goal.invariant-loop-ears
invariant-loop-ears g l = record { few : vec_len l.ears ≤ l.loops; room : l.loops ≤ vec_capacity l.ears; same : l.self ≡ l.fn.self }

abbrev pub decreases-loop-ears : goal.decreases-loop-ears
decreases-loop-ears g l = l.loops - vec_len l.ears
