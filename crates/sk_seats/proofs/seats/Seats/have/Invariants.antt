use Rattle.std.proofs.Common.{◌≡◌}
use Rattle.std.specs.List.{list_any}
use Rattle.sk_seats.specs.Phases.{has, some_has}
use Rattle.sk_seats.proofs.seats.Seats.have.Given as goal

-- if a seat has the job, it is one of those that are left
abbrev pub invariant-loop-phase : goal.invariant-loop-phase
invariant-loop-phase l = list_any (has l.jid) l.phase-iterator ≡ some_has l.jid l.self
