use Rattle.std.proofs.Common.{◌≡◌, replicate}
use Rattle.std.specs.Map.{values_of}
use Rattle.sk_seats.specs.JobFilter.{with_phases}
use Rattle.sk_seats.proofs.seats.counted.Given as goal

-- the phases that are left lead to the same counts
abbrev pub invariant-loop-phase : goal.invariant-loop-phase
invariant-loop-phase l = with_phases l.phase-iterator l.filter ≡ with_phases (values_of l.phases.entries) (replicate l.size 0)
