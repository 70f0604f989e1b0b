-- The order of seats.
use Rattle.std.specs.List.Sorted.{IsStrictlySortedBy}
use Rattle.std.specs.Map.{keys_of}
use Rattle.std.specs.Ordering.{nat_cmp}
use Rattle.sk_seats.specs.Phases.{Phases}

-- by their numbers, each once
abbrev pub InOrder : Phases → Type 0
InOrder phases = IsStrictlySortedBy nat_cmp (keys_of phases)
