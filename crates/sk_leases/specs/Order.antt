-- A list of leases in order.
use Rattle.std.specs.Prelude.{Bool, true, not, ◌&&◌, List, [], ◌∷◌}
use Rattle.sk_leases.specs.Lease.{Lease, precedes}

-- none of these stands before the lease
abbrev pub is_first : Lease → List Lease → Bool
is_first p [] = true
is_first p (q ∷ qs) = not (precedes q p) && is_first p qs

abbrev pub is_ordered : List Lease → Bool
is_ordered [] = true
is_ordered (p ∷ ps) = is_first p ps && is_ordered ps
