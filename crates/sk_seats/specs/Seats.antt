-- The seats as the store keeps them.
use Rattle.std.specs.Prelude.{◌≡◌, ◌≤◌}
use Rattle.std.specs.Vec.{vec_capacity, vec_len}
use Rattle.std.specs.BTreeMap.{IsOrdered}
use Rattle.std.specs.Map.{values_of}
use Rattle.std.specs.Ordering.{nat_cmp}
use Rattle.sk_seats.specs.declared.phase.Phase.TheVariants.{Plain}
use Rattle.sk_seats.specs.declared.seats.Seats.TheInside.{Inside}
use Rattle.sk_seats.specs.declared.works.Works.TheInside.{Inside as Listed}
use Rattle.sk_seats.specs.JobFilter.{CountsHands}
use Rattle.sk_seats.specs.Works.{most_works}

-- there is room for all works that a seat may have
pub record HaveRoom (works : Listed) : Type 0 where
  pub few : vec_len works.list ≤ most_works
  pub room : most_works ≤ vec_capacity works.list

-- the phases are in the order of the seats' numbers, and the filter's counts are those of the jobs in hands
pub record SeatInvariant (seats : Inside) : Type 0 where
  pub ordered : IsOrdered nat_cmp seats.phases
  pub plain : seats.plain ≡ Plain
  pub counted : CountsHands seats.in_hands (values_of seats.phases.entries)
