-- The parts of the leases, whose steps are opened and closed together.
use Rattle.std.specs.Prelude.{◌≡◌, List, Option}
use Rattle.std.specs.Option.{is_some}
use Rattle.sk_undo.specs.Versions.{Versions}
use Rattle.sk_leases.specs.Lease.{Lease}
use Rattle.sk_leases.specs.Locks.{Locks}
use Rattle.sk_leases.specs.Slots.{Slots}

pub record AreTogether (beats recoveries : Versions (List Lease)) (locks : Versions Locks) (leader : Versions (Option Lease)) (slots : Versions Slots) : Type 0 where
  pub recoveries_too : is_some beats.saved ≡ is_some recoveries.saved
  pub locks_too : is_some beats.saved ≡ is_some locks.saved
  pub leader_too : is_some beats.saved ≡ is_some leader.saved
  pub slots_too : is_some beats.saved ≡ is_some slots.saved
