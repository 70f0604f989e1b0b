-- The lease of the leader with its step, as it is kept.
use Rattle.std.specs.Prelude.{Option, Some, None}
use Rattle.sk_undo.specs.Versions.{Versions}
use Rattle.sk_leases.specs.Lease.{Lease}
use Rattle.sk_leases.specs.declared.leader.Leader.TheInside.{Inside}
use Rattle.sk_leases.specs.declared.leader.Saved.{Saved}
use Rattle.sk_leases.specs.declared.leader.Saved.TheVariants.{Closed, Same, Was}

abbrev pub saved_lease : Option Lease → Saved → Option (Option Lease)
saved_lease now Closed = None
saved_lease now Same = Some now
saved_lease now (Was before) = Some before

abbrev pub leader_in : Inside → Versions (Option Lease)
leader_in l = record { current = l.lease; saved = saved_lease l.lease l.saved }
