-- The lease of the leader (Sidekiq's wiki, "Ent Leader Election"): one process at most holds it.
use Rattle.std.specs.Prelude.{ℕ, Bool, false, not, ◌&&◌, cond, Option, Some, None}
use Rattle.sk_resp.specs.Spelling.{Bytes}
use Rattle.sk_leases.specs.Lease.{Lease, names, stands_at}

-- the process holds the lease, which stands
abbrev pub is_held : Bytes → ℕ → Option Lease → Bool
is_held ident now None = false
is_held ident now (Some lease) = names ident lease && stands_at now lease

-- another process does
abbrev pub is_held_by_another : Bytes → ℕ → Option Lease → Bool
is_held_by_another ident now None = false
is_held_by_another ident now (Some lease) = not (names ident lease) && stands_at now lease

-- what stands at the moment
abbrev pub leader_at : ℕ → Option Lease → Option Lease
leader_at now None = None
leader_at now (Some lease) = cond (stands_at now lease) (Some lease) None
