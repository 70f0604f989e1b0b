-- The world: all that the store keeps.
use Rattle.std.specs.Prelude.{ℕ, List, []}
use Rattle.sk_resp.specs.Spelling.{Bytes}
use Rattle.sk_value.specs.Keys.{Keys}
use Rattle.sk_model.specs.declared.limits.Limits.{Limits}
use Rattle.sk_places.specs.declared.row.Row.{Row}
use Rattle.sk_counters.specs.Counters.{Counters}
use Rattle.sk_places.specs.declared.totals.Totals.{Totals}
use Rattle.sk_places.specs.Totals.{no_totals}
use Rattle.sk_seats.specs.Phases.{Phases, phase_in}
use Rattle.sk_leases.specs.Leased.{Leased, nothing}
use Rattle.sk_batch.specs.Batched.{Batched}
use Rattle.sk_seats.specs.declared.phase.Phase.{Phase}

pub record World : Type 0 where
  -- what the store was made with
  pub limits : Limits
  -- the greatest moment that it was handed, in milliseconds since 1970
  pub moment : ℕ
  -- in the order of places, and at each place from left to right
  pub rows : List Row
  -- the names in `queues`, in the order of their bytes
  pub names : List Bytes
  -- the ids of the jobs that are live, in the order of their bytes
  pub live : List Bytes
  -- how many rows were ever pushed, and what became of them
  pub tally : Totals
  -- the plain keys, in the order of their names' bytes
  pub keys : Keys
  -- what the seats are doing
  pub phases : Phases
  -- how many jobs ran, and how many runs failed
  pub counters : Counters
  -- the heartbeats of worker processes, the recoveries of jobs, the locks of unique jobs, the leader, and the last slots of periodic jobs
  pub leases : Leased
  -- the batches of jobs, and what came of their members
  pub batches : Batched

-- no batch was made yet, and so many may be
abbrev pub no_batches : ℕ → Batched
no_batches most = record { most = most; batches = []; members = [] }

-- the world before the first command
abbrev pub first : Limits → World
first limits = record { limits = limits; moment = 0; rows = []; names = []; live = []; tally = no_totals; keys = []; phases = []; counters = []; leases = nothing; batches = no_batches limits.batches }

abbrev pub phase_of : World → ℕ → Phase
phase_of w seat = phase_in w.phases seat
