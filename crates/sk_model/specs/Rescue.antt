-- SK.RESCUE: the jobs of processes that are gone go back to their queues (Sidekiq's wiki, "Reliability").
use Rattle.std.specs.Prelude.{ℕ, List, [], ◌∷◌, ◌++◌, Option, Some, None, Bool, false, not, filter, nat_le, cond}
use Rattle.sk_base.specs.declared.limits.TheConstants.{MOST_RECOVERIES}
use Rattle.sk_resp.specs.Spelling.{Bytes}
use Rattle.sk_cmd.specs.declared.argument.Side.TheVariants.{Right}
use Rattle.sk_payload.specs.declared.head.Head.{Head}
use Rattle.sk_leases.specs.Leased.{is_alive, standing}
use Rattle.sk_places.specs.declared.row.Place.{Place}
use Rattle.sk_places.specs.declared.row.Place.TheVariants.{Queue, Private, Set}
use Rattle.sk_places.specs.declared.row.Row.{Row}
use Rattle.sk_model.specs.World.{World}
use Rattle.sk_model.specs.Change.{Recovers, Forgets, changed}
use Rattle.sk_model.specs.Outcome.{Outcome}
use Rattle.sk_model.specs.Jobs.{Routed, each, bury, to_queue, reports}

-- the private list of a process without a heartbeat
abbrev pub is_left : World → Place → Bool
is_left w (Queue queue) = false
is_left w (Private ident) = not (is_alive ident w.moment w.leases)
is_left w (Set set) = false

-- the rows of all such lists, by the processes' identities, and in each from left to right
abbrev pub left_rows : World → List Row
left_rows w = filter (λ row. is_left w row.place) w.rows

-- A job that kills its worker again and again is buried at its third recovery within 72 hours.
abbrev pub most_recoveries : ℕ
most_recoveries = MOST_RECOVERIES

abbrev pub is_poison : World → Bytes → Bool
is_poison w jid = nat_le most_recoveries (standing jid w.moment w.leases)

-- what is buried has no recoveries any more
abbrev pub bury_poison : World → Row → Bytes → Routed
bury_poison w row jid = let sent : Routed = bury w row in record sent { changes = sent.changes ++ Forgets jid ∷ [] }

-- what becomes of a row whose recovery is noted: it goes to the right end of its queue, to be fetched first
abbrev pub recover : World → Row → Head → Routed
recover w row h = cond (is_poison w h.jid) (bury_poison w row h.jid) (to_queue Right row h)

-- A row without a head is buried.
abbrev pub rescue_row : World → Row → Option Head → Routed
rescue_row w row None = bury w row
rescue_row w row (Some h) = let sent : Routed = recover (changed w (Recovers h.jid)) row h in record sent { changes = Recovers h.jid ∷ sent.changes }

abbrev pub rescue : World → Outcome
rescue w = reports (each rescue_row w (left_rows w))
