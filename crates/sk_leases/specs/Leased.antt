-- What the leases are: heartbeats of processes, recoveries of jobs, locks of unique jobs, the lease of the leader with the last slots of periodic jobs,
-- and what each call makes of them.
use Rattle.std.specs.Prelude.{ℕ, ◌+◌, ◌*◌, Bool, List, [], Option, Some, None, length, nat_lt, refl}
use Rattle.std.specs.Coded.{Coded, code_by, coded×, coded_list, coded_option, coded_ℕ}
use Rattle.sk_base.specs.declared.limits.TheConstants.{BEAT_LIFE, LEAD_LIFE, RECOVERY_LIFE}
use Rattle.sk_resp.specs.Spelling.{Bytes}
use Rattle.sk_leases.specs.Lease.{Lease}
use Rattle.sk_leases.specs.Lists.{count_standing, names_of, put, standing as standing_of, without}
use Rattle.sk_leases.specs.Locks.{Locks, holder, is_held_by, locks_at, with_lock, without_lock}
use Rattle.sk_leases.specs.Leader.{is_held, is_held_by_another, leader_at}
use Rattle.sk_leases.specs.Slots.{Slots, last_slot, with_slot}
use Rattle.sk_leases.specs.declared.lock.Lock.{Lock}

pub record Leased : Type 0 where
  -- the heartbeat of each process, by the idents' bytes, each ident once
  pub beats : List Lease
  -- the recoveries of jobs, by the jids' bytes and then by their deadlines
  pub recoveries : List Lease
  -- the locks of unique jobs, by the digests' bytes, each digest once
  pub locks : Locks
  -- the process that leads, with its deadline
  pub leader : Option Lease
  -- the last slot of each periodic job
  pub slots : Slots

abbrev pub nothing : Leased
nothing = record { beats = []; recoveries = []; locks = []; leader = None; slots = [] }

-- None of these outlasts its deadline. Slots have none.
abbrev pub purged : ℕ → Leased → Leased
purged now l = record l { beats = standing_of now l.beats; recoveries = standing_of now l.recoveries; locks = locks_at now l.locks; leader = leader_at now l.leader }

-- ## Heartbeats

-- a minute
abbrev pub beat_life : ℕ
beat_life = BEAT_LIFE

-- A beat takes the place of the ident's earlier one.
abbrev pub beat : Bytes → ℕ → Leased → Leased
beat ident now l = record l { beats = put (ident, now + beat_life) (without ident l.beats) }

abbrev pub is_alive : Bytes → ℕ → Leased → Bool
is_alive ident now l = nat_lt 0 (count_standing ident now l.beats)

-- who is alive
abbrev pub idents : ℕ → Leased → List Bytes
idents now l = names_of (standing_of now l.beats)

-- ## Recoveries

-- 72 hours, and one millisecond more, so that it stands 72 hours later
abbrev pub recovery_life : ℕ
recovery_life = RECOVERY_LIFE

-- a job was recovered
abbrev pub recovered : Bytes → ℕ → Leased → Leased
recovered jid now l = record l { recoveries = put (jid, now + recovery_life) l.recoveries }

-- how many recoveries of the job stand
abbrev pub standing : Bytes → ℕ → Leased → ℕ
standing jid now l = count_standing jid now l.recoveries

-- The job's recoveries are forgotten.
abbrev pub forgotten : Bytes → Leased → Leased
forgotten jid l = record l { recoveries = without jid l.recoveries }

-- ## Locks

-- who holds the lock under the digest, where one stands
abbrev pub holder_at : Bytes → ℕ → Leased → Option Bytes
holder_at digest now l = holder digest now l.locks

-- The job holds the lock under the digest for so many seconds.
abbrev pub locked : Bytes → Bytes → ℕ → ℕ → Leased → Leased
locked digest jid seconds now l = record l { locks = with_lock digest (record { jid = jid; deadline = now + 1000 * seconds }) l.locks }

-- whether the lock under the digest is the job's
abbrev pub holds : Bytes → Bytes → Leased → Bool
holds digest jid l = is_held_by digest jid l.locks

-- The job lets go of the lock under the digest; another's stays.
abbrev pub unlocked : Bytes → Bytes → Leased → Leased
unlocked digest jid l = record l { locks = without_lock digest jid l.locks }

-- ## The leader

-- half a minute
abbrev pub lead_life : ℕ
lead_life = LEAD_LIFE

-- whether the process leads
abbrev pub leads : Bytes → ℕ → Leased → Bool
leads ident now l = is_held ident now l.leader

-- whether another one does
abbrev pub is_led_by_another : Bytes → ℕ → Leased → Bool
is_led_by_another ident now l = is_held_by_another ident now l.leader

-- the process leads from now on
abbrev pub led : Bytes → ℕ → Leased → Leased
led ident now l = record l { leader = Some (ident, now + lead_life) }

-- ## Slots

abbrev pub last : Bytes → Leased → Option ℕ
last name l = last_slot name l.slots

-- how many periodic jobs have a last slot
abbrev pub loops : Leased → ℕ
loops l = length l.slots

abbrev pub marked : Bytes → ℕ → Leased → Leased
marked name slot l = record l { slots = with_slot name slot l.slots }

-- ## As contracts see it

abbrev pub leased : List Lease → List Lease → Leased
leased beats recoveries = record { beats = beats; recoveries = recoveries; locks = []; leader = None; slots = [] }

abbrev pub with_locks : Leased → Locks → Leased
with_locks l locks = record l { locks = locks }

abbrev pub with_leader : Leased → Option Lease → Leased
with_leader l leader = record l { leader = leader }

abbrev pub with_slots : Leased → Slots → Leased
with_slots l slots = record l { slots = slots }

abbrev pub lease_code : Coded Lease
lease_code = coded× (coded_list coded_ℕ) coded_ℕ

abbrev pub leases_code : Coded (List Lease)
leases_code = coded_list lease_code

abbrev pub lock_code : Coded Lock
lock_code = code_by (Bytes × ℕ) (coded× (coded_list coded_ℕ) coded_ℕ) (λ l. (l.jid, l.deadline)) (λ p. record { jid = p.0; deadline = p.1 }) (λ _. refl)

abbrev pub leased_code : Coded Leased
leased_code = code_by ((List Lease × (List Lease × Locks)) × (Option Lease × Slots))
    (coded× (coded× leases_code (coded× leases_code (coded_list (coded× (coded_list coded_ℕ) lock_code)))) (coded× (coded_option lease_code) leases_code))
    (λ l. ((l.beats, (l.recoveries, l.locks)), (l.leader, l.slots))) (λ p. record { beats = p.0.0; recoveries = p.0.1.0; locks = p.0.1.1; leader = p.1.0; slots = p.1.1 }) (λ _. refl)
