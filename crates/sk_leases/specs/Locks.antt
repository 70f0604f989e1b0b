-- The locks of unique jobs (Sidekiq's wiki, "Ent Unique Jobs"): under a digest at most one, with the job that holds it.
use Rattle.std.specs.Prelude.{ℕ, Bool, false, not, nat_lt, cond, bytes_eq, List, filter, Option, Some, None}
use Rattle.std.specs.BTreeMap.{insert_entry, is_at}
use Rattle.std.specs.Map.{lookup, remove_entry}
use Rattle.sk_resp.specs.Spelling.{Bytes}
use Rattle.sk_resp.specs.WordOrder.{text_cmp}
use Rattle.sk_leases.specs.declared.lock.Lock.{Lock}

-- the digests in the order of their bytes, each with its lock
abbrev pub Locks : Type 0
Locks = List (Bytes × Lock)

-- the lock that is kept under the digest
abbrev pub lock_under : Bytes → Locks → Option Lock
lock_under digest locks = lookup (is_at (text_cmp digest)) locks

-- It stands while the moment is below its deadline.
abbrev pub stands_until : ℕ → Lock → Bool
stands_until now lock = nat_lt now lock.deadline

-- one is kept, and the moment has reached its deadline
abbrev pub is_over_in : ℕ → Option Lock → Bool
is_over_in now None = false
is_over_in now (Some lock) = not (stands_until now lock)

abbrev pub holder_of : ℕ → Option Lock → Option Bytes
holder_of now None = None
holder_of now (Some lock) = cond (stands_until now lock) (Some lock.jid) None

-- the job that holds the lock under the digest, where one stands
abbrev pub holder : Bytes → ℕ → Locks → Option Bytes
holder digest now locks = holder_of now (lock_under digest locks)

abbrev pub has_holder : Bytes → Option Lock → Bool
has_holder jid None = false
has_holder jid (Some lock) = bytes_eq lock.jid jid

-- the lock under the digest is this job's
abbrev pub is_held_by : Bytes → Bytes → Locks → Bool
is_held_by digest jid locks = has_holder jid (lock_under digest locks)

-- a lock is made
abbrev pub with_lock : Bytes → Lock → Locks → Locks
with_lock digest lock locks = insert_entry text_cmp locks digest lock

-- It goes where the job is its holder.
abbrev pub without_lock : Bytes → Bytes → Locks → Locks
without_lock digest jid locks = cond (is_held_by digest jid locks) (remove_entry (is_at (text_cmp digest)) locks) locks

-- what stands at the moment
abbrev pub locks_at : ℕ → Locks → Locks
locks_at now locks = filter (λ entry. stands_until now entry.1) locks
