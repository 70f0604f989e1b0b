-- The index of the locks' deadlines, which is like that of the other leases.
use Rattle.std.specs.Prelude.{◌≡◌, ℕ, Bool, cond, bytes_eq, List, map, Option, Some, None}
use Rattle.std.specs.BTreeSet.{BTreeSet}
use Rattle.sk_resp.specs.Spelling.{Bytes}
use Rattle.sk_leases.specs.Index.{Expiry, TakesOver, covers}
use Rattle.sk_leases.specs.Lease.{Lease}
use Rattle.sk_leases.specs.Locks.{Locks, lock_under, locks_at}
use Rattle.sk_leases.specs.declared.lock.Lock.{Lock}

-- a lock as a lease of its digest
abbrev pub lease_of : Bytes × Lock → Lease
lease_of entry = (entry.0, entry.1.deadline)

abbrev pub leases_of : Locks → List Lease
leases_of locks = map lease_of locks

-- The index has the deadline of each of these.
abbrev pub covers_locks : BTreeSet Expiry → Locks → Bool
covers_locks expiries locks = covers expiries (leases_of locks)

-- The lock under the digest is gone where it is over, and no other.
pub record TakesLock (digest : Bytes) (now : ℕ) (before after : Locks) : Type 0 where
  pub standing : locks_at now after ≡ locks_at now before
  pub leases : TakesOver digest now (leases_of before) (leases_of after)

-- the deadline of a lock that the job holds
abbrev pub deadline_by : Bytes → Option Lock → Option ℕ
deadline_by jid None = None
deadline_by jid (Some lock) = cond (bytes_eq lock.jid jid) (Some lock.deadline) None

abbrev pub deadline_of : Bytes → Bytes → Locks → Option ℕ
deadline_of digest jid locks = deadline_by jid (lock_under digest locks)
