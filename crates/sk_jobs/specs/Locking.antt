-- What the heads of unique jobs ask of the store's locks.
use Rattle.std.specs.Prelude.{ℤ, List, [], ◌∷◌, Option, Some, None}
use Rattle.sk_resp.specs.Spelling.{Bytes}
use Rattle.sk_payload.specs.declared.head.Head.{Head}
use Rattle.sk_payload.specs.declared.head.Lock.{Lock}
use Rattle.sk_model.specs.Change.{Change, Locks, Unlocks}
use Rattle.sk_payload.specs.Digest.{digest}
use Rattle.sk_resp.specs.declared.reply.Reply.TheVariants as reply
use Rattle.sk_resp.specs.declared.say.Say.TheVariants as say
use Rattle.sk_model.specs.Outcome.{Outcome}
use Rattle.sk_model.specs.Unique.{or_holder, push_or_schedule}
use Rattle.sk_model.specs.World.{World}
use Rattle.sk_leases.specs.Leased.{holder_at}
use Rattle.sk_jobs.specs.declared.locking.HeldLock.{HeldLock}
use Rattle.sk_jobs.specs.declared.locking.WantedLock.{WantedLock}

-- a job lets go of its lock, where there is one to let go of
abbrev pub lets_go : Option HeldLock → List Change
lets_go None = []
lets_go (Some lock) = Unlocks lock.digest lock.jid ∷ []

-- the lock that a job of this head wants: it has one, and is in no batch
abbrev pub wanted_by : Head → Option Lock → Option Bytes → Option WantedLock
wanted_by h None bid = None
wanted_by h (Some lock) None = Some (record { digest = digest h; jid = h.jid; seconds = lock.seconds })
wanted_by h (Some lock) (Some bid) = None

abbrev pub wanted : Option Head → Option WantedLock
wanted None = None
wanted (Some h) = wanted_by h h.lock h.bid

-- the job gets the lock, and is pushed
abbrev pub push_locked : World → Bytes → Option ℤ → WantedLock → Outcome
push_locked w text score lock = record { reply = reply.Say say.Ok; changes = Locks lock.digest lock.jid lock.seconds ∷ push_or_schedule w text score }

-- or the holder is named
abbrev pub push_wanted : World → Bytes → Option ℤ → WantedLock → Outcome
push_wanted w text score lock = or_holder (holder_at lock.digest w.moment w.leases) (push_locked w text score lock)
