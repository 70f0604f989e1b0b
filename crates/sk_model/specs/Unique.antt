-- Unique jobs: SK.UPUSH, and when their locks end (Sidekiq's wiki, "Ent Unique Jobs").
use Rattle.std.specs.Prelude.{ℤ, List, [], ◌∷◌, Option, Some, None, Bool, true, false, cond}
use Rattle.sk_resp.specs.Spelling.{Bytes}
use Rattle.sk_resp.specs.declared.reply.Reply.TheVariants as reply
use Rattle.sk_resp.specs.declared.say.Say.TheVariants as say
use Rattle.sk_resp.specs.declared.refusal.Refusal.TheVariants.{BadPayload}
use Rattle.sk_cmd.specs.declared.argument.Scored.TheVariants.{Schedule}
use Rattle.sk_payload.specs.Head.{head}
use Rattle.sk_payload.specs.declared.head.Head.{Head}
use Rattle.sk_payload.specs.declared.head.Lock.{Lock}
use Rattle.sk_payload.specs.declared.head.Until.{Until}
use Rattle.sk_payload.specs.declared.head.Until.TheVariants.{Start, Success}
use Rattle.sk_leases.specs.Leased.{holder_at}
use Rattle.sk_places.specs.declared.origin.Origin.TheVariants.{Outside}
use Rattle.sk_model.specs.World.{World}
use Rattle.sk_model.specs.Change.{Change, Locks, Unlocks}
use Rattle.sk_payload.specs.Digest.{digest}
use Rattle.sk_model.specs.Outcome.{Outcome, says, refuses}
use Rattle.sk_model.specs.Room.{where_room}
use Rattle.sk_model.specs.Sets.{add_one}
use Rattle.sk_model.specs.Notify.{push_job}

-- ## SK.UPUSH

-- the text goes to the left end of its queue, or into the schedule with a score
abbrev pub push_or_schedule : World → Bytes → Option ℤ → List Change
push_or_schedule w text None = push_job Outside text
push_or_schedule w text (Some score) = add_one w Schedule (score, text) ∷ []

-- The job gets the lock under its digest, from now on, and is pushed.
abbrev pub push_locked : World → Head → Lock → Bytes → Option ℤ → Outcome
push_locked w h lock text score = record { reply = reply.Say say.Ok; changes = Locks (digest h) h.jid lock.seconds ∷ push_or_schedule w text score }

-- where another job holds the lock nothing changes, and the reply names it
abbrev pub or_holder : Option Bytes → Outcome → Outcome
or_holder None o = o
or_holder (Some jid) o = says (reply.Bulk jid)

-- a unique job has a lock, and is in no batch
abbrev pub unique_push_of : World → Bytes → Option ℤ → Head → Option Lock → Option Bytes → Outcome
unique_push_of w text score h None bid = refuses BadPayload
unique_push_of w text score h (Some lock) None = where_room w (text ∷ []) (or_holder (holder_at (digest h) w.moment w.leases) (push_locked w h lock text score))
unique_push_of w text score h (Some lock) (Some bid) = refuses BadPayload

abbrev pub unique_push_by : World → Bytes → Option ℤ → Option Head → Outcome
unique_push_by w text score None = refuses BadPayload
unique_push_by w text score (Some h) = unique_push_of w text score h h.lock h.bid

abbrev pub unique_push : World → Bytes → Option ℤ → Outcome
unique_push w text score = unique_push_by w text score (head text)

-- ## The end of a lock

abbrev pub is_until : Until → Until → Bool
is_until Success Success = true
is_until Start Start = true
is_until until other = false

abbrev pub unlocks_at : Until → Head → Option Lock → List Change
unlocks_at until h None = []
unlocks_at until h (Some lock) = cond (is_until until lock.until) (Unlocks (digest h) h.jid ∷ []) []

abbrev pub unlocks_of : Until → Option Head → List Change
unlocks_of until None = []
unlocks_of until (Some h) = unlocks_at until h h.lock

-- a job that came so far lets go of its lock, if its head says that the lock stands until then
abbrev pub unlocks : Until → Bytes → List Change
unlocks until text = unlocks_of until (head text)
