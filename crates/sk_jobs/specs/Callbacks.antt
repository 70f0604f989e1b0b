-- What batches are told of jobs, and the callbacks that are pushed then.
use Rattle.std.specs.Prelude.{◌≡◌, List, [], ◌∷◌, ◌++◌, Option, Some, None}
use Rattle.sk_resp.specs.Spelling.{Bytes}
use Rattle.sk_payload.specs.Head.{head}
use Rattle.sk_payload.specs.declared.head.Head.{Head}
use Rattle.sk_batch.specs.Batched.{Batched}
use Rattle.sk_batch.specs.Events.{fired, marked}
use Rattle.sk_batch.specs.Notify.{fires_of, mark_of}
use Rattle.sk_batch.specs.declared.event.Event.{Event}
use Rattle.sk_batch.specs.declared.event.Event.TheVariants.{Reported, Returned}
use Rattle.sk_batch.specs.declared.firing.Firing.{Firing}
use Rattle.sk_batch.specs.declared.member.Member.{Member}
use Rattle.sk_counters.specs.Counters.{failed, processed}
use Rattle.sk_model.specs.Change.{Change, Counts, perform}
use Rattle.sk_model.specs.Covered.{IsCovered}
use Rattle.sk_model.specs.Notify.{Notified, and_notify, push_callback, fired_texts, not_notified, notify_in}
use Rattle.sk_model.specs.Outcome.{Outcome}
use Rattle.sk_model.specs.World.{World}
use Rattle.sk_store.specs.Stored.{world}
use Rattle.sk_store.specs.declared.store.Store.{Store}

-- the callbacks of firings are pushed, one after another
abbrev pub callback_pushes : List Firing → List Change
callback_pushes [] = []
callback_pushes (f ∷ firings) = push_callback f.payload ++ callback_pushes firings

-- the member that a job is, where its head names a batch
abbrev pub member_by : Bytes → Option Bytes → Option Member
member_by jid None = None
member_by jid (Some bid) = Some (record { bid = bid; jid = jid })

abbrev pub member_in : Option Head → Option Member
member_in None = None
member_in (Some h) = member_by h.jid h.bid

abbrev pub member_of : Bytes → Option Member
member_of text = member_in (head text)

-- what the batch of a member is told, where there is one
abbrev pub notify_member : Event → World → Option Member → Notified
notify_member event w None = not_notified
notify_member event w (Some member) = notify_in event w member.jid (Some member.bid)

-- what the batch of a member fires then
abbrev pub fires_on : Event → Member → Batched → List Firing
fires_on event member = fires_of event member.bid member.jid

-- and what is kept of it and of what it fires
abbrev pub marks_on : Event → Member → Batched → Batched
marks_on event member s = fired (fires_on event member s) (marked (mark_of event) member.bid member.jid s)

-- this was told, and these texts name what was fired
pub record IsNotified (old new : World) (names : List Bytes) (told : Notified) : Type 0 where
  pub fired : names ≡ fired_texts told.firings
  pub world : new ≡ perform old told.changes

-- the batch of a member was told, and these texts name what it fired
abbrev pub Notifies : Event → Store → Option Member → List Bytes → Store → Type 0
Notifies event old member names new = IsNotified (world old) (world new) names (notify_member event (world old) member)

-- what a run counts that has raised
abbrev pub counts_failed : List Change
counts_failed = Counts processed ∷ Counts failed ∷ []

-- and one that has returned
abbrev pub counts_processed : List Change
counts_processed = Counts processed ∷ []

-- what such runs come to
abbrev pub run_failed : Bytes → World → Outcome
run_failed text w = and_notify Reported w text counts_failed

abbrev pub run_returned : Bytes → World → Outcome
run_returned text w = and_notify Returned w text counts_processed

-- the callbacks that were pushed are no more than were fired of the batches
abbrev pub AreCovered : Store → Type 0
AreCovered s = IsCovered (world s).tally.inner (world s).batches
