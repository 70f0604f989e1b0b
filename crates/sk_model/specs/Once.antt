-- What is fired of batches in every run: success, complete and death of each once, at the very step at which it comes about.
use Rattle.std.specs.Prelude.{◌≡◌, ℕ, ◌+◌, List, [], ◌∷◌, ◌++◌, filter, Option, Some, None, Bool, true, false, not, ◌&&◌, ◌||◌}
use Rattle.std.specs.Str.{bytes_eq}
use Rattle.sk_resp.specs.Spelling.{Bytes}
use Rattle.sk_cmd.specs.declared.argument.Scored.TheVariants.{Schedule, Retry, Dead}
use Rattle.sk_payload.specs.Head.{head}
use Rattle.sk_payload.specs.declared.head.Head.{Head}
use Rattle.sk_places.specs.declared.row.Place.{Place}
use Rattle.sk_places.specs.declared.row.Place.TheVariants.{Queue, Private, Set}
use Rattle.sk_batch.specs.Batched.{Batched, BatchEntry, has_bid, is_there, is_member}
use Rattle.sk_batch.specs.Fires.{callback}
use Rattle.sk_batch.specs.Ancestors.{is_under}
use Rattle.sk_batch.specs.Open.{is_reported, is_settled}
use Rattle.sk_batch.specs.declared.firing.Kind.{Kind}
use Rattle.sk_batch.specs.declared.firing.Kind.TheVariants.{Complete, Success, Death}
use Rattle.sk_model.specs.declared.limits.Limits.{Limits}
use Rattle.sk_model.specs.World.{World, first}
use Rattle.sk_places.specs.LiveJobs.{one_if}
use Rattle.sk_model.specs.Change.{Carry, PutBack, Fire, TakesSlot, Change, Moves, changed}
use Rattle.sk_places.specs.declared.origin.Origin.TheVariants.{Inner}
use Rattle.sk_model.specs.Notify.{push_callback, push_job}
use Rattle.sk_model.specs.Event.{Run, Step, after}

-- ## How often something is fired

abbrev pub same_kind : Kind → Kind → Bool
same_kind Complete Complete = true
same_kind Success Success = true
same_kind Death Death = true
same_kind kind other = false

abbrev pub times_in : Kind → Bytes → Change → ℕ
times_in kind bid (Moves (Fire other k)) = one_if (bytes_eq other bid && same_kind kind k)
times_in kind bid other = 0

-- how many of the changes fire this of the batch
abbrev pub times : Kind → Bytes → List Change → ℕ
times kind bid [] = 0
times kind bid (change ∷ changes) = times_in kind bid change + times kind bid changes

-- ## Success

-- the batch was made in between
abbrev pub is_new : Batched → Batched → Bytes → Bool
is_new before after bid = is_there bid after.batches && not (is_there bid before.batches)

-- the batch is settled now, and was made in between or wasn't settled before
abbrev pub settles : Batched → Batched → Bytes → Bool
settles before after bid = is_settled after bid && (is_new before after bid || not (is_settled before bid))

abbrev pub SuccessOnceFrom : World → List Step → Type 0
SuccessOnceFrom w [] = Unit {0}
SuccessOnceFrom w (step ∷ steps) =
    ((bid : Bytes) → times Success bid step.outcome.changes ≡ one_if (settles w.batches (after w step).batches bid)) × SuccessOnceFrom (after w step) steps

-- Success of a batch is fired once, in the step that leaves no job of it open, and in no other.
abbrev pub BatchOnce : Type 0
BatchOnce = (limits : Limits) (steps : List Step) → Run (first limits) steps → SuccessOnceFrom (first limits) steps

-- after each of these steps the batch is settled
abbrev pub AllSettled : Bytes → World → List Step → Type 0
AllSettled bid w [] = Unit {0}
AllSettled bid w (step ∷ steps) = (is_settled (after w step).batches bid ≡ true) × AllSettled bid (after w step) steps

abbrev pub SettledStaysFrom : World → List Step → Type 0
SettledStaysFrom w [] = Unit {0}
SettledStaysFrom w (step ∷ steps) =
    let v : World = after w step in
    ((bid : Bytes) → is_there bid v.batches.batches ≡ true → is_settled v.batches bid ≡ true → AllSettled bid v steps) × SettledStaysFrom v steps

-- A batch that is settled after a step is settled after every later one.
abbrev pub SettledStays : Type 0
SettledStays = (limits : Limits) (steps : List Step) → Run (first limits) steps → SettledStaysFrom (first limits) steps

-- ## Complete

-- the batch is there, and each job in it was reported
abbrev pub is_whole : Batched → Bytes → Bool
is_whole s bid = is_there bid s.batches && is_reported s bid

-- had: whether it was so after some step before these
abbrev pub CompleteOnceFrom : World → (Bytes → Bool) → List Step → Type 0
CompleteOnceFrom w had [] = Unit {0}
CompleteOnceFrom w had (step ∷ steps) =
    let v : World = after w step in
    ((bid : Bytes) → times Complete bid step.outcome.changes ≡ one_if (is_whole v.batches bid && not (had bid))) × CompleteOnceFrom v (λ bid. had bid || is_whole v.batches bid) steps

-- Complete of a batch is fired once, in the first step that leaves each job in it reported, and in no other.
abbrev pub CompleteOnce : Type 0
CompleteOnce = (limits : Limits) (steps : List Step) → Run (first limits) steps → CompleteOnceFrom (first limits) (λ bid. false) steps

-- ## Death

abbrev pub is_dead_set : Place → Bool
is_dead_set (Set Dead) = true
is_dead_set (Set Schedule) = false
is_dead_set (Set Retry) = false
is_dead_set (Queue queue) = false
is_dead_set (Private ident) = false

-- a text comes into the dead set
abbrev pub is_burial : Change → Bool
is_burial (Moves (Carry row from to score end)) = is_dead_set to
is_burial (Moves (PutBack row)) = is_dead_set row.place
is_burial other = false

-- the job of this id names this batch or one within it, and is a member of the one that it names
abbrev pub names_batch : Bytes → Batched → Bytes → Option Bytes → Bool
names_batch bid s jid None = false
names_batch bid s jid (Some inner) = is_under s.batches inner bid && is_member inner jid s.members

abbrev pub is_of_batch : Bytes → Batched → Option Head → Bool
is_of_batch bid s None = false
is_of_batch bid s (Some h) = names_batch bid s h.jid h.bid

-- the change buries a member of the batch or of one within it: its text comes into the dead set
abbrev pub buries_in : Bytes → World → Change → Bool
buries_in bid w (Moves (Carry row from to score end)) = is_dead_set to && is_of_batch bid w.batches (head row.text)
buries_in bid w (Moves (PutBack row)) = is_dead_set row.place && is_of_batch bid w.batches (head row.text)
buries_in bid w other = false

abbrev pub buries : Bytes → World → List Change → Bool
buries bid w [] = false
buries bid w (change ∷ changes) = buries_in bid w change || buries bid (changed w change) changes

-- had: whether such a member was buried in some step before these
abbrev pub DeathOnceFrom : World → (Bytes → Bool) → List Step → Type 0
DeathOnceFrom w had [] = Unit {0}
DeathOnceFrom w had (step ∷ steps) =
    ((bid : Bytes) → times Death bid step.outcome.changes ≡ one_if (buries bid w step.outcome.changes && not (had bid))) × DeathOnceFrom (after w step) (λ bid. had bid || buries bid w step.outcome.changes) steps

-- Death of a batch is fired once, in the first step that buries a member of it or of a batch within it, and in no other.
abbrev pub DeathOnce : Type 0
DeathOnce = (limits : Limits) (steps : List Step) → Run (first limits) steps → DeathOnceFrom (first limits) (λ bid. false) steps

-- ## Callbacks

abbrev pub callback_of : Kind → List BatchEntry → Option Bytes
callback_of kind [] = None
callback_of kind (b ∷ more) = callback kind b.1.callbacks

-- the callback of the batch of this id, where it has one
abbrev pub called : Kind → Bytes → Batched → Option Bytes
called kind bid s = callback_of kind (filter (has_bid bid) s.batches)

-- what is to follow a change: a firing's callback is pushed, and the job of a slot
abbrev pub called_by : World → Change → List Change
called_by w (Moves (Fire bid kind)) = push_callback (called kind bid w.batches)
called_by w (TakesSlot loop slot text) = push_job Inner text
called_by w other = []

-- these changes come first
abbrev pub Begins : List Change → List Change → Type 0
Begins first changes = (more : List Change) × (changes ≡ first ++ more)

abbrev pub CallsFollow : World → List Change → Type 0
CallsFollow w [] = Unit {0}
CallsFollow w (change ∷ changes) = Begins (called_by w change) changes × CallsFollow (changed w change) changes

abbrev pub CallsFollowFrom : World → List Step → Type 0
CallsFollowFrom w [] = Unit {0}
CallsFollowFrom w (step ∷ steps) = CallsFollow w step.outcome.changes × CallsFollowFrom (after w step) steps

-- Each firing is followed at once by the push of the batch's callback, where it has one, and each slot by the push of its job.
abbrev pub CallbacksFollow : Type 0
CallbacksFollow = (limits : Limits) (steps : List Step) → Run (first limits) steps → CallsFollowFrom (first limits) steps
