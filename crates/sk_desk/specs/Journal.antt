-- Entries that record a run of the store.
use Rattle.std.specs.Prelude.{◌≡◌, ℕ, List, [], ◌∷◌, ◌++◌}
use Rattle.sk_resp.specs.declared.reply.Reply.{Reply}
use Rattle.sk_model.specs.World.{World, first}
use Rattle.sk_model.specs.Event.{Event, Ask, Cut, Step, Reaches}
use Rattle.sk_model.specs.Reliable.{IsReliable}
use Rattle.sk_desk.specs.declared.entry.Deed.{Deed}
use Rattle.sk_desk.specs.declared.entry.Deed.TheVariants as deed
use Rattle.sk_desk.specs.declared.entry.Entry.{Entry}
use Rattle.sk_desk.specs.Log.{IsText}

-- the event that a seat's deed is
abbrev pub event_of : ℕ → Deed → Event
event_of seat (deed.Ask ask) = Ask seat ask.now ask.request
event_of seat deed.Cut = Cut seat

-- what is kept of the event's reply is its text
abbrev pub KeepsReply : Deed → Reply → Type 0
KeepsReply (deed.Ask ask) answer = IsText answer ask.reply
KeepsReply deed.Cut answer = Unit {0}

-- The entry records the step: its event, and the text of its reply, where that is kept.
pub record Records (e : Entry) (step : Step) : Type 0 where
  pub event_is : step.event ≡ event_of e.seat e.deed
  pub reply : KeepsReply e.deed step.outcome.reply

-- each entry records the step at its place
abbrev pub RecordsAll : List Entry → List Step → Type 0
RecordsAll [] [] = Unit {0}
RecordsAll (e ∷ entries) (step ∷ steps) = Records e step × RecordsAll entries steps
RecordsAll [] (step ∷ steps) = ⊥
RecordsAll (e ∷ entries) [] = ⊥

-- The entries record a run of the store, from the start to this world; and behind each run that led from the first world to the start, all that holds
-- of every run holds of the two together.
pub record IsJournal (start : World) (entries : List Entry) (w : World) : Type 0 where
  pub steps : List Step
  pub records : RecordsAll entries steps
  pub leads : Reaches start steps w
  pub reliable : (before : List Step) → Reaches (first start.limits) before start → IsReliable start.limits (before ++ steps)
