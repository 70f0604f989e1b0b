-- What it is to perform deeds: the events are these, each save among them was answered `+OK`, or a fault broke them off.
use Rattle.std.specs.Prelude.{◌≡◌, ◌∷◌, ◌++◌, [], ℕ, Bool, true, false, List, Option, Result, Ok, Err, map}
use Rattle.std.specs.List.{list_all}
use Rattle.sk_resp.specs.Spelling.{Bytes}
use Rattle.sk_resp.specs.declared.reply.Reply.{Reply}
use Rattle.sk_link.specs.Asking.{is_okay}
use Rattle.sk_link.specs.Call.{Call}
use Rattle.sk_link.specs.declared.link.LinkFault.{LinkFault}
use Rattle.sk_iter.specs.Deeds.{Deed, deed_of, saves}
use Rattle.sk_iter.specs.Event.{Did, Event, ItemRun, asked, ran}
use Rattle.sk_iter.specs.Request.{set_words}
use Rattle.sk_iter.specs.declared.iter_end.IterFault.{IterFault}
use Rattle.sk_iter.specs.declared.iter_end.IterFault.TheVariants as fault

-- a request was answered `+OK`
abbrev pub is_accepted : Result Reply LinkFault → Bool
is_accepted (Ok r) = is_okay r
is_accepted (Err f) = false

-- and an item was run
abbrev pub is_kept : Event → Bool
is_kept (asked call) = is_accepted call.reply
is_kept (ran run) = true

-- The events do the first of these deeds, and leave those.
pub record Front (events : List Event) (left deeds : List Deed) : Type 0 where
  pub are : map deed_of events ++ left ≡ deeds
  pub kept : list_all is_kept events ≡ true

-- The events do a front of these deeds, up to a save, of which this came.
pub record EndsAtSave (jid : Bytes) (deeds : List Deed) (events : List Event) (reply : Result Reply LinkFault) : Type 0 where
  pub done : List Event
  pub next : ℕ
  pub left : List Deed
  pub front : Front done (saves jid next ∷ left) deeds
  pub are : events ≡ done ++ asked (record { request = set_words jid next; reply = reply }) ∷ []

-- How the events end, by the result: with the last deed; at a save that was lost, or whose reply isn't `+OK`; or for want of memory between two deeds.
abbrev pub EndsIn : {T : Type 0} → Bytes → List Deed → List Event → Result T IterFault → Type 0
EndsIn jid deeds events (Ok x) = Front events [] deeds
EndsIn jid deeds events (Err (fault.Cursor r)) = ⊥
EndsIn jid deeds events (Err (fault.Link f)) = EndsAtSave jid deeds events (Err f)
EndsIn jid deeds events (Err (fault.Refused r)) = EndsAtSave jid deeds events (Ok r) × (is_okay r ≡ false)
EndsIn jid deeds events (Err fault.Memory) = (left : List Deed) × Front events left deeds

-- The deeds were performed over a link and with items that tell their runs, or broken off.
abbrev pub Performs : {T : Type 0} → (List Call → Type 0) → Option (List ItemRun) → Option (List ItemRun) → Bytes → List Deed → Result T IterFault → Type 0
Performs Carried before after jid deeds result = (events : List Event) × Did Carried before after events × EndsIn jid deeds events result

-- They were, and no item was run.
abbrev pub Sends : {T : Type 0} → (List Call → Type 0) → Bytes → List Deed → Result T IterFault → Type 0
Sends Carried jid deeds result = (told : Option (List ItemRun)) → Performs Carried told told jid deeds result
