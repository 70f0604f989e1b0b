-- What a book that logs tells of its writing.
use Rattle.std.specs.Prelude.{◌≡◌, ℕ, List, [], ◌∷◌, Option, None, Some, Bool, true, false}
use mathlib.Core.List.{IsPrefix}
use Rattle.sk_log.specs.File.{Body}
use Rattle.sk_commit.specs.Shared.{Backed}
use Rattle.sk_model.specs.Event.{Event}
use Rattle.sk_model.specs.World.{World}
use Rattle.sk_desk.specs.Writing.{IsWritten, Writing}
use Rattle.sk_aof.specs.Bodies.{MayStand, body_of}

-- The body is the event's, which may stand in a file.
abbrev pub SpellsBody : Event → Body → Type 0
SpellsBody event body = MayStand event × (body ≡ body_of event)

-- what was written, unless nothing can be any more
abbrev pub writing_in : Bool → Backed → Option Writing
writing_in true backed = None
writing_in false backed = Some (record { bodies = backed.history; draft = backed.draft })

-- They are what a log keeps of some run from the start.
abbrev pub IsKeptLog : World → List Body → Type 0
IsKeptLog start bodies = (w : World) × IsWritten SpellsBody start w bodies

-- This holds of them, and of no others.
abbrev pub TellsOf : World → (List Body → Type 0) → Type 0
TellsOf start Holds = (bodies : List Body) → (IsKeptLog start bodies → Holds bodies) × (Holds bodies → IsKeptLog start bodies)

-- how much a store had logged when it was asked, and the number under which it was
pub record Marked : Type 0 where
  pub history : List Body
  pub number : ℕ

-- what a settler asked for and what was stored when it last settled, and how often it has settled and failed to
pub record SettlerView : Type 0 where
  pub mark : Option Marked
  pub durable : Option (List Body)
  pub settled : ℕ
  pub faults : ℕ

-- What was stored is what a log keeps of some run from the start.
abbrev pub KeepsLog : World → Option (List Body) → Type 0
KeepsLog start None = ⊥
KeepsLog start (Some durable) = IsKeptLog start durable

-- All of the mark, which bears this number, is in what was stored.
abbrev pub Has : ℕ → Option Marked → List Body → Type 0
Has number None durable = ⊥
Has number (Some mark) durable = (mark.number ≡ number) × IsPrefix mark.history durable

abbrev pub StoresAll : ℕ → Option Marked → Option (List Body) → Type 0
StoresAll number mark None = ⊥
StoresAll number mark (Some durable) = Has number mark durable

-- What was stored when a settler last settled is what a log keeps. Where it always waits, all that was logged then is in that: the mark is of this settle.
pub record IsStored (waits : Bool) (start : World) (s : SettlerView) : Type 0 where
  pub kept : KeepsLog start s.durable
  pub all : waits ≡ true → StoresAll s.settled s.mark s.durable

-- A command's draft waits behind what was written.
pub record HasDraft (event : Event) (old new : Option Writing) : Type 0 where
  pub body : Body
  pub spelled : SpellsBody event body
  pub kept : List Body
  pub was : old ≡ Some (record { bodies = kept; draft = [] })
  pub is : new ≡ Some (record { bodies = kept; draft = body ∷ [] })
