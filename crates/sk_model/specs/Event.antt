-- Runs of events, one after another: a seat hands the store a command, or is cut off, at any moment and in any order.
use Rattle.std.specs.Prelude.{◌≡◌, ℕ, List, [], ◌∷◌, Ok, Err}
use Rattle.sk_cmd.specs.Fault.{fault_say}
use Rattle.sk_cmd.specs.Reading.{Read}
use Rattle.sk_cmd.specs.Table.{IsRead}
use Rattle.sk_cmd.specs.declared.command.Command.{Command}
use Rattle.sk_model.specs.World.{World}
use Rattle.sk_model.specs.Change.{perform}
use Rattle.sk_model.specs.Outcome.{Outcome, tells}
use Rattle.sk_model.specs.Reading.{Words}
use Rattle.sk_model.specs.Step.{MayComeTo, cut}

pub data Event : Type 0 where
  -- a seat hands the store the words of a command, at a moment in milliseconds since 1970
  Ask : (seat now : ℕ) → (words : Words) → Event
  -- a seat is cut off
  Cut : (seat : ℕ) → Event

-- What words that were read so come to. A command may starve. A fault is told, want of memory to read the words among them, and nothing changes.
abbrev pub ResultsIn : World → ℕ → ℕ → Read Command → Outcome → Type 0
ResultsIn w seat now (Ok c) o = MayComeTo w seat now c o
ResultsIn w seat now (Err fault) o = o ≡ tells (fault_say fault)

-- In this world the event comes to this outcome. A cut never starves.
abbrev pub Happens : World → Event → Outcome → Type 0
Happens w (Ask seat now words) o = (r : Read Command) × IsRead words r × ResultsIn w seat now r o
Happens w (Cut seat) o = o ≡ cut seat

-- an event, and what it came to
pub record Step : Type 0 where
  pub event : Event
  pub outcome : Outcome

-- the world after a step of it
abbrev pub after : World → Step → World
after w step = perform w step.outcome.changes

-- From the world, each event comes to its outcome, in the world that the ones before it left.
abbrev pub Run : World → List Step → Type 0
Run w [] = Unit {0}
Run w (step ∷ steps) = Happens w step.event step.outcome × Run (after w step) steps

-- the world after them
abbrev pub world_after : World → List Step → World
world_after w [] = w
world_after w (step ∷ steps) = world_after (after w step) steps

-- The steps are a run that leads from the old world to the new one.
pub record Reaches (old : World) (steps : List Step) (new : World) : Type 0 where
  pub run : Run old steps
  pub new_is : new ≡ world_after old steps
