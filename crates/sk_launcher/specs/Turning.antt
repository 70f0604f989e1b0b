-- Turns in a thread, one after another, until one has a fault. `Turn a result b` says that a turn with this result led from one state to the other.
use Rattle.std.specs.Prelude.{◌≤◌, ℕ, List, [], ◌∷◌, Result, Ok, Err}

-- Turns with these answers, the latest first, led from one state to the other.
pub data Turns {S Answer Fault : Type 0} (Turn : S → Result Answer Fault → S → Type 0) (from : S) : List Answer → S → Type 0 where
  none : Turns Turn from [] from
  one_more : (answers : List Answer) (mid to : S) (answer : Answer) → Turns Turn from answers mid → Turn mid (Ok answer) to →
      Turns Turn from (answer ∷ answers) to

-- Turns were taken, and the last of them had a fault or not.
pub data WentOn {S Answer Fault : Type 0} (Turn : S → Result Answer Fault → S → Type 0) (from to : S) : Type 0 where
  whole : (answers : List Answer) → Turns Turn from answers to → WentOn Turn from to
  broken : (answers : List Answer) (last : S) (fault : Fault) → Turns Turn from answers last → Turn last (Err fault) to → WentOn Turn from to

-- It went on, and took no more than so many turns in all.
pub record Advances {X : Type 0} (went_on : X → X → Type 0) (taken : X → ℕ) (turns : ℕ) (a b : X) : Type 0 where
  pub goes_on : went_on a b
  pub most : taken a ≤ turns → taken b ≤ turns
