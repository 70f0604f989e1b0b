-- What calls of a source and a sink do to the bytes that these tell, and when a call may answer that it failed.
use Rattle.std.specs.Prelude.{◌≡◌, ◌⊎◌, ◌<◌, ◌≤◌, ◌-◌, ◌^◌, ◌++◌, ℕ, List, Option, Some, None, Result, OnOk, OnErr}

-- A count of faults rose. One that stands at the last value of a 64-bit counter counts as risen.
abbrev pub Rose : ℕ → ℕ → Type 0
Rose before now = (before < now) ⊎ (2 ^ 64 - 1 ≤ now)

-- The count of faults doesn't fall. An error comes only where it rose, and without one it is as before.
pub record HasCause {T E : Type 0} (before now : ℕ) (result : Result T E) : Type 0 where
  pub later : before ≤ now
  pub failed : OnErr result (Rose before now)
  pub whole : OnOk result (now ≡ before)

-- The source had these bytes in front, and has the rest left, where it tells what it has.
abbrev pub Gives : Option (List ℕ) → List ℕ → Option (List ℕ) → Type 0
Gives None bytes after = after ≡ None
Gives (Some before) bytes after = (rest : List ℕ) × (before ≡ bytes ++ rest) × (after ≡ Some rest)

-- What the sink tells now, if it still does, is what it told before and these bytes behind it.
-- So does what tells a list of anything else, as a job of its runs.
abbrev pub Takes : {T : Type 0} → Option (List T) → List T → Option (List T) → Type 0
Takes before more None = Unit {0}
Takes before more (Some after) = (told : List _) × (before ≡ Some told) × (after ≡ told ++ more)

-- some of the bytes, from their front
abbrev pub IsFront : List ℕ → List ℕ → Type 0
IsFront front bytes = (more : List ℕ) × (bytes ≡ front ++ more)

-- The sink took some of the bytes, from their front.
abbrev pub TakesFront : Option (List ℕ) → List ℕ → Option (List ℕ) → Type 0
TakesFront before bytes after = (front : List ℕ) × IsFront front bytes × Takes before front after
