-- What is handed over and kept in order, in room that was made before.
use Rattle.std.specs.Prelude.{◌≡◌, ◌+◌, ◌-◌, ◌++◌, ℕ, List, Option, Some, None, length, if◌then◌else◌, nat_le}

pub record Collected (T : Type 0) : Type 0 where
  -- what was handed over, in the order in which it came
  pub items : List T
  -- for how many more there is room
  pub room : ℕ

-- what is told once these were handed over: nothing from then on, where there was no room for them
abbrev pub with_more : {T : Type 0} → Collected T → List T → Option (Collected T)
with_more c more =
    if nat_le (length more) c.room
    then Some (record { items = c.items ++ more; room = c.room - length more })
    else None

-- They were handed over.
abbrev pub Keeps : {T : Type 0} → Option (Collected T) → List T → Option (Collected T) → Type 0
Keeps None more after = after ≡ None
Keeps (Some before) more after = after ≡ with_more before more

-- There is room for so many more.
abbrev pub MakesRoom : {T : Type 0} → Option (Collected T) → ℕ → Option (Collected T) → Type 0
MakesRoom None count after = after ≡ None
MakesRoom (Some before) count after = after ≡ Some (record { items = before.items; room = before.room + count })
