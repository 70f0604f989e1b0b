-- What time it is by two clocks: a wall clock, which the system may set, and a steady one, which only goes on.
use Rattle.std.specs.Prelude.{◌≡◌, ◌+◌, ◌-◌, ◌≤◌, ◌^◌, ℕ, Option, Some, None, min}
use Rattle.sk_edge.specs.declared.reading.Reading.{Reading}
use Rattle.sk_edge.specs.declared.reading.TheConstants.{STEP_THRESHOLD}
use Rattle.sk_edge.specs.declared.discipline.TheConstants.{STEPOUT}

pub record Disciplined : Type 0 where
  -- the last moment that was told, and when that was by the steady clock
  pub told : Reading
  -- the first reading of another time, which those behind it go on from
  pub other : Option Reading

-- what the wall clock tells at a moment of the steady one, where it went on from a reading as that did
abbrev pub expected : Reading → ℕ → ℕ
expected from steady = min (from.wall + (steady - from.steady)) (2 ^ 64 - 1)

-- From the one reading to the other the wall clock went on as the steady one, but for the step threshold.
abbrev pub GoesOn : Reading → Reading → Type 0
GoesOn from now =
    (now.wall ≤ expected from now.steady + STEP_THRESHOLD) × (expected from now.steady ≤ now.wall + STEP_THRESHOLD)

-- The wall clock has told another time, and gone on from it, for as long as the stepout.
abbrev pub Lasts : Option Reading → Reading → Type 0
Lasts None now = ⊥
Lasts (Some first) now = GoesOn first now × (first.steady + STEPOUT ≤ now.steady)

-- the other time that the wall clock tells: as before, where it went on from it, and else this one
pub record IsOther (before : Option Reading) (now : Reading) (after : Option Reading) : Type 0 where
  pub kept : (first : Reading) → before ≡ Some first → GoesOn first now → after ≡ Some first
  pub fresh : ((first : Reading) → before ≡ Some first → GoesOn first now → ⊥) → after ≡ Some now
