-- The next seat that isn't Plain, upwards by number.
use Rattle.std.specs.Prelude.{◌≡◌, ◌<◌, ◌≤◌, ℕ, [], ◌∷◌, Option, Some, None, true, false, cond, ⊤}
use Rattle.sk_seats.specs.Phases.{Phases, is_plain, phase_in}

-- above this seat, if one is given
abbrev pub IsAbove : Option ℕ → ℕ → Type 0
IsAbove None seat = ⊤
IsAbove (Some after) seat = after < seat

-- a seat above it that isn't Plain
pub record IsJoinedAbove (phases : Phases) (after : Option ℕ) (seat : ℕ) : Type 0 where
  pub above : IsAbove after seat
  pub joined : is_plain (phase_in phases seat) ≡ false

-- the least of them, and None exactly where there is none
abbrev pub IsNext : Phases → Option ℕ → Option ℕ → Type 0
IsNext phases after None = (seat : ℕ) → IsAbove after seat → is_plain (phase_in phases seat) ≡ true
IsNext phases after (Some next) = IsJoinedAbove phases after next × ((seat : ℕ) → IsJoinedAbove phases after seat → next ≤ seat)

-- the first that is listed and isn't Plain
abbrev pub first_joined : Phases → Option ℕ
first_joined [] = None
first_joined (p ∷ phases) = cond (is_plain p.1) (first_joined phases) (Some p.0)
