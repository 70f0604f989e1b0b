-- The digits in front of a text. No public contract speaks of them.
use Rattle.std.specs.Prelude.{◌≡◌, ◌++◌, ℕ, List, [], ◌∷◌, false}
use Rattle.std.specs.Char.{is_ascii_digit}
use Rattle.sk_base.specs.Score.{IsDigits}

-- the text doesn't begin with a digit
abbrev pub NoDigit : List ℕ → Type 0
NoDigit [] = Unit {0}
NoDigit (b ∷ text) = is_ascii_digit b ≡ false

pub record IsFrontDigits (text digits rest : List ℕ) : Type 0 where
  pub is : text ≡ digits ++ rest
  pub are_digits : IsDigits digits
  pub ends : NoDigit rest
