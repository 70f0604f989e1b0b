-- What a clock and a dice tell of the values that they are going to give, counted from 0.
use Rattle.std.specs.Prelude.{◌≡◌, ◌+◌, ℕ, List, [], ◌∷◌, Option, Some, None, IsSomeAnd}

-- It gave its first value, and the others moved up by one.
abbrev pub Yields : Option (ℕ → ℕ) → ℕ → Option (ℕ → ℕ) → Type 0
Yields None value after = after ≡ None
Yields (Some next) value after = (value ≡ next 0) × IsSomeAnd after (λ later. (n : ℕ) → later n ≡ next (n + 1))

-- It gave these values, in order.
abbrev pub YieldsAll : Option (ℕ → ℕ) → List ℕ → Option (ℕ → ℕ) → Type 0
YieldsAll before [] after = after ≡ before
YieldsAll before (value ∷ values) after = (mid : Option (ℕ → ℕ)) × Yields before value mid × YieldsAll mid values after
