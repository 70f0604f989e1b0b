-- When two sides of a tree are balanced by their numbers of items.
use Rattle.std.specs.Prelude.{ℕ, ◌+◌, ◌*◌, ◌≤◌, ◌^◌}

-- the most items that a sequence may have
abbrev pub most : ℕ
most = 2 ^ 60

-- No side has more than three times the places of the other, where a side of n items has n + 1 places. An edit may leave a slack of three
-- until the two are joined again.
abbrev pub DifferBy : ℕ → ℕ → ℕ → Type 0
DifferBy slack l r = (l + 1 ≤ 3 * (r + 1) + slack) × (r + 1 ≤ 3 * (l + 1) + slack)
