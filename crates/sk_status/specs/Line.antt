-- The lines of a text of numbers.
use Rattle.std.specs.Prelude.{ℕ, [], ◌∷◌, ◌++◌}
use Rattle.std.specs.Fmt.{decimal}
use Rattle.sk_resp.specs.Spelling.{Bytes, lf}

-- a name, a blank, a decimal number and LF
abbrev pub line : Bytes → ℕ → Bytes
line name n = name ++ 32 ∷ (decimal n ++ lf ∷ [])
