-- Integers in texts. Each has one spelling: no sign but `-`, no leading zero, no `-0`.
use Rattle.std.specs.Prelude.{◌≡◌, ◌<◌, ◌^◌, ℤ, pos, negsuc, Option, Some, None}
use Rattle.std.specs.Fmt.{signed_decimal}
use Rattle.sk_resp.specs.Spelling.{Bytes}

-- an integer of 64 bits
abbrev pub IsI64 : ℤ → Type 0
IsI64 (pos n) = n < 2 ^ 63
IsI64 (negsuc n) = n < 2 ^ 63

-- the text is the spelling of that integer of 64 bits, or of none
abbrev pub IsInt : Bytes → Option ℤ → Type 0
IsInt text None = (z : ℤ) → IsI64 z → text ≡ signed_decimal z → ⊥
IsInt text (Some z) = IsI64 z × (text ≡ signed_decimal z)
