-- The integer that a text spells, as a function of the text.
use Rattle.std.specs.Prelude.{◌^◌, ℤ, pos, negsuc, ◌-◌, [], ◌∷◌, Option, Some, None, Bool, ◌&&◌, cond, nat_lt}
use Rattle.std.specs.Str.{bytes_eq}
use Rattle.std.specs.Str.Parse.{digits_value}
use Rattle.std.specs.Fmt.{signed_decimal}
use Rattle.sk_resp.specs.Spelling.{Bytes}

-- an integer of 64 bits
abbrev pub is_i64 : ℤ → Bool
is_i64 (pos n) = nat_lt n (2 ^ 63)
is_i64 (negsuc n) = nat_lt n (2 ^ 63)

-- the integer, where it is one of 64 bits and the text is its spelling
abbrev pub if_spelled : Bytes → ℤ → Option ℤ → Option ℤ
if_spelled text z other = cond (bytes_eq text (signed_decimal z) && is_i64 z) (Some z) other

-- the one below zero, whose digits stand behind the first byte
abbrev pub int_below : Bytes → Option ℤ
int_below [] = None
int_below (sign ∷ digits) = if_spelled (sign ∷ digits) (negsuc (digits_value 10 digits - 1)) None

-- the integer of 64 bits whose one spelling the text is
unfoldable pub int_of : Bytes → Option ℤ
int_of text = if_spelled text (pos (digits_value 10 text)) (int_below text)
