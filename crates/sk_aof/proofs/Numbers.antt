-- A number behind a word.
use Rattle.std.proofs.Common.{arith, ◌≡◌, ◌≤◌, ◌<◌, ◌-◌, ◌^◌, ℕ, [], ◌∷◌, length, get_or, ap}
use Rattle.std.specs.Prelude.{ℤ, pos, negsuc, Option, Some, None}
use Rattle.std.specs.Fmt.{decimal, signed_decimal}
use Rattle.std.proofs.lemmas.Fmt.{decimal_injective, signed_decimal_injective}
use Rattle.sk_resp.specs.Spelling.{Bytes}
use Rattle.sk_resp.specs.Number.{IsInt}
use Rattle.sk_resp.specs.Request.{Command}
use Rattle.sk_aof.specs.Read.{IsNumbered, IsSeat, natural}

pub numbered : (word text : Bytes) (z : Option ℤ) → IsInt text z → IsNumbered word (word ∷ text ∷ []) (natural z)
numbered word text None is = λ n small same. let e : text ≡ signed_decimal (pos n) = cc same in is (pos n) small e
numbered word text (Some (pos n)) is = (is.0, ap (λ (t : Bytes). word ∷ t ∷ []) is.1)
numbered word text (Some (negsuc n)) is = λ m small same.
    let e : signed_decimal (negsuc n) ≡ signed_decimal (pos m) = cc (same, is.1) in
    cc (signed_decimal_injective (negsuc n) (pos m) (omega (arith, is.0)) (omega (arith, small)) e)

pub too_great : (word : Bytes) (words : Command) (n : ℕ) → 2 ^ 32 - 1 < n → IsNumbered word words (Some n) → IsSeat word words None
too_great word words n great is = λ m small same.
    let e : decimal n ≡ decimal m = cc (same, is.1) in
    absurd (omega (arith, great, small, decimal_injective n m (omega (arith, is.0)) (omega (arith, small)) e))

pub two_words : (words : Command) (first text : Bytes) → 2 ≤ length words → length words < 3 → first ≡ get_or words 0 first → text ≡ get_or words 1 text → words ≡ first ∷ text ∷ []
two_words [] first text some few f t = absurd (omega arith)
two_words (a ∷ []) first text some few f t = absurd (omega arith)
two_words (a ∷ b ∷ []) first text some few f t = cc (f, t)
two_words (a ∷ b ∷ d ∷ words) first text some few f t = absurd (omega arith)
