-- A text spells one integer at most, so the relation between texts and integers is a function.
use Rattle.std.proofs.Common.{◌≡◌, ◌-◌, ◌<◌, ◌^◌, ℕ, [], ◌∷◌, sym, ap, ◌∙◌, arith, suc, refl, Bool, true, false}
use Rattle.std.specs.Prelude.{ℤ, pos, negsuc, Option, Some, None, cond, ◌&&◌}
use Rattle.std.specs.Str.{bytes_eq}
use Rattle.std.specs.Str.Parse.{digits_value}
use Rattle.std.specs.Fmt.{decimal, signed_decimal}
use Rattle.std.proofs.lemmas.Fmt.{decimal_is_IsNumeral}
use Rattle.std.proofs.lemmas.Slice.Eq.{bytes_eq-Decides}
use Rattle.sk_resp.specs.Number.{IsI64, IsInt}
use Rattle.sk_resp.specs.Spelling.{Bytes}
use Rattle.sk_resp.proofs.Integers.{no_minus}
use Rattle.sk_value.specs.Number.{int_of, int_below, if_spelled, is_i64}

value_of : (n : ℕ) (digits : Bytes) → n < 2 ^ 64 → digits ≡ decimal n → digits_value 10 digits ≡ n
value_of n digits fits e = ap (digits_value 10) e ∙ (decimal_is_IsNumeral n fits).1

eq_true : (xs ys : Bytes) → xs ≡ ys → bytes_eq xs ys ≡ true
eq_true xs ys e = (bytes_eq-Decides xs ys).1 e

fits_true : (z : ℤ) → IsI64 z → is_i64 z ≡ true
fits_true (pos n) fits = grind (arith, fits)
fits_true (negsuc n) fits = grind (arith, fits)

true_fits : (z : ℤ) → is_i64 z ≡ true → IsI64 z
true_fits (pos n) e = grind (arith, e)
true_fits (negsuc n) e = grind (arith, e)

spelled : (z : ℤ) (text : Bytes) (other : Option ℤ) → IsI64 z → text ≡ signed_decimal z → if_spelled text z other ≡ Some z
spelled z text other fits e = grind (arith, fits_true z fits, eq_true text (signed_decimal z) e)

not_both : (a b : Bool) (z : ℤ) (other : Option ℤ) → (a ≡ true → b ≡ true → ⊥) → cond (a && b) (Some z) other ≡ other
not_both true true z other none = absurd (none refl refl)
not_both true false z other none = refl
not_both false b z other none = refl

not_spelled : (z : ℤ) (text : Bytes) (other : Option ℤ) → (IsI64 z → text ≡ signed_decimal z → ⊥) → if_spelled text z other ≡ other
not_spelled z text other none =
    not_both (bytes_eq text (signed_decimal z)) (is_i64 z) z other (λ same fits. none (true_fits z fits) ((bytes_eq-Decides text (signed_decimal z)).0 same))

below_is : (text : Bytes) (n : ℕ) → n < 2 ^ 63 → text ≡ signed_decimal (negsuc n) → int_below text ≡ Some (negsuc n)
below_is [] n fits e = grind (arith, e)
below_is (sign ∷ digits) n fits e =
    let behind : digits ≡ decimal (suc n) = cc e in
    let value = value_of (suc n) digits (omega arith) behind in
    let same : digits_value 10 digits - 1 ≡ n = omega (arith, value) in
    ap (λ m. if_spelled (sign ∷ digits) (negsuc m) None) same ∙ spelled (negsuc n) (sign ∷ digits) None fits e

below_none : (text : Bytes) → IsInt text None → int_below text ≡ None
below_none [] none = grind arith
below_none (sign ∷ digits) none = not_spelled (negsuc (digits_value 10 digits - 1)) (sign ∷ digits) None (none (negsuc (digits_value 10 digits - 1)))

pub int_of_at : (z : ℤ) (text : Bytes) → IsI64 z → text ≡ signed_decimal z → int_of text ≡ Some z
unfolding int_of
int_of_at (pos n) text fits e =
    ap (λ m. if_spelled text (pos m) (int_below text)) (value_of n text (omega (arith, fits)) e) ∙ spelled (pos n) text (int_below text) fits e
int_of_at (negsuc n) text fits e =
    let value : ℕ = digits_value 10 text in
    not_spelled (pos value) text (int_below text) (λ small d. no_minus value (decimal (suc n)) (omega (arith, small)) (sym e ∙ d)) ∙ below_is text n fits e

none_at : (text : Bytes) → IsInt text None → int_of text ≡ None
unfolding int_of
none_at text none = not_spelled (pos (digits_value 10 text)) text (int_below text) (none (pos (digits_value 10 text))) ∙ below_none text none

pub int_of_is : (text : Bytes) (found : Option ℤ) → IsInt text found → found ≡ int_of text
int_of_is text (Some z) is = sym (int_of_at z text is.0 is.1)
int_of_is text None none = sym (none_at text none)
