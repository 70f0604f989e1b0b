-- Numbers in texts.
use Rattle.std.proofs.Common.{◌≡◌, ◌⊎◌, ◌<◌, ◌^◌, ℕ, zero, suc, Bool, true, false, [], ◌∷◌, length, get_or, Option, Some, None, Result, Ok, Err, inl, inr, ap, sym, subst, ◌∙◌, arith, refl}
use Rattle.std.specs.Prelude.{ℤ, pos, negsuc, MatchOption, nat_le, ◌&&◌, if◌then◌else◌}
use Rattle.std.specs.Fmt.{decimal}
use Rattle.std.specs.Str.Parse.{AllDigits, ParsesUnsigned, digits_value}
use Rattle.std.proofs.lemmas.Bool.{leb-false, leb-true}
use Rattle.std.proofs.lemmas.Fmt.{decimal_digit, decimal_injective, decimal_nonempty, decimal-digits_value, first_decimal, parse-decimal, signed_decimal_injective}
use Rattle.std.proofs.lemmas.Str.Parse.{numerals_by_value, tells_digits, without_leading_plus_none}
use Rattle.sk_resp.specs.Number.{IsInt}
use Rattle.clap.specs.Words.{Text}
use Rattle.sk_line.specs.Values.{IsNumber, IsSeed, within}

found : (least most : ℕ) (text : Text) (n : ℕ) (a b : Bool) → nat_le least n ≡ a → nat_le n most ≡ b → n < 2 ^ 63 → most < 2 ^ 63 → text ≡ decimal n
    → MatchOption (if a && b then Some n else None) ((value : ℕ) → IsNumber least most text value → ⊥) (IsNumber least most text)
found least most text n true true p q fits small e = record { least_is = leb-true least n p; most_is = leb-true n most q; is = e }
found least most text n true false p q fits small e = λ v h.
    let same : v ≡ n = decimal_injective v n (omega (arith, h.most_is)) (omega arith) (sym h.is ∙ e) in
    omega (arith, leb-false n most q, h.most_is, same)
found least most text n false b p q fits small e = λ v h.
    let same : v ≡ n = decimal_injective v n (omega (arith, h.most_is)) (omega arith) (sym h.is ∙ e) in
    omega (arith, leb-false least n p, h.least_is, same)

-- the number within these bounds that a text is, from the integer that it is
pub number_read : (least most : ℕ) (text : Text) (z : Option ℤ) → most < 2 ^ 63 → IsInt text z
    → MatchOption (within least most z) ((value : ℕ) → IsNumber least most text value → ⊥) (IsNumber least most text)
number_read least most text None small none = λ v h. none (pos v) (omega (arith, h.most_is)) h.is
number_read least most text (Some (pos n)) small h = found least most text n (nat_le least n) (nat_le n most) refl refl h.0 small h.1
number_read least most text (Some (negsuc n)) small h = λ v p.
    let same : pos v ≡ negsuc n = signed_decimal_injective (pos v) (negsuc n) (omega (arith, p.most_is)) h.0 (sym p.is ∙ h.1) in cc

-- ## Words of 64 bits

-- a number's first digit is a zero only where it is 0
first_digit : (n : ℕ) → n < 2 ^ 64 → ((n ≡ 0) × (decimal n ≡ 48 ∷ [])) ⊎ (48 < get_or (decimal n) 0 0)
first_digit zero small = inl (refl, decimal_digit 0 (omega arith))
first_digit (suc n) small = inr (first_decimal (suc n) (omega arith) small)

pub not_empty : (text : Text) (v : ℕ) → IsSeed text v → length text < 1 → ⊥
not_empty text v h empty = omega (arith, decimal_nonempty v (omega (arith, h.most_is)), ap length h.is, empty)

pub no_plus : (text : Text) (v : ℕ) → IsSeed text v → get_or text 0 0 ≡ 43 → ⊥
no_plus text v h e = elim (first_digit v (omega (arith, h.most_is))) [
  | inl none ↦ let same : get_or text 0 0 ≡ 48 = ap (λ t. get_or t 0 0) (h.is ∙ none.1) in omega (arith, e, same)
  | inr more ↦ let same : get_or text 0 0 ≡ get_or (decimal v) 0 0 = ap (λ t. get_or t 0 0) h.is in omega (arith, e, same, more)
]

pub no_zero : (text : Text) (v : ℕ) → IsSeed text v → get_or text 0 0 ≡ 48 → 1 < length text → ⊥
no_zero text v h e more = elim (first_digit v (omega (arith, h.most_is))) [
  | inl none ↦ let same : length text ≡ 1 = ap length (h.is ∙ none.1) in omega (arith, more, same)
  | inr above ↦ let same : get_or text 0 0 ≡ get_or (decimal v) 0 0 = ap (λ t. get_or t 0 0) h.is in omega (arith, e, same, above)
]

pub seed_read : {E : Type 0} (text : Text) (r : Result ℕ E) (word : ℕ) → ParsesUnsigned 64 10 text r → r ≡ Ok word → (get_or text 0 0 ≡ 43 → ⊥)
    → (get_or text 0 0 ≡ 48 → length text ≡ 1) → IsSeed text word
seed_read text r word parsed e plus one =
    let is = subst (λ x. ParsesUnsigned 64 10 text x) e parsed in
    let same = without_leading_plus_none text plus in
    let value : word ≡ digits_value 10 text = is.1 ∙ ap (digits_value 10) same in
    let small : digits_value 10 text < 2 ^ 64 = subst (λ t. digits_value 10 t < 2 ^ 64) same is.0.1 in
    let digits : AllDigits 10 text = subst (AllDigits 10) same is.0.0.1 in
    let some : 0 < length text = subst (λ t. 0 < length t) same is.0.0.0 in
    record {
      least_is = omega arith;
      most_is = omega (arith, value, small);
      is = sym (ap decimal value ∙ decimal-digits_value (numerals_by_value (AllDigits 10) tells_digits) text digits some one small);
    }

pub no_seed : {E : Type 0} (text : Text) (r : Result ℕ E) (e : E) (v : ℕ) → ParsesUnsigned 64 10 text r → r ≡ Err e → IsSeed text v → ⊥
no_seed text r e v parsed is h = let ok : Err e ≡ Ok v = sym is ∙ parse-decimal 64 v text r (omega (arith, h.most_is)) (omega (arith, h.most_is)) h.is parsed in cc
