-- Any text is an integer or none, and a score or none for a reason.
use Rattle.std.proofs.Common.{◌≡◌, ◌≢◌, ◌^◌, ◌⊎◌, inl, inr, ℕ, ℤ, pos, negsuc, suc, List, [], ◌∷◌, ◌++◌, length, refl, sym, ap, subst, ◌∙◌, Bool, true, false, Option, Some, None, Result, Ok, Err, arith}
use Rattle.std.specs.Prelude.{◌==◌, cond, neg_ℤ}
use Rattle.std.specs.Bool.{MatchBool}
use Rattle.std.specs.Fmt.{decimal, signed_decimal}
use Rattle.std.specs.Char.{is_ascii_digit}
use Rattle.std.specs.Str.{all_ascii_digits, bytes_eq}
use Rattle.std.proofs.lemmas.Bool.{cases_lt}
use Rattle.std.proofs.lemmas.Bool.Decides.{eqb_tells}
use Rattle.std.proofs.lemmas.Fmt.{digits_value-decimal}
use Rattle.std.proofs.lemmas.Slice.Eq.{bytes_eq-Decides}
use Rattle.sk_base.specs.Score.{IsDigits, IsDecimal, IsMagnitude, IsSigned, IsScore, fraction, millionths, greatest, signed}
use Rattle.sk_base.specs.Digits.{IsFrontDigits}
use Rattle.sk_base.specs.declared.score.ScoreFault.{ScoreFault}
use Rattle.sk_base.specs.declared.score.ScoreFault.TheVariants.{NotDecimal, Range}
use Rattle.sk_base.proofs.Digits.{whole_is}
use Rattle.sk_resp.specs.Spelling.{Bytes}
use Rattle.sk_resp.specs.Number.{IsI64, IsInt}
use Rattle.sk_resp.proofs.Digits.{read_on, own}
use Rattle.sk_resp.proofs.Integers.{no_minus}
use Rattle.sk_cmd.proofs.Exists.{tested}

-- ## Integers

-- the integer that a text would be, whatever its bytes are
value : Bytes → ℤ
value [] = pos 0
value (b ∷ ds) = cond (b == 45) (neg_ℤ (pos (read_on 0 ds))) (pos (read_on 0 (b ∷ ds)))

-- no `-` in front
value_plain : (text : Bytes) → ((ds : Bytes) → 45 ∷ ds ≡ text → ⊥) → value text ≡ pos (read_on 0 text)
unfolding value
value_plain [] none = refl
value_plain (b ∷ ds) none = elim (eqb_tells b 45) [ inl t ↦ absurd (none ds (cc t.1)) | inr t ↦ rw t.0 refl ]

-- an integer is read back from its spelling
value_is : (z : ℤ) → IsI64 z → value (signed_decimal z) ≡ z
unfolding value
value_is (pos n) fits = value_plain (decimal n) (λ ds. no_minus n ds (omega arith)) ∙ ap pos (digits_value-decimal own n (omega arith))
value_is (negsuc n) fits = ap (λ m. neg_ℤ (pos m)) (digits_value-decimal own (suc n) (omega arith))

fits_or_not : (z : ℤ) → IsI64 z ⊎ (IsI64 z → ⊥)
fits_or_not (pos n) = elim (cases_lt n (2 ^ 63)) [ inl lt ↦ inl lt | inr le ↦ inr (λ lt. omega (arith, le, lt)) ]
fits_or_not (negsuc n) = elim (cases_lt n (2 ^ 63)) [ inl lt ↦ inl lt | inr le ↦ inr (λ lt. omega (arith, le, lt)) ]

-- so there is but one integer to compare the text with
int_by : (text : Bytes) → IsI64 (value text) ⊎ (IsI64 (value text) → ⊥) → (text ≡ signed_decimal (value text)) ⊎ (text ≡ signed_decimal (value text) → ⊥)
    → (n : Option ℤ) × IsInt text n
int_by text (inl fits) (inl e) = (Some (value text), (fits, e))
int_by text (inl fits) (inr other) = (None, λ z small e. other (e ∙ ap signed_decimal (sym (ap value e ∙ value_is z small))))
int_by text (inr over) d = (None, λ z small e. over (subst IsI64 (sym (ap value e ∙ value_is z small)) small))

pub int_exists : (text : Bytes) → (n : Option ℤ) × IsInt text n
int_exists text = int_by text (fits_or_not (value text)) (tested (bytes_eq text (signed_decimal (value text))) (bytes_eq-Decides text (signed_decimal (value text))))

-- ## Scores

-- the digits in front
front_exists : (text : List ℕ) → (digits : List ℕ) × (rest : List ℕ) × IsFrontDigits text digits rest
front_exists [] = ([], [], record { is = refl; are_digits = refl; ends = tt })
front_exists (b ∷ text) = by (is_ascii_digit b) refl (front_exists text)
  where
    by : (digit : Bool) → is_ascii_digit b ≡ digit → (digits : List ℕ) × (rest : List ℕ) × IsFrontDigits text digits rest
        → (digits : List ℕ) × (rest : List ℕ) × IsFrontDigits (b ∷ text) digits rest
    by true e (digits, rest, front) = (b ∷ digits, rest, record { is = ap (λ xs. b ∷ xs) front.is; are_digits = rw e front.are_digits; ends = front.ends })
    by false e front = ([], b ∷ text, record { is = refl; are_digits = refl; ends = e })

-- a text is `.` and decimals or nothing, or it isn't
abbrev Decimals : List ℕ → Type 0
Decimals rest = ((decimals : List ℕ) × IsDigits decimals × (rest ≡ fraction decimals)) ⊎ ((decimals : List ℕ) → IsDigits decimals → rest ≡ fraction decimals → ⊥)

point_alone : (b : ℕ) (decimals : List ℕ) → b ∷ [] ≡ fraction decimals → ⊥
point_alone b [] e = cc e
point_alone b (d ∷ decimals) e = cc e

no_point : (b : ℕ) (rest decimals : List ℕ) → (b ≡ 46 → ⊥) → b ∷ rest ≡ fraction decimals → ⊥
no_point b rest [] n e = cc e
no_point b rest (d ∷ decimals) n e = n (cc e)

no_digits : (b d : ℕ) (rest decimals : List ℕ) → IsDigits decimals → (IsDigits (d ∷ rest) → ⊥) → b ∷ d ∷ rest ≡ fraction decimals → ⊥
no_digits b d rest [] p n e = cc e
no_digits b d rest (c ∷ decimals) p n e = let same : c ∷ decimals ≡ d ∷ rest = cc e in n (subst IsDigits same p)

digits_or_not : (ds : List ℕ) → IsDigits ds ⊎ (IsDigits ds → ⊥)
digits_or_not ds = tested (all_ascii_digits ds) (λ e. e, λ e. e)

decimals_exist : (rest : List ℕ) → Decimals rest
decimals_exist [] = inl ([], refl, refl)
decimals_exist (b ∷ []) = inr (λ decimals p. point_alone b decimals)
decimals_exist (b ∷ d ∷ rest) = by (eqb_tells b 46) (digits_or_not (d ∷ rest))
  where
    by : ((b == 46) ≡ true) × (b ≡ 46) ⊎ ((b == 46) ≡ false) × (b ≢ 46) → IsDigits (d ∷ rest) ⊎ (IsDigits (d ∷ rest) → ⊥) → Decimals (b ∷ d ∷ rest)
    by (inr n) p = inr (λ decimals q. no_point b (d ∷ rest) decimals n.1)
    by (inl e) (inl p) = inl (d ∷ rest, p, ap (λ c. c ∷ d ∷ rest) e.1)
    by (inl e) (inr n) = inr (λ decimals q. no_digits b d rest decimals q n)

-- a text is a whole part and decimals, or it isn't
abbrev Decimal : List ℕ → Type 0
Decimal text = ((whole : List ℕ) × (decimals : List ℕ) × IsDecimal text whole decimals) ⊎ ((whole decimals : List ℕ) → IsDecimal text whole decimals → ⊥)

decimal_by : (text digits rest : List ℕ) → IsFrontDigits text digits rest → Decimals rest → Decimal text
decimal_by text [] rest front d = inr (λ whole decimals is. omega (arith, is.some, ap length (whole_is text [] rest whole decimals front is).0))
decimal_by text (b ∷ digits) rest front (inl d) = inl (b ∷ digits, d.0, record { some = omega arith; whole_digits = front.are_digits; decimal_digits = d.1; is = front.is ∙ ap (λ xs. (b ∷ digits) ++ xs) d.2 })
decimal_by text (b ∷ digits) rest front (inr none) = inr (λ whole decimals is. none decimals is.decimal_digits (whole_is text (b ∷ digits) rest whole decimals front is).1)

decimal_exists : (text : List ℕ) → Decimal text
decimal_exists text = let front = front_exists text in decimal_by text front.0 front.1 front.2 (decimals_exist front.1)

magnitude_by : (text : List ℕ) → Decimal text → (magnitude : Result ℕ ScoreFault) × IsMagnitude text magnitude
magnitude_by text (inr none) = (Err NotDecimal, none)
magnitude_by text (inl (whole, decimals, is)) =
    elim (cases_lt greatest (millionths whole decimals)) [ inl lt ↦ (Err Range, (whole, decimals, is, lt)) | inr le ↦ (Ok (millionths whole decimals), (whole, decimals, is, refl, le)) ]

signed_by : (below : Bool) (text : List ℕ) → (magnitude : Result ℕ ScoreFault) × IsMagnitude text magnitude → (out : Result ℤ ScoreFault) × IsSigned below text out
signed_by below text (Ok n, is) = (Ok (signed below n), (Ok n, is, refl))
signed_by below text (Err e, is) = (Err e, (Err e, is, refl))

signed_exists : (below : Bool) (text : List ℕ) → (out : Result ℤ ScoreFault) × IsSigned below text out
signed_exists below text = signed_by below text (magnitude_by text (decimal_exists text))

pub score_exists : (text : List ℕ) → (out : Result ℤ ScoreFault) × IsScore text out
score_exists [] = (Err NotDecimal, refl)
score_exists (b ∷ text) = by (b == 45)
  where
    by : (minus : Bool) → (out : Result ℤ ScoreFault) × MatchBool minus (IsSigned true text out) (IsSigned false (b ∷ text) out)
    by true = signed_exists true text
    by false = signed_exists false (b ∷ text)
