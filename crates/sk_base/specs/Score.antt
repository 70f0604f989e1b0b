-- Scores: decimal numbers, kept as whole millionths. Redis reads a double there; a score here is exact.
use Rattle.std.specs.Prelude.{◌≡◌, ◌<◌, ◌≤◌, ◌+◌, ◌*◌, ◌^◌, ◌++◌, ◌==◌, ℕ, ℤ, pos, List, [], ◌∷◌, length, take, drop, cond, codes, int_lt, unsigned_abs, neg_ℤ, ◌/◌, ◌%◌, ◌&&◌, Bool, true, false, Result, Ok, Err, MatchResult}
use Rattle.std.specs.Bool.{MatchBool}
use Rattle.std.specs.Fmt.{decimal}
use Rattle.std.specs.Str.{all_ascii_digits}
use Rattle.std.specs.Str.Parse.{digits_value}
use Rattle.sk_base.specs.declared.score.ScoreFault.{ScoreFault}
use Rattle.sk_base.specs.declared.score.ScoreFault.TheVariants.{NotDecimal, Range}
use Rattle.sk_base.specs.declared.limits.TheConstants.{GREATEST_SCORE, LAST_MOMENT}

-- ## Reading

abbrev pub IsDigits : List ℕ → Type 0
IsDigits text = all_ascii_digits text ≡ true

-- `.` and the decimals, where there are any
abbrev pub fraction : List ℕ → List ℕ
fraction [] = []
fraction (d ∷ decimals) = 46 ∷ d ∷ decimals

-- one or more digits, and optionally `.` and one or more digits
pub record IsDecimal (text whole decimals : List ℕ) : Type 0 where
  pub some : 0 < length whole
  pub whole_digits : IsDigits whole
  pub decimal_digits : IsDigits decimals
  pub is : text ≡ whole ++ fraction decimals

-- the first six decimals, filled with zeros on the right
abbrev pub six : List ℕ → List ℕ
six decimals = take 6 (decimals ++ codes "000000")

-- the whole part times 1,000,000, and the first six decimals
abbrev pub millionths : List ℕ → List ℕ → ℕ
millionths whole decimals = digits_value 10 whole * 10 ^ 6 + digits_value 10 (six decimals)

-- the greatest magnitude: 9,223,372,036,854,775,807 millionths
abbrev pub greatest : ℕ
greatest = GREATEST_SCORE

-- how many millionths a text without a sign is
abbrev pub IsMagnitude : List ℕ → Result ℕ ScoreFault → Type 0
IsMagnitude text (Ok n) = (whole : List ℕ) × (decimals : List ℕ) × IsDecimal text whole decimals × (n ≡ millionths whole decimals) × (n ≤ greatest)
IsMagnitude text (Err Range) = (whole : List ℕ) × (decimals : List ℕ) × IsDecimal text whole decimals × (greatest < millionths whole decimals)
IsMagnitude text (Err NotDecimal) = (whole decimals : List ℕ) → IsDecimal text whole decimals → ⊥

-- ## The sign

-- that many millionths, above or below zero
abbrev pub signed : Bool → ℕ → ℤ
signed below n = cond below (neg_ℤ (pos n)) (pos n)

-- a text without a sign, with a `-` in front or not
abbrev pub IsSigned : Bool → List ℕ → Result ℤ ScoreFault → Type 0
IsSigned below text out = (magnitude : Result ℕ ScoreFault) × IsMagnitude text magnitude × MatchResult magnitude (λ n. out ≡ Ok (signed below n)) (λ fault. out ≡ Err fault)

-- how many millionths a text is: an optional `-`, and a text without a sign
abbrev pub IsScore : List ℕ → Result ℤ ScoreFault → Type 0
IsScore [] out = out ≡ Err NotDecimal
IsScore (b ∷ text) out = MatchBool (b == 45) (IsSigned true text out) (IsSigned false (b ∷ text) out)

-- ## Writing

-- without the zeros at the end
abbrev pub without_zeros : List ℕ → List ℕ
without_zeros [] = []
without_zeros (d ∷ digits) = cond ((length (without_zeros digits) == 0) && (d == 48)) [] (d ∷ without_zeros digits)

-- a number below 1,000,000 in six digits
abbrev pub six_digits : ℕ → List ℕ
six_digits n = drop 1 (decimal (10 ^ 6 + n))

-- the whole part, and the decimals that aren't zeros at the end
abbrev pub magnitude_text : ℕ → List ℕ
magnitude_text n = decimal (n / 10 ^ 6) ++ fraction (without_zeros (six_digits (n % 10 ^ 6)))

-- the one text that a score is written as
abbrev pub score_text : ℤ → List ℕ
score_text z = cond (int_lt z (pos 0)) (45 ∷ []) [] ++ magnitude_text (unsigned_abs z)

-- ## Moments

-- the last moment that a score can be of: the last millisecond of the year 9998
abbrev pub last_moment : ℕ
last_moment = LAST_MOMENT
