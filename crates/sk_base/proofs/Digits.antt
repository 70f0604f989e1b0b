-- Digits from the left, and zeros at the end.
use Rattle.std.proofs.Common.{◌≡◌, ◌≢◌, ◌+◌, ◌*◌, ◌-◌, ◌<◌, ◌≤◌, ◌==◌, ◌&&◌, ℕ, List, [], ◌∷◌, ◌++◌, length, take, get_or, subst, zero, suc, drop, drop-cons, length-append, append-nil, min, ◌/◌, cond, Bool, true, false, refl, sym, ap, ◌∙◌, arith}
use Rattle.std.specs.Prelude.{codes}
use Rattle.std.proofs.lemmas.List.{take_more, take_all}
use Rattle.std.proofs.lemmas.Str.Parse.{tells_all_ascii_digits}
use Rattle.std.proofs.lemmas.Str.{digit_value_digit}
use Rattle.std.specs.Char.{is_ascii_digit, digit_value}
use Rattle.std.specs.Str.{all_ascii_digits}
use Rattle.std.specs.Str.Parse.{digits_value_after}
use Rattle.sk_base.specs.Score.{IsDigits, IsDecimal, fraction, greatest, six, without_zeros}
use Rattle.sk_base.specs.Digits.{NoDigit, IsFrontDigits}

-- digits behind a number don't make it less
pub grows : (n : ℕ) (ds : List ℕ) → n ≤ digits_value_after 10 n ds
grows n [] = omega arith
grows n (d ∷ ds) = omega (arith, grows (n * 10 + digit_value d) ds)

pub and_parts : (a b : Bool) → (a && b) ≡ true → (a ≡ true) × (b ≡ true)
and_parts true b e = (refl, e)
and_parts false b e = absurd (cc)

-- the digits in front are one list
pub same_front : (a x b y : List ℕ) → IsDigits a → IsDigits b → NoDigit x → NoDigit y → a ++ x ≡ b ++ y → (a ≡ b) × (x ≡ y)
same_front [] x [] y da db nx ny e = (refl, e)
same_front [] [] (c ∷ b) y da db nx ny e = absurd (cc e)
same_front [] (d ∷ x) (c ∷ b) y da db nx ny e =
    let p = and_parts (is_ascii_digit c) (all_ascii_digits b) db in
    let same : d ≡ c = cc e in
    absurd (cc (nx, ap is_ascii_digit same, p.0))
same_front (c ∷ a) x [] [] da db nx ny e = absurd (cc e)
same_front (c ∷ a) x [] (d ∷ y) da db nx ny e =
    let p = and_parts (is_ascii_digit c) (all_ascii_digits a) da in
    let same : c ≡ d = cc e in
    absurd (cc (ny, ap is_ascii_digit same, p.0))
same_front (c ∷ a) x (d ∷ b) y da db nx ny e =
    let p = and_parts (is_ascii_digit c) (all_ascii_digits a) da in
    let q = and_parts (is_ascii_digit d) (all_ascii_digits b) db in
    let first : c ≡ d = cc e in
    let more : a ++ x ≡ b ++ y = cc e in
    let r = same_front a x b y p.1 q.1 nx ny more in
    (ap (λ z. z ∷ a) first ∙ ap (λ z. d ∷ z) r.0, r.1)

pub zero_goes : (ds : List ℕ) → without_zeros (ds ++ 48 ∷ []) ≡ without_zeros ds
zero_goes [] = refl
zero_goes (d ∷ ds) = ap (λ z. cond ((length z == 0) && (d == 48)) [] (d ∷ z)) (zero_goes ds)

pub digits_append : (a b : List ℕ) → IsDigits a → IsDigits b → IsDigits (a ++ b)
digits_append [] b p q = q
digits_append (d ∷ a) b p q = let parts = and_parts (is_ascii_digit d) (all_ascii_digits a) p in rw parts.0 (digits_append a b parts.1 q)

pub digits_take : (n : ℕ) (ds : List ℕ) → IsDigits ds → IsDigits (take n ds)
digits_take zero ds p = refl
digits_take (suc n) [] p = refl
digits_take (suc n) (d ∷ ds) p = let parts = and_parts (is_ascii_digit d) (all_ascii_digits ds) p in rw parts.0 (digits_take n ds parts.1)

-- one more digit
pub digits_more : (i : ℕ) (ds : List ℕ) → i < length ds → IsDigits (take i ds) → is_ascii_digit (get_or ds i 0) ≡ true → IsDigits (take (i + 1) ds)
digits_more i ds within p q = subst IsDigits (sym (take_more ds i 0 within)) (digits_append (take i ds) (get_or ds i 0 ∷ []) p (rw q refl))

pub six_are_digits : (ds : List ℕ) → IsDigits ds → IsDigits (six ds)
six_are_digits ds p = digits_take 6 (ds ++ _) (digits_append ds _ p refl)

pub fraction_ends : (ds : List ℕ) → NoDigit (fraction ds)
fraction_ends [] = tt
fraction_ends (d ∷ ds) = refl

-- the digits in front of a decimal number are its whole part
pub whole_is : (text digits rest whole decimals : List ℕ) → IsFrontDigits text digits rest → IsDecimal text whole decimals → (digits ≡ whole) × (rest ≡ fraction decimals)
whole_is text digits rest whole decimals f d = same_front digits rest whole (fraction decimals) f.are_digits d.whole_digits f.ends (fraction_ends decimals) (sym f.is ∙ d.is)

-- a zero that doesn't stand at the end
pub zero_stays : (ds : List ℕ) (d : ℕ) → d ≢ 48 → without_zeros (ds ++ d ∷ []) ≡ ds ++ d ∷ []
zero_stays [] d n = grind arith
zero_stays (c ∷ ds) d n = rw (zero_stays ds d n) (grind (arith, length-append ds (d ∷ [])))

-- the digits behind a point are all that stands there
pub decimals_are : (rest digits more decimals : List ℕ) → IsFrontDigits (take (length rest - 1) (drop 1 rest)) digits more → IsDigits decimals → 0 < length rest → rest ≡ fraction decimals → (digits ≡ decimals) × (more ≡ [])
decimals_are rest digits more [] f p some e = absurd (omega (arith, some, ap length e))
decimals_are rest digits more (d ∷ ds) f p some e =
    let tail : take (length rest - 1) (drop 1 rest) ≡ d ∷ ds = ap (λ z. take (length z - 1) (drop 1 z)) e ∙ take_all (length (fraction (d ∷ ds)) - 1) (d ∷ ds) (omega arith) in
    same_front digits more (d ∷ ds) [] f.are_digits p f.ends tt (sym f.is ∙ tail ∙ sym (append-nil (d ∷ ds)))

-- one digit too many
over_from : (n d : ℕ) (ds rest : List ℕ) → ds ≡ d ∷ rest → IsDigits ds → (greatest - (d - 48)) / 10 < n → greatest < digits_value_after 10 n ds
over_from n d ds rest e p big =
    let range = (tells_all_ascii_digits.parts d rest (subst IsDigits e p)).0 in
    subst (λ z. greatest < digits_value_after 10 n z) (sym e) (omega (arith, big, range, digit_value_digit d range, grows (n * 10 + digit_value d) rest))

pub over : (n i : ℕ) (ds : List ℕ) → i < length ds → IsDigits (drop i ds) → (greatest - (get_or ds i 0 - 48)) / 10 < n → greatest < digits_value_after 10 n (drop i ds)
over n i ds within p big = over_from n (get_or ds i 0) (drop i ds) (drop (suc i) ds) (drop-cons ds i 0 within) p big

abbrev pub zeros : List ℕ
zeros = codes "000000"

pub six_is : (ds : List ℕ) → take (min (length ds) 6) ds ++ drop (min (length ds) 6) zeros ≡ six ds
six_is [] = refl
six_is (a ∷ []) = refl
six_is (a ∷ b ∷ []) = refl
six_is (a ∷ b ∷ c ∷ []) = refl
six_is (a ∷ b ∷ c ∷ d ∷ []) = refl
six_is (a ∷ b ∷ c ∷ d ∷ e ∷ []) = refl
six_is (a ∷ b ∷ c ∷ d ∷ e ∷ f ∷ more) =
    let six : min (length (a ∷ b ∷ c ∷ d ∷ e ∷ f ∷ more)) 6 ≡ 6 = omega arith in
    ap (λ n. take n (a ∷ b ∷ c ∷ d ∷ e ∷ f ∷ more) ++ drop n zeros) six

pub last_split : (ds : List ℕ) → 0 < length ds → ds ≡ take (length ds - 1) ds ++ get_or ds (length ds - 1) 0 ∷ []
last_split ds some =
    let back : length ds - 1 + 1 ≡ length ds = omega arith in
    sym (take_all (length ds) ds (omega arith)) ∙ ap (λ n. take n ds) (sym back) ∙ take_more ds (length ds - 1) 0 (omega arith)

-- the last digit is a zero, or isn't
pub ends_in_zero : (ds : List ℕ) → 0 < length ds → get_or ds (length ds - 1) 0 ≡ 48 → without_zeros (take (length ds - 1) ds) ≡ without_zeros ds
ends_in_zero ds some e = sym (ap without_zeros (last_split ds some ∙ ap (λ d. take (length ds - 1) ds ++ d ∷ []) e) ∙ zero_goes (take (length ds - 1) ds))

pub ends_in_none : (ds : List ℕ) → 0 < length ds → get_or ds (length ds - 1) 0 ≢ 48 → ds ≡ without_zeros ds
ends_in_none ds some n = last_split ds some ∙ sym (zero_stays (take (length ds - 1) ds) (get_or ds (length ds - 1) 0) n) ∙ ap without_zeros (sym (last_split ds some))
