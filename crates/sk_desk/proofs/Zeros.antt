-- Which replies are spelled as the integer 0, and which reports count no row.
use Rattle.std.proofs.Common.{◌≡◌, ◌+◌, ◌≤◌, ◌/◌, ◌%◌, ◌==◌, ◌&&◌, ℕ, ℤ, zero, suc, pos, negsuc, Bool, true, false, List, [], ◌∷◌, ◌++◌, length, drop, get_or, map, refl, sym, ap, ap₂, ◌∙◌, arith, cond, inl, inr}
use Rattle.std.specs.Prelude.{bytes_eq, codes, nat_abs}
use Rattle.std.specs.Ordering.{int_eq}
use Rattle.std.specs.Fmt.{decimal, digit_glyph, digits, digits_onto}
use Rattle.std.proofs.lemmas.Bool.{cases_lt, ne_eqb}
use Rattle.std.proofs.lemmas.Bool.Decides.{Decides-int_eq}
use Rattle.std.proofs.lemmas.Fmt.{decimal_digit}
use Rattle.std.proofs.lemmas.List.{append_cancel_right}
use Rattle.std.proofs.lemmas.Slice.Eq.{bytes_eq-Decides}
use Rattle.sk_resp.specs.Kind.{kind_text}
use Rattle.sk_resp.specs.Refusal.{refusal_text}
use Rattle.sk_resp.specs.Reply.{fault_text, say_text, wire}
use Rattle.sk_resp.specs.Spelling.{Bytes, bulk, colon, header, line}
use Rattle.sk_resp.specs.declared.kind.Kind.{Kind}
use Rattle.sk_resp.specs.declared.kind.Kind.TheVariants as kind
use Rattle.sk_resp.specs.declared.refusal.Refusal.{Refusal}
use Rattle.sk_resp.specs.declared.refusal.Refusal.TheVariants as refusal
use Rattle.sk_resp.specs.declared.reply.Reply.{Reply}
use Rattle.sk_resp.specs.declared.reply.Reply.TheVariants as reply
use Rattle.sk_resp.specs.declared.say.Say.{Say}
use Rattle.sk_resp.specs.declared.say.Say.TheVariants as say
use Rattle.sk_resp.specs.declared.wire_fault.WireFault.{WireFault}
use Rattle.sk_resp.specs.declared.wire_fault.WireFault.TheVariants as fault
use Rattle.sk_desk.specs.Writing.{counts_zero, is_zero, spells_zero}

-- ## Digits

at_least : (m : ℕ) (b : Bool) (one other : Bytes) → m ≤ length one → m ≤ length other → m ≤ length (cond b one other)
at_least m true one other p q = p
at_least m false one other p q = q

abbrev last_digit : ℕ → ℕ
last_digit n = digit_glyph false (n % 10)

-- What stands behind the digits of a number stays there,
no_shorter : (k n : ℕ) (behind : Bytes) → length behind ≤ length (digits_onto k 10 false n behind)
no_shorter zero n behind = omega arith
no_shorter (suc k) n behind =
    let more = last_digit n ∷ behind in
    at_least (length behind) (n / 10 == 0) more (digits_onto k 10 false (n / 10) more) (omega arith) (omega (arith, no_shorter k (n / 10) more))

-- behind one digit at least,
one_longer : (k n : ℕ) (behind : Bytes) → 1 + length behind ≤ length (digits_onto (suc k) 10 false n behind)
one_longer k n behind =
    let more = last_digit n ∷ behind in
    at_least (1 + length behind) (n / 10 == 0) more (digits_onto k 10 false (n / 10) more) (omega arith) (omega (arith, no_shorter k (n / 10) more))

-- and behind two where the number is 10 or more.
two_longer : (k n : ℕ) → 10 ≤ n → 2 ≤ length (digits_onto (suc (suc k)) 10 false n [])
two_longer k n ten =
    let more = digits_onto (suc k) 10 false (n / 10) (last_digit n ∷ []) in
    let is : digits_onto (suc (suc k)) 10 false n [] ≡ more = ap (λ b. cond b (last_digit n ∷ []) more) (ne_eqb (n / 10) 0 (λ e. omega arith)) in
    omega (arith, ap (λ (ds : Bytes). length ds) is, one_longer k (n / 10) (last_digit n ∷ []))

two_digits : (n : ℕ) → 10 ≤ n → 2 ≤ length (decimal n)
unfolding digits
two_digits n ten = two_longer 62 n ten

-- The digit 0 alone is the number 0.
zero_alone : (n : ℕ) → decimal n ≡ 48 ∷ [] → n ≡ 0
zero_alone n is = elim (cases_lt n 10) [
  | inl below ↦ omega (arith, ap (λ (ds : Bytes). get_or ds 0 0) (sym (decimal_digit n below) ∙ is))
  | inr ten ↦ absurd (let none : ⊥ = omega (arith, two_digits n ten, ap (λ (ds : Bytes). length ds) is) in none)
]

pub zero_spelled : (n : ℕ) → spells_zero (wire (reply.Int (pos n))) ≡ true → n ≡ 0
zero_spelled n is =
    let text : line (colon ∷ decimal n) ≡ line (codes ":0") = (bytes_eq-Decides (line (colon ∷ decimal n)) (line (codes ":0"))).0 is in
    zero_alone n (append_cancel_right (decimal n) (48 ∷ []) (13 ∷ 10 ∷ []) (ap (λ t. drop 1 t) text))

spells : spells_zero (line (colon ∷ decimal 0)) ≡ true
spells = (bytes_eq-Decides (line (colon ∷ decimal 0)) (line (codes ":0"))).1 (ap (λ (ds : Bytes). line (colon ∷ ds)) (decimal_digit 0 (omega arith)))

-- ## Replies

never : (b : Bool) → (b ≡ true → ⊥) → b ≡ false
never true none = absurd (none refl)
never false none = refl

int_no : (n : ℕ) → spells_zero (line (colon ∷ decimal (suc n))) ≡ false
int_no n = never (spells_zero (line (colon ∷ decimal (suc n)))) (λ is. let none : ⊥ = omega (arith, zero_spelled (suc n) is) in none)

more_than_zero : (n : ℕ) → int_eq (pos (suc n)) (pos 0) ≡ false
more_than_zero n = never (int_eq (pos (suc n)) (pos 0)) (λ is. let none : ⊥ = omega (arith, ap (λ (z : ℤ). nat_abs z) ((Decides-int_eq (pos (suc n)) (pos 0)).0 is)) in none)

int_zero : (z : ℤ) → int_eq z (pos 0) ≡ spells_zero (wire (reply.Int z))
int_zero (pos zero) = sym spells
int_zero (pos (suc n)) = more_than_zero n ∙ sym (int_no n)
int_zero (negsuc n) = refl

kind_no : (k : Kind) → spells_zero (line (kind_text k)) ≡ false
kind_no kind.Absent = refl
kind_no k = refl

refusal_no : (r : Refusal) → spells_zero (line (refusal_text r)) ≡ false
refusal_no refusal.ManagedKey = refl
refusal_no r = refl

fault_no : (f : WireFault) → spells_zero (line (fault_text f)) ≡ false
fault_no (fault.NoDollar byte) = refl
fault_no f = refl

say_no : (s : Say) → spells_zero (line (say_text s)) ≡ false
say_no (say.Kind k) = kind_no k
say_no (say.Refused r) = refusal_no r
say_no (say.Protocol f) = fault_no f
say_no s = refl

-- A reply is the integer 0 where its text is.
pub zero_text : (r : Reply) → is_zero r ≡ spells_zero (wire r)
unfolding bulk header
zero_text (reply.Say s) = sym (say_no s)
zero_text (reply.Int z) = int_zero z
zero_text r = refl

-- ## Elements

pub two_elements : (xs : List Reply) (moved buried : Reply) → 2 ≤ length xs → moved ≡ get_or xs 0 moved → buried ≡ get_or xs 1 buried → (is_zero moved && is_zero buried) ≡ counts_zero (map wire xs)
two_elements [] moved buried size = λ _ _. absurd (let none : ⊥ = omega (arith, size) in none)
two_elements (p ∷ []) moved buried size = λ _ _. absurd (let none : ⊥ = omega (arith, size) in none)
two_elements (p ∷ q ∷ xs) moved buried size = λ m b. ap₂ (λ c d. c && d) (ap is_zero m ∙ zero_text p) (ap is_zero b ∙ zero_text q)
