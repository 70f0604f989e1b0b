-- The texts of a report's elements tell what these are.
use Rattle.std.proofs.Common.{◌≡◌, ◌<◌, ◌≤◌, ◌-◌, ◌^◌, ◌++◌, ◌==◌, ◌&&◌, ◌⊎◌, inl, inr, ℕ, ℤ, pos, negsuc, suc, Bool, true, false, List, [], ◌∷◌, Option, Some, None, length, take, drop, get_or, map, refl, sym, ap, ◌∙◌, arith, length-append, cond}
use Rattle.std.specs.Prelude.{nat_le, bytes_eq, codes}
use Rattle.std.specs.Fmt.{decimal, signed_decimal}
use Rattle.std.specs.Str.Parse.{digits_value}
use Rattle.std.proofs.Math.Seq.{take-append_seam}
use Rattle.std.proofs.lemmas.Fmt.{decimal_is_IsNumeral}
use Rattle.std.proofs.lemmas.Bool.Decides.{nat_tests}
use Rattle.std.proofs.lemmas.Slice.Eq.{bytes_eq-Decides}
use Rattle.sk_resp.specs.Number.{IsI64}
use Rattle.sk_resp.specs.Spelling.{Bytes, line, bulk, header, joined, colon, star}
use Rattle.sk_resp.specs.Reply.{wire, say_text, fault_text}
use Rattle.sk_resp.specs.Kind.{kind_text}
use Rattle.sk_resp.specs.Refusal.{refusal_text}
use Rattle.sk_resp.specs.declared.kind.Kind.{Kind}
use Rattle.sk_resp.specs.declared.kind.Kind.TheVariants as kind
use Rattle.sk_resp.specs.declared.refusal.Refusal.{Refusal}
use Rattle.sk_resp.specs.declared.refusal.Refusal.TheVariants as refusal
use Rattle.sk_resp.specs.declared.wire_fault.WireFault.{WireFault}
use Rattle.sk_resp.specs.declared.wire_fault.WireFault.TheVariants as fault
use Rattle.sk_resp.specs.declared.say.Say.{Say}
use Rattle.sk_resp.specs.declared.say.Say.TheVariants as say
use Rattle.sk_resp.specs.declared.reply.Reply.{Reply}
use Rattle.sk_resp.specs.declared.reply.Reply.TheVariants as reply
use Rattle.sk_resp.proofs.Integers.{no_minus}
use Rattle.std.proofs.lemmas.List.{append_cancel_right}
use Rattle.sk_link.specs.declared.report.Report.{Report}
use Rattle.sk_link.specs.Report.{as_count, count_of, digits_of, int_of, is_array, is_array_reply, report_in, with_counts}

-- ## First bytes

-- a text begins with `+` or `-`
abbrev IsSigned : Bytes → Type 0
IsSigned text = (get_or text 0 0 ≡ 43) ⊎ (get_or text 0 0 ≡ 45)

kind_first : (k : Kind) → IsSigned (line (kind_text k))
kind_first kind.Absent = inl refl
kind_first k = inl refl

refusal_first : (r : Refusal) → IsSigned (line (refusal_text r))
refusal_first refusal.ManagedKey = inr refl
refusal_first r = inr refl

fault_first : (f : WireFault) → IsSigned (line (fault_text f))
fault_first (fault.NoDollar byte) = inr refl
fault_first f = inr refl

say_first : (s : Say) → IsSigned (line (say_text s))
say_first say.Ok = inl refl
say_first say.Pong = inl refl
say_first (say.Kind k) = kind_first k
say_first (say.Refused r) = refusal_first r
say_first (say.Protocol f) = fault_first f
say_first s = inr refl

-- ## Numbers

by_test : (a b : Bool) (n : ℕ) → (a ≡ true → b ≡ true → ⊥) → cond (a && b) (Some n) None ≡ None
by_test true true n none = absurd (none refl refl)
by_test true false n none = refl
by_test false b n none = refl

same_test : (a b : Bool) (n : ℕ) → b ≡ true → cond (a && b) (Some n) None ≡ cond a (Some n) None
same_test true b n same = ap (λ c. cond c (Some n) None) same
same_test false b n same = refl

-- A text that isn't the line of a number up to 2^62 is no count.
no_count : (text : Bytes) → ((n : ℕ) → n ≤ 2 ^ 62 → text ≡ line (colon ∷ decimal n) → ⊥) → count_of text ≡ None
no_count text none =
    let n = digits_value 10 (digits_of text) in
    by_test (nat_le n (2 ^ 62)) (bytes_eq text (line (colon ∷ decimal n))) n
    (λ small same. none n (grind (arith, nat_tests, small)) ((bytes_eq-Decides text (line (colon ∷ decimal n))).0 same))

other_mark : (text : Bytes) → (get_or text 0 0 ≡ colon → ⊥) → count_of text ≡ None
other_mark text none = no_count text (λ n small is. none (ap (λ t. get_or t 0 0) is))

signed_count : (text : Bytes) → IsSigned text → count_of text ≡ None
signed_count text (inl is) = other_mark text (λ colon_is. omega (arith, is, colon_is))
signed_count text (inr is) = other_mark text (λ colon_is. omega (arith, is, colon_is))

int_count : (z : ℤ) → IsI64 z → count_of (line (colon ∷ signed_decimal z)) ≡ as_count z
int_count (negsuc n) fits =
    no_count (line (colon ∷ 45 ∷ decimal (suc n))) (λ m small is.
    no_minus m (decimal (suc n)) (omega (arith, small)) (append_cancel_right (45 ∷ decimal (suc n)) (decimal m) (13 ∷ 10 ∷ []) (ap (λ t. drop 1 t) is)))
int_count (pos n) fits =
    let text = line (colon ∷ decimal n) in
    let size : length text - 3 ≡ length (decimal n) = omega (arith, length-append (decimal n) (13 ∷ 10 ∷ [])) in
    let digits : digits_of text ≡ decimal n = ap (λ k. take k (decimal n ++ 13 ∷ 10 ∷ [])) size ∙ take-append_seam (decimal n) (13 ∷ 10 ∷ []) in
    let value : digits_value 10 (digits_of text) ≡ n = ap (λ t. digits_value 10 t) digits ∙ (decimal_is_IsNumeral n (omega (arith, fits))).1 in
    ap (λ m. cond (nat_le m (2 ^ 62) && bytes_eq text (line (colon ∷ decimal m))) (Some m) None) value
    ∙ same_test (nat_le n (2 ^ 62)) (bytes_eq text text) n ((bytes_eq-Decides text text).1 refl)

bulk_count : (bytes : Bytes) → count_of (bulk bytes) ≡ None
unfolding bulk
bulk_count bytes = other_mark (bulk bytes) (λ is. omega (arith, is))

header_count : (n : ℕ) (texts : Bytes) → count_of (header n ++ texts) ≡ None
unfolding header
header_count n texts = other_mark (header n ++ texts) (λ is. omega (arith, is))

pub none_count : (r : Reply) → int_of r ≡ None → count_of (wire r) ≡ None
none_count (reply.Say s) is = signed_count (line (say_text s)) (say_first s)
none_count (reply.Simple text) is = signed_count (line (43 ∷ text)) (inl refl)
none_count (reply.Error text) is = signed_count (line (45 ∷ text)) (inr refl)
none_count (reply.Int z) is = absurd (cc is)
none_count (reply.Bulk bytes) is = bulk_count bytes
none_count reply.Null is = other_mark (line (codes "$-1")) (λ colon_is. omega (arith, colon_is))
none_count (reply.Array texts) is = header_count (length texts) (joined texts)
none_count reply.NullArray is = other_mark (line (codes "*-1")) (λ colon_is. omega (arith, colon_is))

pub some_count : (r : Reply) (z : ℤ) → int_of r ≡ Some z → IsI64 z → count_of (wire r) ≡ as_count z
some_count (reply.Int y) z is fits = let same : y ≡ z = cc is in ap (λ x. count_of (line (colon ∷ signed_decimal x))) same ∙ int_count z fits
some_count r z is fits = absurd (cc is)

-- ## Arrays

signed_array : (text : Bytes) → IsSigned text → is_array text ≡ false
signed_array text (inl is) = ap (λ b. b == star) is
signed_array text (inr is) = ap (λ b. b == star) is

bulk_array : (bytes : Bytes) → is_array (bulk bytes) ≡ false
unfolding bulk
bulk_array bytes = refl

header_array : (n : ℕ) (texts : Bytes) → is_array (header n ++ texts) ≡ true
unfolding header
header_array n texts = refl

pub array_text : (r : Reply) → is_array (wire r) ≡ is_array_reply r
array_text (reply.Say s) = signed_array (line (say_text s)) (say_first s)
array_text (reply.Simple text) = refl
array_text (reply.Error text) = refl
array_text (reply.Int z) = refl
array_text (reply.Bulk bytes) = bulk_array bytes
array_text reply.Null = refl
array_text (reply.Array texts) = header_array (length texts) (joined texts)
array_text reply.NullArray = refl

-- ## Elements

pub not_four : (xs : List Reply) → (length xs ≡ 4 → ⊥) → report_in (map wire xs) ≡ None
not_four [] other = refl
not_four (a ∷ []) other = refl
not_four (a ∷ b ∷ []) other = refl
not_four (a ∷ b ∷ c ∷ []) other = refl
not_four (a ∷ b ∷ c ∷ d ∷ []) other = absurd (other refl)
not_four (a ∷ b ∷ c ∷ d ∷ e ∷ xs) other = refl

four : (xs : List Reply) (a b c d : Reply) → length xs ≡ 4 → a ≡ get_or xs 0 a → b ≡ get_or xs 1 b → c ≡ get_or xs 2 c → d ≡ get_or xs 3 d → xs ≡ a ∷ b ∷ c ∷ d ∷ []
four [] a b c d size = λ _ _ _ _. absurd (let none : ⊥ = omega (arith, size) in none)
four (p ∷ []) a b c d size = λ _ _ _ _. absurd (let none : ⊥ = omega (arith, size) in none)
four (p ∷ q ∷ []) a b c d size = λ _ _ _ _. absurd (let none : ⊥ = omega (arith, size) in none)
four (p ∷ q ∷ r ∷ []) a b c d size = λ _ _ _ _. absurd (let none : ⊥ = omega (arith, size) in none)
four (p ∷ q ∷ r ∷ s ∷ []) a b c d size = λ ea eb ec ed. cc (ea, eb, ec, ed)
four (p ∷ q ∷ r ∷ s ∷ t ∷ xs) a b c d size = λ _ _ _ _. absurd (let none : ⊥ = omega (arith, size) in none)

by_elements : (xs : List Reply) (moved buried fired trimmed : Reply) → xs ≡ moved ∷ buried ∷ fired ∷ trimmed ∷ [] →
    report_in (map wire xs) ≡ cond (is_array_reply fired && is_array_reply trimmed) (with_counts (count_of (wire moved)) (count_of (wire buried))) None
by_elements xs moved buried fired trimmed is =
    let counts = with_counts (count_of (wire moved)) (count_of (wire buried)) in
    ap (λ ys. report_in (map wire ys)) is
    ∙ ap (λ b. cond (b && is_array (wire trimmed)) counts None) (array_text fired)
    ∙ ap (λ b. cond (is_array_reply fired && b) counts None) (array_text trimmed)

-- The answer is the report of four elements, by what the last two of them are.
pub four_elements : (xs : List Reply) (moved buried fired trimmed : Reply) (answer : Option Report) (b c : Bool) → 4 ≤ length xs → length xs < 5 →
    moved ≡ get_or xs 0 moved → buried ≡ get_or xs 1 buried → fired ≡ get_or xs 2 fired → trimmed ≡ get_or xs 3 trimmed →
    b ≡ is_array_reply fired → c ≡ is_array_reply trimmed → answer ≡ cond (b && c) (with_counts (count_of (wire moved)) (count_of (wire buried))) None →
    answer ≡ report_in (map wire xs)
four_elements xs moved buried fired trimmed answer b c least below m n f t fired_is trimmed_is is =
    let counts = with_counts (count_of (wire moved)) (count_of (wire buried)) in
    let size : length xs ≡ 4 = omega (arith, least, below) in
    is
    ∙ ap (λ x. cond (x && c) counts None) fired_is
    ∙ ap (λ x. cond (is_array_reply fired && x) counts None) trimmed_is
    ∙ sym (by_elements xs moved buried fired trimmed (four xs moved buried fired trimmed size m n f t))
