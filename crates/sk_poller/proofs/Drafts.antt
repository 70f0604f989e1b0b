-- A periodic job is never refused: its id, its class and its queue are names, and its text is short.
use Rattle.std.proofs.Common.{◌≡◌, ◌∙◌, ◌/◌, ◌%◌, ◌<◌, ◌≤◌, ◌&&◌, ℕ, Bool, true, false, List, [], ◌∷◌, ◌++◌, length, get_or, zero, suc, take, min, refl, sym, subst, ap, None, codes, arith}
use Rattle.std.proofs.lemmas.Bool.{true≢false, le-leb, leb-true}
use Rattle.std.proofs.lemmas.Fmt.{length-decimal-le}
use Rattle.std.proofs.lemmas.Str.{IsUtf8-from_ascii, is_utf8-from_IsUtf8}
use Rattle.std.proofs.lemmas.Str.Ascii.{IsAscii-nil, IsAscii-cons}
use Rattle.std.specs.Fmt.{decimal}
use Rattle.std.specs.Int.{w64, to_be_bytes}
use Rattle.std.specs.List.{list_all, AllByRecursion}
use Rattle.std.specs.Prelude.{nat_le, nat_lt}
use Rattle.std.specs.Str.{IsAscii, is_utf8}
use Rattle.hex.proofs.HexLemmas.{length-encode_with, IsAscii-encode_with}
use Rattle.hex.specs.Hex.{encode_with, lower_digits}
use Rattle.sk_base.specs.Name.{is_name, is_visible}
use Rattle.sk_base.specs.Score.{last_moment}
use Rattle.sk_resp.specs.Spelling.{Bytes}
use Rattle.sk_client.specs.Jid.{jid_of_words}
use Rattle.sk_payload.proofs.Bounds.{members_text_le, quoted_le}
use Rattle.sk_payload.specs.Draft.{draft_fault, draft_members, draft_text, is_named, unless}
use Rattle.sk_payload.specs.declared.draft_fault.DraftFault.TheVariants as fault
use Rattle.sk_poller.specs.Loop.{draft_of, is_loop}
use Rattle.sk_poller.specs.declared.poller.Loop.{Loop}

both : (a b : Bool) → a ≡ true → b ≡ true → (a && b) ≡ true
both true b p q = q
both false b p q = p

left : (a b : Bool) → (a && b) ≡ true → a ≡ true
left true b h = refl
left false b h = h

right : (a b : Bool) → (a && b) ≡ true → b ≡ true
right true b h = h
right false b h = absurd (true≢false (sym h))

-- ## Ids

at_index : (p : ℕ → Bool) (xs : List ℕ) (k : ℕ) → list_all p xs ≡ true → k < length xs → p (get_or xs k 0) ≡ true
at_index p [] k all lt = let no : ⊥ = omega (arith, lt) in absurd no
at_index p (x ∷ xs) zero all lt = left (p x) (list_all p xs) all
at_index p (x ∷ xs) (suc k) all lt = at_index p xs k (right (p x) (list_all p xs) all) (omega (arith, lt))

digit : (k : ℕ) → k < 16 → is_visible (get_or lower_digits k 0) ≡ true
digit k lt = at_index is_visible lower_digits k refl lt

digits : (bytes : List ℕ) → AllByRecursion (λ b. b < 256) bytes → list_all is_visible (encode_with lower_digits bytes) ≡ true
unfolding encode_with
digits [] small = refl
digits (b ∷ bytes) small = both (is_visible (get_or lower_digits (b / 16) 0)) _ (digit (b / 16) (omega (arith, small.0)))
    (both (is_visible (get_or lower_digits (b % 16) 0)) _ (digit (b % 16) (omega arith)) (digits bytes small.1))

ascii_tested : (xs : List ℕ) → list_all (λ b. nat_le b 127) xs ≡ true → IsAscii xs
ascii_tested [] all = IsAscii-nil
ascii_tested (x ∷ xs) all = IsAscii-cons x xs (let le = leb-true x 127 (left (nat_le x 127) (list_all (λ b. nat_le b 127) xs) all) in omega (arith, le))
    (ascii_tested xs (right (nat_le x 127) (list_all (λ b. nat_le b 127) xs) all))

ascii_digits : IsAscii lower_digits
ascii_digits = ascii_tested lower_digits refl

bytes_of : ℕ → ℕ → List ℕ
bytes_of first second = to_be_bytes w64 first ++ take 4 (to_be_bytes w64 second)

bytes_small : (first second : ℕ) → AllByRecursion (λ b. b < 256) (bytes_of first second)
unfolding bytes_of
bytes_small first second = (omega arith, (omega arith, (omega arith, (omega arith, (omega arith, (omega arith, (omega arith, (omega arith, (omega arith, (omega arith, (omega arith, (omega arith, tt))))))))))))

pub jid_named : (first second : ℕ) → is_name 64 (jid_of_words first second) ≡ true
unfolding bytes_of
jid_named first second =
    let jid = encode_with lower_digits (bytes_of first second) in
    let len : length jid ≡ 24 = length-encode_with lower_digits (bytes_of first second) in
    let some : nat_lt 0 (length jid) ≡ true = subst (λ n. nat_lt 0 n ≡ true) (sym len) refl in
    let few : nat_le (length jid) 64 ≡ true = subst (λ n. nat_le n 64 ≡ true) (sym len) refl in
    let utf8 : is_utf8 jid ≡ true = is_utf8-from_IsUtf8 jid (IsUtf8-from_ascii jid (IsAscii-encode_with lower_digits (bytes_of first second) ascii_digits)) in
    both (nat_lt 0 (length jid) && nat_le (length jid) 64 && is_utf8 jid) (list_all is_visible jid)
    (both (nat_lt 0 (length jid) && nat_le (length jid) 64) (is_utf8 jid) (both (nat_lt 0 (length jid)) (nat_le (length jid) 64) some few) utf8)
    (digits (bytes_of first second) (bytes_small first second))

-- ## Drafts

name_len : (most : ℕ) (text : Bytes) → is_name most text ≡ true → length text ≤ most
name_len most text named =
    leb-true (length text) most (right (nat_lt 0 (length text)) (nat_le (length text) most) (left (nat_lt 0 (length text) && nat_le (length text) most) (is_utf8 text) (left _ (list_all is_visible text) named)))

class_named : (l : Loop) → is_loop l ≡ true → is_name 255 l.class ≡ true
unfolding is_loop
class_named l named = right (is_name 255 l.name) (is_name 255 l.class) (left _ (is_name 255 l.queue) named)

queue_named : (l : Loop) → is_loop l ≡ true → is_name 255 l.queue ≡ true
unfolding is_loop
queue_named l named = right (is_name 255 l.name && is_name 255 l.class) (is_name 255 l.queue) named

seven : (a b c : Bool) → a ≡ true → b ≡ true → c ≡ true → (a && b && c && true && true && true && true) ≡ true
seven true true true p q r = refl
seven true true false p q r = r
seven true false c p q r = q
seven false b c p q r = p

named : (l : Loop) (jid : Bytes) (now_ : ℕ) → is_name 64 jid ≡ true → is_loop l ≡ true → is_named (draft_of l jid now_) ≡ true
named l jid now_ id are = seven (is_name 64 jid) (is_name 255 l.class) (is_name 255 l.queue) id (class_named l are) (queue_named l are)

short : (l : Loop) (jid : Bytes) (now_ : ℕ) → is_name 64 jid ≡ true → is_loop l ≡ true → length (draft_text (draft_of l jid now_)) ≤ 1000000
unfolding draft_text
short l jid now_ id are =
    let made : length (decimal (min now_ last_moment)) ≤ 15 = length-decimal-le 15 (min now_ last_moment) (omega arith) (omega arith) (omega arith) in
    omega (
      arith,
      members_text_le false (draft_members (draft_of l jid now_)),
      quoted_le l.class,
      quoted_le l.queue,
      quoted_le jid,
      name_len 64 jid id,
      name_len 255 l.class (class_named l are),
      name_len 255 l.queue (queue_named l are),
      made,
      quoted_le (codes "args"),
      quoted_le (codes "class"),
      quoted_le (codes "created_at"),
      quoted_le (codes "jid"),
      quoted_le (codes "queue"),
      quoted_le (codes "retry"),
    )

pub never_refused : (l : Loop) (jid : Bytes) (now_ : ℕ) → is_name 64 jid ≡ true → is_loop l ≡ true → draft_fault (draft_of l jid now_) ≡ None
unfolding draft_fault
never_refused l jid now_ id are =
    let d = draft_of l jid now_ in
    ap (λ b. unless b fault.Name (unless (nat_le (length (draft_text d)) 1000000) fault.Long None)) (named l jid now_ id are)
    ∙ ap (λ b. unless b fault.Long None) (le-leb (length (draft_text d)) 1000000 (short l jid now_ id are))
