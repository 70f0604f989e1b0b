-- Two asks that were answered and have one text are the same: a request's text tells where it ends.
use Rattle.std.proofs.Common.{◌≡◌, ◌<◌, ◌≤◌, ◌+◌, ◌^◌, ◌∙◌, ℕ, [], ◌∷◌, ◌++◌, Option, Some, None, IsSome, unwrap_or, ap, append_assoc, arith, length, length-append, refl, sym}
use Rattle.std.specs.Fmt.{decimal}
use Rattle.std.specs.List.{AllByRecursion}
use Rattle.sk_resp.specs.Spelling.{Bytes, bulk, header}
use Rattle.sk_resp.specs.Request.{Command, array, bulks}
use Rattle.sk_resp.proofs.Items.{bulk-is, header-is, same_header, same_line, same_parts}
use Rattle.sk_compare.specs.Exchange.{Exchange, FitsMemory, WasAnswered, text_in, text_of}

-- ## What stands within a text is no longer

bulk_len : (w x : Bytes) → length w + length x < length (bulk w ++ x)
bulk_len w x =
    let ds = decimal (length w) in
    omega (
      arith,
      ap (λ l. length l) (bulk-is w x),
      length-append (ds ++ 13 ∷ []) (10 ∷ (w ++ 13 ∷ 10 ∷ x)),
      length-append w (13 ∷ 10 ∷ x),
    )

bulks_then : (w : Bytes) (ws : Command) (x : Bytes) → bulks (w ∷ ws) ++ x ≡ bulk w ++ (bulks ws ++ x)
bulks_then w ws x = append_assoc (bulk w) (bulks ws) x

-- so are its words, and how many they are
words_short : (ws : Command) (x : Bytes) → length (bulks ws ++ x) < 2 ^ 63 → AllByRecursion FitsMemory ws
words_short [] x small = tt
words_short (w ∷ ws) x small =
    let one = bulk_len w (bulks ws ++ x) in
    let all = ap (λ l. length l) (bulks_then w ws x) in
    (omega (arith, one, all, small), words_short ws x (omega (arith, one, all, small)))

count_short : (ws : Command) (x : Bytes) → length ws + length x ≤ length (bulks ws ++ x)
count_short [] x = omega arith
count_short (w ∷ ws) x = omega (arith, bulk_len w (bulks ws ++ x), ap (λ l. length l) (bulks_then w ws x), count_short ws x)

-- ## Words

same_word : (v w x y : Bytes) → FitsMemory v → FitsMemory w → bulk v ++ x ≡ bulk w ++ y → (v ≡ w) × (x ≡ y)
same_word v w x y short short' e =
    let f = sym (bulk-is v x) ∙ e ∙ bulk-is w y in
    let tail : (decimal (length v) ++ 13 ∷ []) ++ 10 ∷ (v ++ 13 ∷ 10 ∷ x) ≡ (decimal (length w) ++ 13 ∷ []) ++ 10 ∷ (w ++ 13 ∷ 10 ∷ y) = cc f in
    let lines = same_line (length v) (length w) (v ++ 13 ∷ 10 ∷ x) (w ++ 13 ∷ 10 ∷ y) (omega (arith, short)) (omega (arith, short')) tail in
    let words = same_parts v w (13 ∷ 10 ∷ x) (13 ∷ 10 ∷ y) lines.0 lines.1 in
    (words.0, let ends : 13 ∷ 10 ∷ x ≡ 13 ∷ 10 ∷ y = words.1 in cc ends)

same_words : (vs ws : Command) (x y : Bytes) → length vs ≡ length ws → AllByRecursion FitsMemory vs → AllByRecursion FitsMemory ws →
    bulks vs ++ x ≡ bulks ws ++ y → (vs ≡ ws) × (x ≡ y)
same_words [] [] x y count short short' e = (refl, e)
same_words [] (w ∷ ws) x y count short short' e = absurd (omega (arith, count))
same_words (v ∷ vs) [] x y count short short' e = absurd (omega (arith, count))
same_words (v ∷ vs) (w ∷ ws) x y count short short' e =
    let first = same_word v w (bulks vs ++ x) (bulks ws ++ y) short.0 short'.0 (sym (bulks_then v vs x) ∙ e ∙ bulks_then w ws y) in
    let rest = same_words vs ws x y (omega (arith, count)) short.1 short'.1 first.1 in
    (cc (first.0, rest.0), rest.1)

-- ## Requests

header_len : (n : ℕ) (x : Bytes) → length x ≤ length (header n ++ x)
header_len n x = omega (arith, length-append (header n) x)

-- Two requests with one text, each with what stands behind it, are the same, and so is that.
same_texts : (a b : Command) (r s : Bytes) → FitsMemory (array a ++ r) → FitsMemory (array b ++ s) → array a ++ r ≡ array b ++ s → (a ≡ b) × (r ≡ s)
same_texts a b r s small small' e =
    let own = append_assoc (header (length a)) (bulks a) r in
    let other = append_assoc (header (length b)) (bulks b) s in
    let short : length (bulks a ++ r) < 2 ^ 63 = omega (arith, header_len (length a) (bulks a ++ r), ap (λ l. length l) own, small) in
    let short' : length (bulks b ++ s) < 2 ^ 63 = omega (arith, header_len (length b) (bulks b ++ s), ap (λ l. length l) other, small') in
    let heads = same_header (length a) (length b) (bulks a ++ r) (bulks b ++ s) (omega (arith, short, count_short a r)) (omega (arith, short', count_short b s)) (sym own ∙ e ∙ other) in
    same_words a b r s heads.0 (words_short a r short) (words_short b s short') heads.1

-- ## Asks

same_reply : (p q : Option Bytes) → IsSome p → IsSome q → unwrap_or p [] ≡ unwrap_or q [] → p ≡ q
same_reply None q i j e = absurd (cc i)
same_reply (Some r) None i j e = absurd (cc j)
same_reply (Some r) (Some s) i j e = ap (λ t. Some t) e

same_ask : (x y : Exchange) → FitsMemory (text_of x) → FitsMemory (text_of y) → IsSome x.reply → IsSome y.reply → text_of x ≡ text_of y → x ≡ y
same_ask x y small small' i j e =
    let both = same_texts x.request y.request (unwrap_or x.reply []) (unwrap_or y.reply []) small small' e in
    let reply = same_reply x.reply y.reply i j both.1 in
    both_same x.request y.request x.reply y.reply both.0 reply
  where
    both_same : (a b : Command) (p q : Option Bytes) → a ≡ b → p ≡ q → ◌≡◌ {A = Exchange} (record { request = a; reply = p }) (record { request = b; reply = q })
    both_same a b p q e f = cc

-- the text of an ask isn't empty
some_text : (y : Exchange) → [] ≡ text_of y → ⊥
some_text y e = let is : [] ≡ 42 ∷ _ = e ∙ (append_assoc (header (length y.request)) (bulks y.request) (unwrap_or y.reply []) ∙ header-is (length y.request) (bulks y.request ++ unwrap_or y.reply [])) in cc is

-- Two that differ have different texts, where both were answered.
pub texts_differ : (x y : Option Exchange) → (x ≡ y → ⊥) → FitsMemory (text_in x) → FitsMemory (text_in y) → WasAnswered x → WasAnswered y → text_in x ≡ text_in y → ⊥
texts_differ None None other small small' i j e = other refl
texts_differ None (Some y) other small small' i j e = some_text y e
texts_differ (Some x) None other small small' i j e = some_text x (sym e)
texts_differ (Some x) (Some y) other small small' i j e = other (ap (λ z. Some z) (same_ask x y small small' i j e))
