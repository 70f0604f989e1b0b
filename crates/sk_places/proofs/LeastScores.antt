-- The first key of a text in a set has its least score there.
use Rattle.std.proofs.Common.{◌≡◌, ◌<◌, ℕ, ℤ, zero, suc, Bool, true, false, List, [], ◌∷◌, Option, Some, None, length, get_or, slice_get, subst, refl, sym, arith, ap, ap₂, ◌∙◌}
use Rattle.std.specs.BTreeMap.{is_at}
use Rattle.std.specs.Ordering.{int_cmp, is_eq, is_le, is_lt, ordering_then}
use Rattle.std.specs.declared.cmp.Ordering.{Ordering}
use Rattle.std.specs.declared.cmp.Ordering.TheVariants.{Less, Equal, Greater}
use Rattle.sk_resp.specs.Spelling.{Bytes}
use Rattle.sk_cmd.specs.declared.argument.Scored.{Scored}
use Rattle.sk_undo.specs.Partitioned.{all_pass}
use Rattle.sk_undo.specs.Queries.{lt_le}
use Rattle.sk_undo.specs.Sorted.{is_ordered, rank}
use Rattle.sk_places.specs.LiveJobs.{one_if}
use Rattle.sk_places.specs.TextIndex.{IsLeastScore, count_in}
use Rattle.sk_places.specs.TextKey.{Key, key_cmp, key_in, key_total, text_order}
use Rattle.sk_places.proofs.TextIndexed.{count_first, key_itself, same_place_of}

-- ## Keys in order

-- the key stands before this one, if there is one
abbrev is_before : Key → Option Key → Bool
is_before key None = true
is_before key (Some other) = is_lt (key_cmp key other)

not_at : (o : Ordering) → is_lt o ≡ true → is_eq o ≡ false
not_at Less h = refl
not_at Equal h = absurd (cc h)
not_at Greater h = absurd (cc h)

none_behind : (key first : Key) (keys : List Key) → is_lt (key_cmp key first) ≡ true → all_pass (λ other. is_le (key_cmp first other)) keys ≡ true → count_in key keys ≡ 0
none_behind key first [] h k = refl
none_behind key first (x ∷ keys) h k =
    let s = count_first key x keys in
    let b : is_le (key_cmp first x) ≡ true = grind (arith, k) in
    let n = not_at (key_cmp key x) (lt_le key_total key first x h b) in
    let m = none_behind key first keys h (grind (arith, k)) in
    s ∙ grind (arith, n, m)

none_first : (key first : Key) (keys : List Key) → is_lt (key_cmp key first) ≡ true → all_pass (λ other. is_le (key_cmp first other)) keys ≡ true → count_in key (first ∷ keys) ≡ 0
none_first key first keys h k =
    let s = count_first key first keys in
    let n = not_at (key_cmp key first) h in
    let m = none_behind key first keys h k in
    s ∙ grind (arith, n, m)

-- what is equal to a key of the text is a key of the text
at_text : (set : Scored) (text : Bytes) (score : ℤ) (other : Key) → is_le (text_order set text other) ≡ false → is_at (key_cmp (key_in set text score)) other ≡ false
at_text set text score other h = cases (text_order set text other) (int_cmp score other.2) h
  where
    cases : (o p : Ordering) → is_le o ≡ false → is_eq (ordering_then o p) ≡ false
    cases Less p h = absurd (cc h)
    cases Equal p h = absurd (cc h)
    cases Greater p h = refl

none_below : (set : Scored) (text : Bytes) (score : ℤ) (keys : List Key) → is_ordered key_cmp keys ≡ true → is_before (key_in set text score) (slice_get keys (rank (text_order set text) keys)) ≡ true → count_in (key_in set text score) keys ≡ 0
none_below set text score [] up h = refl
none_below set text score (first ∷ keys) up h = cases (is_le (text_order set text first)) refl (none_below set text score keys)
  where
    cases : (b : Bool) → is_le (text_order set text first) ≡ b
        → (is_ordered key_cmp keys ≡ true → is_before (key_in set text score) (slice_get keys (rank (text_order set text) keys)) ≡ true → count_in (key_in set text score) keys ≡ 0)
        → count_in (key_in set text score) (first ∷ keys) ≡ 0
    cases true e more =
        let z : rank (text_order set text) (first ∷ keys) ≡ 0 = grind (arith, e) in
        let b : is_before (key_in set text score) (Some first) ≡ true = sym (ap (λ n. is_before (key_in set text score) (slice_get (first ∷ keys) n)) z) ∙ h in
        none_first (key_in set text score) first keys b (grind (arith, up))
    cases false e more =
        let z : rank (text_order set text) (first ∷ keys) ≡ suc (rank (text_order set text) keys) = grind (arith, e) in
        let b : is_before (key_in set text score) (slice_get keys (rank (text_order set text) keys)) ≡ true = sym (ap (λ n. is_before (key_in set text score) (slice_get (first ∷ keys) n)) z) ∙ h in
        let s = count_first (key_in set text score) first keys in
        let n = at_text set text score first e in
        let m = more (grind (arith, up)) b in
        s ∙ grind (arith, n, m)

-- ## What was found

-- the first key that isn't before the text's
found_le : (set : Scored) (text : Bytes) (keys : List Key) (key : Key) → slice_get keys (rank (text_order set text) keys) ≡ Some key → is_le (text_order set text key) ≡ true
found_le set text [] key h = cc h
found_le set text (first ∷ keys) key h = cases (is_le (text_order set text first)) refl (found_le set text keys key)
  where
    cases : (b : Bool) → is_le (text_order set text first) ≡ b → (slice_get keys (rank (text_order set text) keys) ≡ Some key → is_le (text_order set text key) ≡ true) → is_le (text_order set text key) ≡ true
    cases true e more =
        let z : rank (text_order set text) (first ∷ keys) ≡ 0 = grind (arith, e) in
        let k : first ≡ key = cc (sym (ap (λ n. slice_get (first ∷ keys) n) z) ∙ h) in
        ap (λ k. is_le (text_order set text k)) (sym k) ∙ e
    cases false e more =
        let z : rank (text_order set text) (first ∷ keys) ≡ suc (rank (text_order set text) keys) = grind (arith, e) in
        more (sym (ap (λ n. slice_get (first ∷ keys) n) z) ∙ h)

strictly : (o p : Ordering) → is_le o ≡ true → is_eq o ≡ false → is_lt (ordering_then o p) ≡ true
strictly Less p h n = refl
strictly Equal p h n = absurd (cc n)
strictly Greater p h n = absurd (cc h)

level : (o p : Ordering) → is_eq o ≡ true → is_lt p ≡ true → is_lt (ordering_then o p) ≡ true
level Less p h l = absurd (cc h)
level Equal p h l = l
level Greater p h l = absurd (cc h)

-- a key that is there is counted
counted : (key : Key) (keys : List Key) (at : ℕ) → slice_get keys at ≡ Some key → 0 < count_in key keys
counted key [] at h = cc h
counted key (first ∷ keys) zero h =
    let e : first ≡ key = cc h in
    let s = count_first key first keys in
    let i : one_if (is_at (key_cmp key) first) ≡ 1 = ap (λ k. one_if (is_at (key_cmp key) k)) e ∙ ap one_if (key_itself key) in
    omega (arith, s, i)
counted key (first ∷ keys) (suc at) h =
    let s = count_first key first keys in
    let more = counted key keys at h in
    omega (arith, s, more)

there_is : (xs : List Key) (i : ℕ) (x : Key) → i < length xs → x ≡ get_or xs i x → slice_get xs i ≡ Some x
there_is [] i x h e = absurd (omega (arith, h))
there_is (y ∷ xs) zero x h e = ap Some (sym e)
there_is (y ∷ xs) (suc i) x h e = there_is xs i x (omega (arith, h)) e

past_is : (xs : List Key) (i : ℕ) → i ≡ length xs → slice_get xs i ≡ None
past_is [] i h = refl
past_is (y ∷ xs) zero h = absurd (omega (arith, h))
past_is (y ∷ xs) (suc i) h = past_is xs i (omega (arith, h))

module _ (set : Scored) (text : Bytes) (keys : List Key) (up : is_ordered key_cmp keys ≡ true) (at : ℕ) (here : at ≡ rank (text_order set text) keys) where
  -- all keys stand before the text's
  pub none_found : at ≡ length keys → IsLeastScore set text None keys
  none_found end = record {
    none = λ score l. none_below set text score keys up (ap (is_before (key_in set text score)) (ap (slice_get keys) (sym here) ∙ past_is keys at end));
    there = tt;
  }

  module _ (key : Key) (within : at < length keys) (is : key ≡ get_or keys at key) where
    found : slice_get keys (rank (text_order set text) keys) ≡ Some key
    found = ap (slice_get keys) (sym here) ∙ there_is keys at key within is

    -- a key of another text was found
    pub other_found : is_eq (text_order set text key) ≡ false → IsLeastScore set text None keys
    other_found other = record {
      none = λ score l. none_below set text score keys up (ap (is_before (key_in set text score)) found ∙ strictly (text_order set text key) (int_cmp score key.2) (found_le set text keys key found) other);
      there = tt;
    }

    -- one of the text was
    pub text_found : is_eq (text_order set text key) ≡ true → IsLeastScore set text (Some key.2) keys
    text_found it = record {
      none = λ score l. none_below set text score keys up (ap (is_before (key_in set text score)) found ∙ level (text_order set text key) (int_cmp score key.2) it l);
      there = (let s = same_place_of set text key it in subst (λ k. 0 < count_in k keys) (sym (ap₂ (λ a b. key_in a b key.2) s.0 s.1)) (counted key keys at (there_is keys at key within is)));
    }
