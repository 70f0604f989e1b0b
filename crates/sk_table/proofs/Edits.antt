-- Edits of a bucket: what stands under each text afterwards, and that it stays one.
use Rattle.std.proofs.Common.{◌≡◌, ℕ, zero, suc, Bool, true, false, cond, List, [], ◌∷◌, ◌++◌, Some, None, option_map, refl, sym, ap, subst, ◌∙◌, true≢false, arith}
use Rattle.std.specs.BTreeMap.{is_at}
use Rattle.std.specs.Cmp.{eq_by_cmp_equiv}
use Rattle.std.specs.List.{AllByRecursion, IsDistinct, remove}
use Rattle.std.specs.Map.{keys_of, lookup, remove_entry, set_value}
use Rattle.std.specs.Option.{is_some}
use Rattle.std.specs.Ordering.{eq_by_cmp}
use Rattle.std.proofs.lemmas.Cmp.{nat_list_cmp_total}
use Rattle.std.proofs.lemmas.Map.{lookup-remove_entry}
use Rattle.std.proofs.lemmas.Map.Keys.{IsDistinct-cons, IsDistinct-head, IsDistinct-push, IsDistinct-tail}
use Rattle.std.proofs.lemmas.Map.Made.{is_some-lookup}
use Rattle.sk_resp.specs.Spelling.{Bytes}
use Rattle.sk_resp.specs.WordOrder.{text_cmp}
use Rattle.sk_table.specs.Hashing.{address, hash_of}
use Rattle.sk_table.specs.Slots.{AreDistinct, IsBucket, entries_of, has_text, place_of, value_in, with_value}
use Rattle.sk_table.specs.declared.slot.Slot.{Slot}
use Rattle.sk_table.proofs.Ordered.{at_other, at_set, same_text}

-- ## Lists

all_push : {X : Type 0} (P : X → Type 0) (xs : List X) (x : X) → AllByRecursion P xs → P x → AllByRecursion P (xs ++ x ∷ [])
all_push P [] x all p = (p, tt)
all_push P (first ∷ xs) x all p = (all.0, all_push P xs x all.1 p)

all_remove : {X : Type 0} (P : X → Type 0) (xs : List X) (place : ℕ) → AllByRecursion P xs → AllByRecursion P (remove xs place)
all_remove P [] zero all = tt
all_remove P [] (suc place) all = tt
all_remove P (first ∷ xs) zero all = all.1
all_remove P (first ∷ xs) (suc place) all = (all.0, all_remove P xs place all.1)

-- a text asks for itself, as the maps of std want it
one_key : (text x y : Bytes) → is_at (text_cmp text) x ≡ true → is_at (text_cmp text) y ≡ eq_by_cmp text_cmp x y
one_key text x y h = ap (λ t. is_at (text_cmp t) y) (same_text text x h)

module _ {K V : Type 0} (text_of : K → Bytes) where
  place_here : (text : Bytes) (slot : Slot K V) (slots : List (Slot K V)) → has_text text_of text slot ≡ true → place_of text_of text (slot ∷ slots) ≡ 0
  place_here text slot slots h = grind (arith, h)

  place_later : (text : Bytes) (slot : Slot K V) (slots : List (Slot K V)) → has_text text_of text slot ≡ false → place_of text_of text (slot ∷ slots) ≡ suc (place_of text_of text slots)
  place_later text slot slots h = grind (arith, h)

  -- ## Another value

  module _ (value : V) where
    entries_with : (text : Bytes) (slots : List (Slot K V)) → entries_of text_of (with_value slots (place_of text_of text slots) value) ≡ set_value (is_at (text_cmp text)) (entries_of text_of slots) value
    entries_with text [] = refl
    entries_with text (slot ∷ slots) = by_test (has_text text_of text slot) refl (entries_with text slots)
      where
        by_test : (b : Bool) → has_text text_of text slot ≡ b → entries_of text_of (with_value slots (place_of text_of text slots) value) ≡ set_value (is_at (text_cmp text)) (entries_of text_of slots) value
            → entries_of text_of (with_value (slot ∷ slots) (place_of text_of text (slot ∷ slots)) value) ≡ set_value (is_at (text_cmp text)) (entries_of text_of (slot ∷ slots)) value
        by_test true h more = grind (arith, h)
        by_test false h more = grind (arith, h, more)

    pub value_with : (text other : Bytes) (slots : List (Slot K V))
        → value_in text_of other (with_value slots (place_of text_of text slots) value) ≡ cond (is_at (text_cmp text) other) (option_map (λ _. value) (value_in text_of text slots)) (value_in text_of other slots)
    value_with text other slots = ap (lookup (is_at (text_cmp other))) (entries_with text slots) ∙ at_set text other value (entries_of text_of slots)

    all_with : (P : K → ℕ → Type 0) (slots : List (Slot K V)) (place : ℕ) → AllByRecursion (λ slot. P slot.key slot.hash) slots → AllByRecursion (λ slot. P slot.key slot.hash) (with_value slots place value)
    all_with P [] place all = tt
    all_with P (slot ∷ slots) zero all = all
    all_with P (slot ∷ slots) (suc place) all = (all.0, all_with P slots place all.1)

    keys_with : (slots : List (Slot K V)) (place : ℕ) → keys_of (entries_of text_of (with_value slots place value)) ≡ keys_of (entries_of text_of slots)
    keys_with [] place = refl
    keys_with (slot ∷ slots) zero = refl
    keys_with (slot ∷ slots) (suc place) = ap (λ l. text_of slot.key ∷ l) (keys_with slots place)

    pub bucket_with : {half count here : ℕ} (slots : List (Slot K V)) (place : ℕ) → IsBucket text_of half count here slots → IsBucket text_of half count here (with_value slots place value)
    bucket_with {half} {count} {here} slots place is = record {
      hashed = all_with (λ key hash. hash ≡ hash_of (text_of key)) slots place is.hashed;
      placed = all_with (λ key hash. address half count hash ≡ here) slots place is.placed;
      distinct = subst (IsDistinct (eq_by_cmp text_cmp)) (sym (keys_with slots place)) is.distinct;
    }

  -- ## One more

  entries_push : (slots : List (Slot K V)) (slot : Slot K V) → entries_of text_of (slots ++ slot ∷ []) ≡ entries_of text_of slots ++ (text_of slot.key, slot.value) ∷ []
  entries_push [] slot = refl
  entries_push (first ∷ slots) slot = ap (λ l. (text_of first.key, first.value) ∷ l) (entries_push slots slot)

  keys_push : (slots : List (Slot K V)) (slot : Slot K V) → keys_of (entries_of text_of (slots ++ slot ∷ [])) ≡ keys_of (entries_of text_of slots) ++ text_of slot.key ∷ []
  keys_push [] slot = refl
  keys_push (first ∷ slots) slot = ap (λ l. text_of first.key ∷ l) (keys_push slots slot)

  pub value_push : (other : Bytes) (slots : List (Slot K V)) (slot : Slot K V) → value_in text_of (text_of slot.key) slots ≡ None
      → value_in text_of other (slots ++ slot ∷ []) ≡ cond (is_at (text_cmp (text_of slot.key)) other) (Some slot.value) (value_in text_of other slots)
  value_push other [] slot none = ap (λ b. cond b (Some slot.value) None) (at_other other (text_of slot.key))
  value_push other (first ∷ slots) slot none = by_own (is_at (text_cmp (text_of slot.key)) (text_of first.key)) refl none (value_push other slots slot)
    where
      by_first : is_at (text_cmp (text_of slot.key)) (text_of first.key) ≡ false → (b : Bool) → is_at (text_cmp other) (text_of first.key) ≡ b
          → value_in text_of other (slots ++ slot ∷ []) ≡ cond (is_at (text_cmp (text_of slot.key)) other) (Some slot.value) (value_in text_of other slots)
          → value_in text_of other (first ∷ slots ++ slot ∷ []) ≡ cond (is_at (text_cmp (text_of slot.key)) other) (Some slot.value) (value_in text_of other (first ∷ slots))
      by_first apart true h more =
          let elsewhere : is_at (text_cmp (text_of slot.key)) other ≡ false = ap (λ t. is_at (text_cmp (text_of slot.key)) t) (same_text other (text_of first.key) h) ∙ apart in
          grind (arith, h, elsewhere)
      by_first apart false h more = grind (arith, h, more)

      by_own : (b : Bool) → is_at (text_cmp (text_of slot.key)) (text_of first.key) ≡ b → value_in text_of (text_of slot.key) (first ∷ slots) ≡ None
          → (value_in text_of (text_of slot.key) slots ≡ None → value_in text_of other (slots ++ slot ∷ []) ≡ cond (is_at (text_cmp (text_of slot.key)) other) (Some slot.value) (value_in text_of other slots))
          → value_in text_of other (first ∷ slots ++ slot ∷ []) ≡ cond (is_at (text_cmp (text_of slot.key)) other) (Some slot.value) (value_in text_of other (first ∷ slots))
      by_own true h none more = absurd (true≢false (ap is_some (sym (ap (λ b. cond b (Some first.value) (value_in text_of (text_of slot.key) slots)) h) ∙ none)))
      by_own false h none more = by_first h (is_at (text_cmp other) (text_of first.key)) refl (more (sym (ap (λ b. cond b (Some first.value) (value_in text_of (text_of slot.key) slots)) h) ∙ none))

  pub bucket_push : {half count here : ℕ} (slots : List (Slot K V)) (slot : Slot K V) → IsBucket text_of half count here slots → value_in text_of (text_of slot.key) slots ≡ None
      → slot.hash ≡ hash_of (text_of slot.key) → address half count slot.hash ≡ here → IsBucket text_of half count here (slots ++ slot ∷ [])
  bucket_push slots slot is none hash place = record {
    hashed = all_push _ slots slot is.hashed hash;
    placed = all_push _ slots slot is.placed place;
    distinct = subst (IsDistinct (eq_by_cmp text_cmp)) (sym (keys_push slots slot))
        (IsDistinct-push (eq_by_cmp_equiv nat_list_cmp_total) (keys_of (entries_of text_of slots)) (text_of slot.key) is.distinct
        (sym (is_some-lookup (is_at (text_cmp (text_of slot.key))) (entries_of text_of slots)) ∙ ap is_some none));
  }

  -- ## One less

  entries_remove : (text : Bytes) (slots : List (Slot K V)) → entries_of text_of (remove slots (place_of text_of text slots)) ≡ remove_entry (is_at (text_cmp text)) (entries_of text_of slots)
  entries_remove text [] = refl
  entries_remove text (slot ∷ slots) = by_test (has_text text_of text slot) refl (entries_remove text slots)
    where
      by_test : (b : Bool) → has_text text_of text slot ≡ b → entries_of text_of (remove slots (place_of text_of text slots)) ≡ remove_entry (is_at (text_cmp text)) (entries_of text_of slots)
          → entries_of text_of (remove (slot ∷ slots) (place_of text_of text (slot ∷ slots))) ≡ remove_entry (is_at (text_cmp text)) (entries_of text_of (slot ∷ slots))
      by_test true h more =
          ap (λ i. entries_of text_of (remove (slot ∷ slots) i)) (place_here text slot slots h) ∙ sym (ap (λ b. cond b (entries_of text_of slots) ((text_of slot.key, slot.value) ∷ remove_entry (is_at (text_cmp text)) (entries_of text_of slots))) h)
      by_test false h more =
          ap (λ i. entries_of text_of (remove (slot ∷ slots) i)) (place_later text slot slots h) ∙ ap (λ l. (text_of slot.key, slot.value) ∷ l) more
          ∙ sym (ap (λ b. cond b (entries_of text_of slots) ((text_of slot.key, slot.value) ∷ remove_entry (is_at (text_cmp text)) (entries_of text_of slots))) h)

  pub value_remove : (text other : Bytes) (slots : List (Slot K V)) → AreDistinct text_of slots
      → value_in text_of other (remove slots (place_of text_of text slots)) ≡ cond (is_at (text_cmp text) other) None (value_in text_of other slots)
  value_remove text other slots distinct =
      ap (lookup (is_at (text_cmp other))) (entries_remove text slots) ∙ lookup-remove_entry (eq_by_cmp_equiv nat_list_cmp_total) (is_at (text_cmp text)) (one_key text) other (entries_of text_of slots) distinct

  all_keys_remove : (P : Bytes → Type 0) (slots : List (Slot K V)) (place : ℕ) → AllByRecursion P (keys_of (entries_of text_of slots)) → AllByRecursion P (keys_of (entries_of text_of (remove slots place)))
  all_keys_remove P [] zero all = tt
  all_keys_remove P [] (suc place) all = tt
  all_keys_remove P (slot ∷ slots) zero all = all.1
  all_keys_remove P (slot ∷ slots) (suc place) all = (all.0, all_keys_remove P slots place all.1)

  distinct_remove : (slots : List (Slot K V)) (place : ℕ) → AreDistinct text_of slots → AreDistinct text_of (remove slots place)
  distinct_remove [] zero distinct = distinct
  distinct_remove [] (suc place) distinct = distinct
  distinct_remove (slot ∷ slots) zero distinct = IsDistinct-tail (eq_by_cmp text_cmp) (text_of slot.key) (keys_of (entries_of text_of slots)) distinct
  distinct_remove (slot ∷ slots) (suc place) distinct =
      let keys = keys_of (entries_of text_of slots) in
      IsDistinct-cons (eq_by_cmp text_cmp) (text_of slot.key) (keys_of (entries_of text_of (remove slots place)))
      (all_keys_remove (λ other. eq_by_cmp text_cmp (text_of slot.key) other ≡ false) slots place (IsDistinct-head (eq_by_cmp text_cmp) (text_of slot.key) keys distinct))
      (distinct_remove slots place (IsDistinct-tail (eq_by_cmp text_cmp) (text_of slot.key) keys distinct))

  pub bucket_remove : {half count here : ℕ} (slots : List (Slot K V)) (place : ℕ) → IsBucket text_of half count here slots → IsBucket text_of half count here (remove slots place)
  bucket_remove slots place is = record {
    hashed = all_remove _ slots place is.hashed;
    placed = all_remove _ slots place is.placed;
    distinct = distinct_remove slots place is.distinct;
  }
