-- The entries of a bucket: what is found there, and what edits make of it.
use Rattle.std.proofs.Common.{◌≡◌, ◌<◌, ℕ, zero, suc, Bool, true, false, List, [], ◌∷◌, Some, None, length, slice_get, slice_set, slice_index_or, option_map, refl, sym, ap, subst, ◌∙◌, ◌⊎◌, inl, arith}
use mathlib.Core.Option as optional
use borrow.Follows.Closed.{read_of}
use base.Fml.{GName}
use Rattle.std.specs.Str.{bytes_eq}
use Rattle.std.specs.BTreeMap.{is_at}
use Rattle.std.specs.Cmp.Lexicographic.{texts_ties}
use Rattle.std.specs.List.{position_or_len}
use Rattle.sk_resp.specs.Spelling.{Bytes}
use Rattle.sk_resp.specs.WordOrder.{text_cmp}
use Rattle.sk_table.specs.Hashing.{hash_of}
use Rattle.std.proofs.lemmas.Option.{slice_get_past, slice_get_read}
use Rattle.std.proofs.lemmas.List.Sums.{passes_at_first}
use Rattle.sk_table.specs.Slots.{has_text, place_of, value_in, with_value}
use Rattle.sk_table.specs.declared.slot.Slot.{Slot}
use Rattle.sk_table.proofs.Ordered.{same_text}

-- texts that are compared byte by byte
pub at_by_bytes : (text other : Bytes) → bytes_eq text other ≡ is_at (text_cmp text) other
at_by_bytes text other = texts_ties text other

pub apart_by_hash : (text other : Bytes) → (hash_of text ≡ hash_of other → ⊥) → is_at (text_cmp text) other ≡ false
apart_by_hash text other apart = by_test (is_at (text_cmp text) other) refl
  where
    by_test : (b : Bool) → is_at (text_cmp text) other ≡ b → is_at (text_cmp text) other ≡ false
    by_test true h = absurd (apart (ap hash_of (same_text text other h)))
    by_test false h = h

module _ {K V : Type 0} (text_of : K → Bytes) where
  -- what stands at the index of a text
  pub value_found : (text : Bytes) (slots : List (Slot K V)) → option_map (λ slot. slot.value) (slice_get slots (position_or_len (has_text text_of text) slots)) ≡ value_in text_of text slots
  value_found text [] = refl
  value_found text (slot ∷ slots) = by_test (has_text text_of text slot) refl (value_found text slots)
    where
      by_test : (b : Bool) → has_text text_of text slot ≡ b → option_map (λ slot. slot.value) (slice_get slots (position_or_len (has_text text_of text) slots)) ≡ value_in text_of text slots
          → option_map (λ slot. slot.value) (slice_get (slot ∷ slots) (position_or_len (has_text text_of text) (slot ∷ slots))) ≡ value_in text_of text (slot ∷ slots)
      by_test true h more = grind (arith, h)
      by_test false h more = grind (arith, h, more)

  pub none_found : (text : Bytes) (slots : List (Slot K V)) → place_of text_of text slots ≡ length slots → value_in text_of text slots ≡ None
  none_found text slots past = sym (value_found text slots) ∙ ap (λ o. option_map (λ slot. slot.value) o) (ap (slice_get slots) past ∙ slice_get_past slots (length slots) (grind arith))

  pub some_found : (text : Bytes) (slots : List (Slot K V)) (place : ℕ) (slot : Slot K V) → place ≡ place_of text_of text slots → place < length slots → slot ≡ slice_index_or slots place slot → Some slot.value ≡ value_in text_of text slots
  some_found text slots place slot is within read = ap (λ o. option_map (λ slot. slot.value) o) (sym (slice_get_read slots (length slots) place slot refl within read) ∙ ap (slice_get slots) is) ∙ value_found text slots

  pub text_found : (text : Bytes) (slots : List (Slot K V)) (place : ℕ) (slot : Slot K V) → place ≡ place_of text_of text slots → place < length slots → slot ≡ slice_index_or slots place slot → text_of slot.key ≡ text
  text_found text slots place slot is within read =
      let passes = passes_at_first (has_text text_of text) slots slot (subst (λ i. i < length slots) is within) in
      let here : slice_index_or slots (place_of text_of text slots) slot ≡ slot = sym (read ∙ ap (λ i. slice_index_or slots i slot) is) in
      sym (same_text text (text_of slot.key) (sym (ap (has_text text_of text) here) ∙ passes))

-- what is lent under a name, or under none
pub read_alike : {A C : Type 0} (name : optional.Option GName) {left right : A → C} {these those : C} → ((w : A) → left w ≡ right w) → these ≡ those → read_of name left these ≡ read_of name right those
read_alike name alike same i = read_of name (λ w. alike w i) (same i)

-- what is lent under a name, by what is left behind it
pub lent_alike : {A B C D : Type 0} {name : A} {left right : B → C} → ((w : B) → left w ≡ right w) → ◌≡◌ {A = (A × (B → C)) ⊎ D} (inl (name, left)) (inl (name, right))
lent_alike {name = name} alike i = inl (name, λ w. alike w i)

module _ {K V : Type 0} where
  pub value_set : (slots : List (Slot K V)) (place : ℕ) (slot : Slot K V) (value : V) → place < length slots → slot ≡ slice_index_or slots place slot → slice_set slots place (record { key = slot.key; hash = slot.hash; value = value }) ≡ with_value slots place value
  value_set [] place slot value within read = absurd (grind (arith, within))
  value_set (first ∷ slots) zero slot value within read = ap (λ s. record { key = s.key; hash = s.hash; value = value } ∷ slots) read
  value_set (first ∷ slots) (suc place) slot value within read = ap (λ l. first ∷ l) (value_set slots place slot value (grind (arith, within)) read)
