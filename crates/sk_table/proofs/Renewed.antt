-- Another key of the same text changes nothing that contracts see.
use Rattle.std.proofs.Common.{◌≡◌, ◌<◌, ℕ, zero, suc, Bool, true, false, cond, List, [], ◌∷◌, ◌++◌, Some, length, slice_get, slice_set, slice_index_or, refl, sym, ap, subst, ◌∙◌, arith}
use Rattle.std.specs.BTreeMap.{is_at}
use Rattle.std.specs.List.{AllByRecursion, IsDistinct, position_or_len}
use Rattle.std.specs.Map.{keys_of}
use Rattle.std.specs.Ordering.{eq_by_cmp}
use Rattle.std.proofs.lemmas.Option.{slice_get_read}
use Rattle.sk_resp.specs.Spelling.{Bytes}
use Rattle.sk_resp.specs.WordOrder.{text_cmp}
use Rattle.sk_table.specs.Entries.{in_order}
use Rattle.sk_table.specs.Hashing.{address, hash_of}
use Rattle.sk_table.specs.Slots.{IsBucket, entries_of, has_text, place_of, with_key}
use Rattle.sk_table.specs.Table.{IsTable, all_entries, table_in}
use Rattle.sk_table.specs.declared.slot.Slot.{Slot}
use Rattle.sk_table.proofs.Finds.{table_is_set, bucket_is}
use Rattle.sk_table.proofs.Ordered.{same_text}

module _ {K V : Type 0} (text_of : K → Bytes) (key : K) where
  pub key_set : (slots : List (Slot K V)) (place : ℕ) (slot : Slot K V) → place ≡ place_of text_of (text_of key) slots → place < length slots → slot ≡ slice_index_or slots place slot
      → slice_set slots place (record { key = key; hash = slot.hash; value = slot.value }) ≡ with_key text_of key slots
  key_set [] place slot is within read = absurd (grind (arith, within))
  key_set (first ∷ slots) place slot is within read = by_test (has_text text_of (text_of key) first) refl (key_set slots)
    where
      later : (n : ℕ) → place ≡ suc n → ((n : ℕ) (slot : Slot K V) → n ≡ place_of text_of (text_of key) slots → n < length slots → slot ≡ slice_index_or slots n slot → slice_set slots n (record { key = key; hash = slot.hash; value = slot.value }) ≡ with_key text_of key slots)
          → n ≡ place_of text_of (text_of key) slots → slice_set (first ∷ slots) place (record { key = key; hash = slot.hash; value = slot.value }) ≡ first ∷ with_key text_of key slots
      later n e more place_is =
          let inside : n < length slots = grind (arith, e, within) in
          let here : slot ≡ slice_index_or slots n slot = read ∙ ap (λ p. slice_index_or (first ∷ slots) p slot) e in
          ap (λ p. slice_set (first ∷ slots) p (record { key = key; hash = slot.hash; value = slot.value })) e ∙ ap (λ l. first ∷ l) (more n slot place_is inside here)

      by_test : (b : Bool) → has_text text_of (text_of key) first ≡ b → ((n : ℕ) (slot : Slot K V) → n ≡ place_of text_of (text_of key) slots → n < length slots → slot ≡ slice_index_or slots n slot → slice_set slots n (record { key = key; hash = slot.hash; value = slot.value }) ≡ with_key text_of key slots)
          → slice_set (first ∷ slots) place (record { key = key; hash = slot.hash; value = slot.value }) ≡ with_key text_of key (first ∷ slots)
      by_test true here more =
          let zero_is : place ≡ 0 = grind (arith, is, here) in
          let first_is : slot ≡ first = read ∙ ap (λ p. slice_index_or (first ∷ slots) p slot) zero_is in
          ap (λ p. slice_set (first ∷ slots) p (record { key = key; hash = slot.hash; value = slot.value })) zero_is
          ∙ ap (λ s. record { key = key; hash = s.hash; value = s.value } ∷ slots) first_is
          ∙ ap (λ b. cond b (record first { key = key } ∷ slots) (first ∷ with_key text_of key slots)) (sym here)
      by_test false here more =
          let past : place ≡ suc (place_of text_of (text_of key) slots) = grind (arith, is, here) in
          later (place_of text_of (text_of key) slots) past more refl ∙ ap (λ b. cond b (record first { key = key } ∷ slots) (first ∷ with_key text_of key slots)) (sym here)

  pub key_absent : (slots : List (Slot K V)) → place_of text_of (text_of key) slots ≡ length slots → with_key text_of key slots ≡ slots
  key_absent [] past = refl
  key_absent (first ∷ slots) past = by_test (has_text text_of (text_of key) first) refl (key_absent slots)
    where
      by_test : (b : Bool) → has_text text_of (text_of key) first ≡ b → (place_of text_of (text_of key) slots ≡ length slots → with_key text_of key slots ≡ slots) → with_key text_of key (first ∷ slots) ≡ first ∷ slots
      by_test true here more = absurd (grind (arith, past, here))
      by_test false here more = ap (λ b. cond b (record first { key = key } ∷ slots) (first ∷ with_key text_of key slots)) here ∙ ap (λ l. first ∷ l) (more (grind (arith, past, here)))

  entries_same : (slots : List (Slot K V)) → entries_of text_of (with_key text_of key slots) ≡ entries_of text_of slots
  entries_same [] = refl
  entries_same (first ∷ slots) = by_test (has_text text_of (text_of key) first) refl (entries_same slots)
    where
      by_test : (b : Bool) → has_text text_of (text_of key) first ≡ b → entries_of text_of (with_key text_of key slots) ≡ entries_of text_of slots
          → entries_of text_of (cond b (record first { key = key } ∷ slots) (first ∷ with_key text_of key slots)) ≡ entries_of text_of (first ∷ slots)
      by_test true here more = ap (λ t. (t, first.value) ∷ entries_of text_of slots) (same_text (text_of key) (text_of first.key) here)
      by_test false here more = ap (λ l. (text_of first.key, first.value) ∷ l) more

  all_same : (P : Bytes → ℕ → Type 0) (slots : List (Slot K V)) → AllByRecursion (λ slot. P (text_of slot.key) slot.hash) slots → AllByRecursion (λ slot. P (text_of slot.key) slot.hash) (with_key text_of key slots)
  all_same P [] all = tt
  all_same P (first ∷ slots) all = by_test (has_text text_of (text_of key) first) refl (all_same P slots all.1)
    where
      by_test : (b : Bool) → has_text text_of (text_of key) first ≡ b → AllByRecursion (λ slot. P (text_of slot.key) slot.hash) (with_key text_of key slots)
          → AllByRecursion (λ slot. P (text_of slot.key) slot.hash) (cond b (record first { key = key } ∷ slots) (first ∷ with_key text_of key slots))
      by_test true here more = (subst (λ t. P t first.hash) (sym (same_text (text_of key) (text_of first.key) here)) all.0, all.1)
      by_test false here more = (all.0, more)

  pub bucket_renewed : {half count here : ℕ} (slots : List (Slot K V)) → IsBucket text_of half count here slots → IsBucket text_of half count here (with_key text_of key slots)
  bucket_renewed {half} {count} {here} slots is = record {
    hashed = all_same (λ text hash. hash ≡ hash_of text) slots is.hashed;
    placed = all_same (λ text hash. address half count hash ≡ here) slots is.placed;
    distinct = subst (λ e. IsDistinct (eq_by_cmp text_cmp) (keys_of e)) (sym (entries_same slots)) is.distinct;
  }

  all_entries_set : (buckets : List (List (Slot K V))) (here : ℕ) (bucket : List (Slot K V)) → here < length buckets → bucket ≡ slice_index_or buckets here bucket → all_entries text_of (slice_set buckets here (with_key text_of key bucket)) ≡ all_entries text_of buckets
  all_entries_set [] here bucket within read = absurd (grind (arith, within))
  all_entries_set (first ∷ buckets) zero bucket within read = ap (λ l. l ++ all_entries text_of buckets) (entries_same bucket ∙ ap (entries_of text_of) read)
  all_entries_set (first ∷ buckets) (suc here) bucket within read = ap (λ l. entries_of text_of first ++ l) (all_entries_set buckets here bucket (grind (arith, within)) read)

  pub same_renewed : (buckets : List (List (Slot K V))) (here : ℕ) (bucket : List (Slot K V)) → here < length buckets → bucket ≡ slice_index_or buckets here bucket → table_in text_of (slice_set buckets here (with_key text_of key bucket)) ≡ table_in text_of buckets
  same_renewed buckets here bucket within read = ap in_order (all_entries_set buckets here bucket within read)

  pub table_renewed : (half : ℕ) (buckets : List (List (Slot K V))) → IsTable text_of half buckets → (text : Bytes) (here : ℕ) → here ≡ address half (length buckets) (hash_of text) → (bucket : List (Slot K V)) → here < length buckets → bucket ≡ slice_index_or buckets here bucket
      → IsTable text_of half (slice_set buckets here (with_key text_of key bucket))
  table_renewed half buckets is text here place bucket within read =
      table_is_set text_of half buckets is text here place bucket within read (with_key text_of key bucket) (bucket_renewed bucket (bucket_is text_of half buckets is text here place bucket within read))
