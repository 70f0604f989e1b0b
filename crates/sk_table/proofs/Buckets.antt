-- A text stands in the bucket at its address, or nowhere.
use Rattle.std.proofs.Common.{◌≡◌, ◌<◌, ℕ, zero, suc, Bool, true, false, cond, List, [], ◌∷◌, ◌++◌, Option, Some, None, length, slice_get, slice_set, nat_eq, refl, sym, ap, subst, ◌∙◌, true≢false, arith, option_and_then}
use Rattle.std.specs.BTreeMap.{is_at}
use Rattle.std.specs.List.{AllByRecursion}
use Rattle.std.specs.Option.{is_some, unwrap_or}
use Rattle.std.proofs.lemmas.List.{length-set}
use Rattle.std.proofs.lemmas.Option.{slice_get_past}
use Rattle.sk_resp.specs.Spelling.{Bytes}
use Rattle.sk_resp.specs.WordOrder.{text_cmp}
use Rattle.sk_table.specs.Entries.{at}
use Rattle.sk_table.specs.Hashing.{address, hash_of}
use Rattle.sk_table.specs.Slots.{AreHashed, IsBucket, entries_of, value_in}
use Rattle.sk_table.specs.Table.{ArePlaced, all_entries, table_in}
use Rattle.sk_table.specs.declared.slot.Slot.{Slot}
use Rattle.sk_table.proofs.Ordered.{at_in_order, same_text}

module _ {V : Type 0} where
  -- the first of two lists counts
  at_append_none : (text : Bytes) (these those : List (Bytes × V)) → at text these ≡ None → at text (these ++ those) ≡ at text those
  at_append_none text [] those none = refl
  at_append_none text (first ∷ these) those none = by_test (is_at (text_cmp text) first.0) refl (at_append_none text these those)
    where
      by_test : (b : Bool) → is_at (text_cmp text) first.0 ≡ b → (at text these ≡ None → at text (these ++ those) ≡ at text those) → at text (first ∷ these ++ those) ≡ at text those
      by_test true h more = absurd (true≢false (ap is_some (sym (ap (λ b. cond b (Some first.1) (at text these)) h) ∙ none)))
      by_test false h more =
          ap (λ b. cond b (Some first.1) (at text (these ++ those))) h ∙ more (sym (ap (λ b. cond b (Some first.1) (at text these)) h) ∙ none)

  at_append : (text : Bytes) (these those : List (Bytes × V)) → at text those ≡ None → at text (these ++ those) ≡ at text these
  at_append text [] those none = none
  at_append text (first ∷ these) those none = ap (λ o. cond (is_at (text_cmp text) first.0) (Some first.1) o) (at_append text these those none)

apart_by : (text other : Bytes) (f : Bytes → ℕ) → (f text ≡ f other → ⊥) → is_at (text_cmp text) other ≡ false
apart_by text other f apart = by_test (is_at (text_cmp text) other) refl
  where
    by_test : (b : Bool) → is_at (text_cmp text) other ≡ b → is_at (text_cmp text) other ≡ false
    by_test true h = absurd (apart (ap f (same_text text other h)))
    by_test false h = h

module _ {X : Type 0} where
  pub get_set_here : (xs : List X) (here : ℕ) (x : X) → here < length xs → slice_get (slice_set xs here x) here ≡ Some x
  get_set_here [] here x h = absurd (grind (arith, h))
  get_set_here (first ∷ xs) zero x h = refl
  get_set_here (first ∷ xs) (suc here) x h = get_set_here xs here x (grind (arith, h))

  pub get_set_there : (xs : List X) (here there : ℕ) (x : X) → (there ≡ here → ⊥) → slice_get (slice_set xs here x) there ≡ slice_get xs there
  get_set_there [] here there x apart = refl
  get_set_there (first ∷ xs) zero zero x apart = absurd (apart refl)
  get_set_there (first ∷ xs) zero (suc there) x apart = refl
  get_set_there (first ∷ xs) (suc here) zero x apart = refl
  get_set_there (first ∷ xs) (suc here) (suc there) x apart = get_set_there xs here there x (λ e. apart (ap suc e))

  slice_get_within : (xs : List X) (here : ℕ) (x : X) → slice_get xs here ≡ Some x → here < length xs
  slice_get_within [] here x h = absurd (true≢false (ap is_some (sym h ∙ slice_get_past [] here (grind arith))))
  slice_get_within (first ∷ xs) zero x h = grind arith
  slice_get_within (first ∷ xs) (suc here) x h = let more = slice_get_within xs here x h in grind (arith, more)

  some_same : (x y : X) → Some x ≡ Some y → x ≡ y
  some_same x y e = ap (λ o. unwrap_or o x) e

module _ {K V : Type 0} (text_of : K → Bytes) where
  none_in : (half count here : ℕ) (text : Bytes) (slots : List (Slot K V)) → AreHashed text_of slots → AllByRecursion (λ slot. address half count slot.hash ≡ here) slots → (address half count (hash_of text) ≡ here → ⊥) → value_in text_of text slots ≡ None
  none_in half count here text [] hashed placed apart = refl
  none_in half count here text (slot ∷ slots) hashed placed apart = by_test (is_at (text_cmp text) (text_of slot.key)) refl (none_in half count here text slots hashed.1 placed.1 apart)
    where
      by_test : (b : Bool) → is_at (text_cmp text) (text_of slot.key) ≡ b → value_in text_of text slots ≡ None → value_in text_of text (slot ∷ slots) ≡ None
      by_test true h more = absurd (apart (ap (λ t. address half count (hash_of t)) (same_text text (text_of slot.key) h) ∙ ap (address half count) (sym hashed.0) ∙ placed.0))
      by_test false h more = ap (λ b. cond b (Some slot.value) (value_in text_of text slots)) h ∙ more

  pub none_elsewhere : {half count here : ℕ} (text : Bytes) (slots : List (Slot K V)) → IsBucket text_of half count here slots → (address half count (hash_of text) ≡ here → ⊥) → value_in text_of text slots ≡ None
  none_elsewhere {half} {count} {here} text slots is apart = none_in half count here text slots is.hashed is.placed apart

  none_all : (text : Bytes) (buckets : List (List (Slot K V))) → ((k : ℕ) (slots : List (Slot K V)) → slice_get buckets k ≡ Some slots → value_in text_of text slots ≡ None) → at text (all_entries text_of buckets) ≡ None
  none_all text [] none = refl
  none_all text (bucket ∷ buckets) none =
      at_append_none text (entries_of text_of bucket) (all_entries text_of buckets) (none 0 bucket refl) ∙ none_all text buckets (λ k slots h. none (suc k) slots h)

  -- if a text stands in no bucket but one, it is the text's
  value_all : (text : Bytes) (buckets : List (List (Slot K V))) (here : ℕ) → ((k : ℕ) (slots : List (Slot K V)) → slice_get buckets k ≡ Some slots → (k ≡ here → ⊥) → value_in text_of text slots ≡ None)
      → at text (all_entries text_of buckets) ≡ option_and_then (value_in text_of text) (slice_get buckets here)
  value_all text [] here none = sym (ap (option_and_then (value_in text_of text)) (slice_get_past [] here (grind arith)))
  value_all text (bucket ∷ buckets) zero none = at_append text (entries_of text_of bucket) (all_entries text_of buckets) (none_all text buckets (λ k slots h. none (suc k) slots h (grind arith)))
  value_all text (bucket ∷ buckets) (suc here) none =
      at_append_none text (entries_of text_of bucket) (all_entries text_of buckets) (none 0 bucket refl (grind arith)) ∙ value_all text buckets here (λ k slots h apart. none (suc k) slots h (λ e. apart (grind (arith, e))))

  pub table_at : (half : ℕ) (buckets : List (List (Slot K V))) → ArePlaced text_of half buckets → (text : Bytes)
      → at text (table_in text_of buckets) ≡ option_and_then (value_in text_of text) (slice_get buckets (address half (length buckets) (hash_of text)))
  table_at half buckets is text = at_in_order text (all_entries text_of buckets)
      ∙ value_all text buckets (address half (length buckets) (hash_of text)) (λ k slots h apart. none_elsewhere text slots (is k slots h) (λ e. apart (sym e)))

  pub table_here : (half : ℕ) (buckets : List (List (Slot K V))) → ArePlaced text_of half buckets → (text : Bytes) (slots : List (Slot K V))
      → slice_get buckets (address half (length buckets) (hash_of text)) ≡ Some slots → at text (table_in text_of buckets) ≡ value_in text_of text slots
  table_here half buckets is text slots h = table_at half buckets is text ∙ ap (option_and_then (value_in text_of text)) h

  module _ (half : ℕ) (buckets : List (List (Slot K V))) (is : ArePlaced text_of half buckets) where
    -- ## One bucket is another

    module _ (here : ℕ) (old new : List (Slot K V)) (was : slice_get buckets here ≡ Some old) (new_is : IsBucket text_of half (length buckets) here new) where
      within : here < length buckets
      within = slice_get_within buckets here old was

      pub placed_set : ArePlaced text_of half (slice_set buckets here new)
      placed_set k slots h = subst (λ n. IsBucket text_of half n k slots) (sym (length-set buckets here new)) (by_place (nat_eq k here) refl)
        where
          by_place : (b : Bool) → nat_eq k here ≡ b → IsBucket text_of half (length buckets) k slots
          by_place true e =
              let same : k ≡ here = grind (arith, e) in
              let new_here : Some slots ≡ Some new = sym h ∙ ap (slice_get (slice_set buckets here new)) same ∙ get_set_here buckets here new within in
              subst (λ n. IsBucket text_of half (length buckets) n slots) (sym same) (subst (IsBucket text_of half (length buckets) here) (sym (some_same slots new new_here)) new_is)
          by_place false e = is k slots (sym (get_set_there buckets here k new (λ same. absurd (grind (arith, e, same)))) ∙ h)

      -- Where an edit of the bucket changes what stands under one text alone, which has this address, it does so of the whole table.
      pub table_set : (text : Bytes) (value : Option V) → here ≡ address half (length buckets) (hash_of text)
          → ((other : Bytes) → value_in text_of other new ≡ cond (is_at (text_cmp text) other) value (value_in text_of other old))
          → (other : Bytes) → at other (table_in text_of (slice_set buckets here new)) ≡ cond (is_at (text_cmp text) other) value (at other (table_in text_of buckets))
      table_set text value place edit other = by_place (nat_eq there here) refl
        where
          there : ℕ
          there = address half (length buckets) (hash_of other)

          after : at other (table_in text_of (slice_set buckets here new)) ≡ option_and_then (value_in text_of other) (slice_get (slice_set buckets here new) there)
          after = table_at half (slice_set buckets here new) placed_set other ∙ ap (λ n. option_and_then (value_in text_of other) (slice_get (slice_set buckets here new) (address half n (hash_of other)))) (length-set buckets here new)

          by_place : (b : Bool) → nat_eq there here ≡ b → at other (table_in text_of (slice_set buckets here new)) ≡ cond (is_at (text_cmp text) other) value (at other (table_in text_of buckets))
          by_place true e =
              let same : there ≡ here = grind (arith, e) in
              after ∙ ap (λ k. option_and_then (value_in text_of other) (slice_get (slice_set buckets here new) k)) same ∙ ap (option_and_then (value_in text_of other)) (get_set_here buckets here new within)
              ∙ edit other ∙ ap (λ o. cond (is_at (text_cmp text) other) value o) (sym (table_here half buckets is other old (ap (slice_get buckets) same ∙ was)))
          by_place false e =
              let apart : is_at (text_cmp text) other ≡ false = apart_by text other (λ t. address half (length buckets) (hash_of t)) (λ same. absurd (grind (arith, e, same, place))) in
              after ∙ ap (option_and_then (value_in text_of other)) (get_set_there buckets here there new (λ same. absurd (grind (arith, e, same)))) ∙ sym (table_at half buckets is other)
              ∙ sym (ap (λ b. cond b value (at other (table_in text_of buckets))) apart)
