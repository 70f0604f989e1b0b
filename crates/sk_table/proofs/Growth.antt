-- A table as it grows: each text stands where it stood, or in the new bucket.
use Rattle.std.proofs.Common.{◌≡◌, ◌<◌, ◌≤◌, ◌+◌, ◌-◌, ◌%◌, ℕ, zero, suc, Bool, true, false, cond, not, List, [], ◌∷◌, ◌++◌, Option, Some, None, length, slice_get, slice_set, nat_eq, nat_lt, refl, sym, ap, subst, ◌∙◌, true≢false, arith, option_and_then}
use Rattle.std.specs.BTreeMap.{is_at}
use Rattle.std.specs.List.{AllByRecursion, IsDistinct, filter}
use Rattle.std.specs.Map.{keys_of}
use Rattle.std.specs.Option.{is_some, unwrap_or}
use Rattle.std.specs.Ordering.{eq_by_cmp}
use Rattle.std.proofs.lemmas.List.{length-append, length-set}
use Rattle.std.proofs.lemmas.Map.Keys.{IsDistinct-cons, IsDistinct-head, IsDistinct-tail}
use Rattle.std.proofs.lemmas.Option.{slice_get_past}
use Rattle.sk_resp.specs.Spelling.{Bytes}
use Rattle.sk_resp.specs.WordOrder.{text_cmp}
use Rattle.sk_table.specs.Entries.{at}
use Rattle.sk_table.specs.Hashing.{address, hash_of, most_half}
use Rattle.sk_table.specs.Slots.{AreDistinct, AreHashed, IsBucket, entries_of, goes_to, value_in}
use Rattle.sk_table.specs.Table.{ArePlaced, IsTable, all_entries, table_in}
use Rattle.sk_table.specs.declared.slot.Slot.{Slot}
use Rattle.sk_table.proofs.Addresses.{address_below, address_came, address_goes, address_stays, address_widens}
use Rattle.sk_table.proofs.Buckets.{get_set_here, get_set_there, table_at}
use Rattle.sk_table.proofs.Ordered.{same_entries, same_text, up_in_order}

-- ## Lists

all_filter : {X : Type 0} (p : X → Bool) (P Q : X → Type 0) → ((x : X) → p x ≡ true → P x → Q x) → (xs : List X) → AllByRecursion P xs → AllByRecursion Q (filter p xs)
all_filter p P Q more [] all = tt
all_filter p P Q more (x ∷ xs) all = by_test (p x) refl (all_filter p P Q more xs all.1)
  where
    by_test : (b : Bool) → p x ≡ b → AllByRecursion Q (filter p xs) → AllByRecursion Q (cond b (x ∷ filter p xs) (filter p xs))
    by_test true h rest = (more x h all.0, rest)
    by_test false h rest = rest

all_more : {X : Type 0} (P Q : X → Type 0) → ((x : X) → P x → Q x) → (xs : List X) → AllByRecursion P xs → AllByRecursion Q xs
all_more P Q more [] all = tt
all_more P Q more (x ∷ xs) all = (more x all.0, all_more P Q more xs all.1)

pub two_parts : {X : Type 0} (p : X → Bool) (xs : List X) → length (filter p xs) + length (filter (λ x. not (p x)) xs) ≡ length xs
two_parts p [] = refl
two_parts p (x ∷ xs) = by_test (p x) refl (two_parts p xs)
  where
    by_test : (b : Bool) → p x ≡ b → length (filter p xs) + length (filter (λ y. not (p y)) xs) ≡ length xs
        → length (filter p (x ∷ xs)) + length (filter (λ y. not (p y)) (x ∷ xs)) ≡ length (x ∷ xs)
    by_test true h more = grind (arith, h, more)
    by_test false h more = grind (arith, h, more)

pub no_rest : {X : Type 0} (xs ys : List X) → length ys ≡ 0 → xs ≡ xs ++ ys
no_rest [] [] none = refl
no_rest [] (y ∷ ys) none = absurd (grind (arith, none))
no_rest (x ∷ xs) ys none = ap (λ l. x ∷ l) (no_rest xs ys none)

get_before : {X : Type 0} (xs : List X) (last : X) (k : ℕ) → k < length xs → slice_get (xs ++ last ∷ []) k ≡ slice_get xs k
get_before [] last k h = absurd (grind (arith, h))
get_before (x ∷ xs) last zero h = refl
get_before (x ∷ xs) last (suc k) h = get_before xs last k (grind (arith, h))

get_last : {X : Type 0} (xs : List X) (last : X) → slice_get (xs ++ last ∷ []) (length xs) ≡ Some last
get_last [] last = refl
get_last (x ∷ xs) last = get_last xs last

one_of : {X : Type 0} (x y : X) → Some x ≡ Some y → x ≡ y
one_of x y e = ap (λ o. unwrap_or o x) e

none_distinct : IsDistinct (eq_by_cmp text_cmp) []
unfolding IsDistinct
none_distinct = tt

-- a bucket parted in two, of which the second stands behind all
abbrev pub parted : {K V : Type 0} → ℕ → List (List (Slot K V)) → List (Slot K V) → ℕ → List (List (Slot K V))
parted half buckets bucket count =
    slice_set buckets (count - half) (filter (λ slot. not (goes_to half count slot)) bucket) ++ filter (goes_to half count) bucket ∷ []

module _ {K V : Type 0} (text_of : K → Bytes) where
  -- ## The entries of a bucket that pass a test of their hashes

  module _ (passes : ℕ → Bool) where
    abbrev picked : List (Slot K V) → List (Slot K V)
    picked slots = filter (λ slot. passes slot.hash) slots

    value_picked : (text : Bytes) (slots : List (Slot K V)) → AreHashed text_of slots → value_in text_of text (picked slots) ≡ cond (passes (hash_of text)) (value_in text_of text slots) None
    value_picked text [] hashed = by_test (passes (hash_of text))
      where
        by_test : (b : Bool) → ◌≡◌ {A = Option V} None (cond b None None)
        by_test true = refl
        by_test false = refl
    value_picked text (slot ∷ slots) hashed = by_own (is_at (text_cmp text) (text_of slot.key)) refl (passes slot.hash) refl (value_picked text slots hashed.1)
      where
        by_own : (own : Bool) → is_at (text_cmp text) (text_of slot.key) ≡ own → (b : Bool) → passes slot.hash ≡ b
            → value_in text_of text (picked slots) ≡ cond (passes (hash_of text)) (value_in text_of text slots) None
            → value_in text_of text (cond b (slot ∷ picked slots) (picked slots)) ≡ cond (passes (hash_of text)) (value_in text_of text (slot ∷ slots)) None
        by_own true own b e more =
            let same : passes (hash_of text) ≡ b = ap (λ t. passes (hash_of t)) (same_text text (text_of slot.key) own) ∙ ap passes (sym hashed.0) ∙ e in
            by_both b same more
          where
            by_both : (b : Bool) → passes (hash_of text) ≡ b → value_in text_of text (picked slots) ≡ cond (passes (hash_of text)) (value_in text_of text slots) None
                → value_in text_of text (cond b (slot ∷ picked slots) (picked slots)) ≡ cond (passes (hash_of text)) (value_in text_of text (slot ∷ slots)) None
            by_both true same more = grind (arith, own, same)
            by_both false same more = grind (arith, own, same, more)
        by_own false own true e more = grind (arith, own, more)
        by_own false own false e more = grind (arith, own, more)

    all_keys_picked : (P : Bytes → Type 0) (slots : List (Slot K V)) → AllByRecursion P (keys_of (entries_of text_of slots)) → AllByRecursion P (keys_of (entries_of text_of (picked slots)))
    all_keys_picked P [] all = tt
    all_keys_picked P (slot ∷ slots) all = by_test (passes slot.hash) (all_keys_picked P slots all.1)
      where
        by_test : (b : Bool) → AllByRecursion P (keys_of (entries_of text_of (picked slots))) → AllByRecursion P (keys_of (entries_of text_of (cond b (slot ∷ picked slots) (picked slots))))
        by_test true rest = (all.0, rest)
        by_test false rest = rest

    distinct_picked : (slots : List (Slot K V)) → AreDistinct text_of slots → AreDistinct text_of (picked slots)
    distinct_picked [] distinct = distinct
    distinct_picked (slot ∷ slots) distinct = by_test (passes slot.hash) (distinct_picked slots (IsDistinct-tail (eq_by_cmp text_cmp) (text_of slot.key) (keys_of (entries_of text_of slots)) distinct))
      where
        by_test : (b : Bool) → AreDistinct text_of (picked slots) → AreDistinct text_of (cond b (slot ∷ picked slots) (picked slots))
        by_test true rest = IsDistinct-cons (eq_by_cmp text_cmp) (text_of slot.key) (keys_of (entries_of text_of (picked slots)))
            (all_keys_picked (λ other. eq_by_cmp text_cmp (text_of slot.key) other ≡ false) slots (IsDistinct-head (eq_by_cmp text_cmp) (text_of slot.key) (keys_of (entries_of text_of slots)) distinct)) rest
        by_test false rest = rest

    bucket_picked : {half count here there : ℕ} (slots : List (Slot K V)) → IsBucket text_of half count here slots → ((hash : ℕ) → passes hash ≡ true → address half count hash ≡ here → address half (suc count) hash ≡ there)
        → IsBucket text_of half (suc count) there (picked slots)
    bucket_picked slots is moves = record {
      hashed = all_filter _ _ _ (λ slot p h. h) slots is.hashed;
      placed = all_filter _ _ _ (λ slot p h. moves slot.hash p h) slots is.placed;
      distinct = distinct_picked slots is.distinct;
    }

  bucket_moves : {half count half' count' here : ℕ} (slots : List (Slot K V)) → IsBucket text_of half count here slots → ((hash : ℕ) → address half count hash ≡ here → address half' count' hash ≡ here) → IsBucket text_of half' count' here slots
  bucket_moves slots is moves = record { hashed = is.hashed; placed = all_more _ _ (λ slot h. moves slot.hash h) slots is.placed; distinct = is.distinct }

  -- ## The first bucket

  pub table_empty : (buckets : List (List (Slot K V))) → IsTable text_of 0 buckets → buckets ≡ []
  table_empty [] is = refl
  table_empty (bucket ∷ buckets) is = let high = is.high in absurd (grind (arith, high))

  one_placed : ArePlaced {V = V} text_of 1 ([] ∷ [])
  one_placed zero slots h = subst (IsBucket text_of 1 1 0) (one_of [] slots h) (record { hashed = tt; placed = tt; distinct = none_distinct })
  one_placed (suc k) slots h = absurd (true≢false (ap is_some (sym h ∙ slice_get_past [] k (grind arith))))

  pub table_one : IsTable {V = V} text_of 1 ([] ∷ [])
  table_one = record { low = grind arith; high = grind arith; small = grind arith; placed = one_placed }

  -- ## Twice as many addresses

  pub table_widened : (half : ℕ) (buckets : List (List (Slot K V))) → IsTable text_of half buckets → 0 < half → length buckets ≡ half + half → half + half ≤ most_half → IsTable text_of (half + half) buckets
  table_widened half buckets is some full small = record {
    low = grind (arith, full);
    high = grind (arith, full);
    small = small;
    placed = λ k slots h. bucket_moves slots (is.placed k slots h) (λ hash there. ap (λ n. address (half + half) n hash) full ∙ address_widens half hash some ∙ ap (λ n. address half n hash) (sym full) ∙ there);
  }

  -- ## One more bucket

  module _ (half from : ℕ) (buckets : List (List (Slot K V))) (bucket : List (Slot K V)) (is : IsTable text_of half buckets) (some : 0 < half) (room : length buckets < half + half)
      (from_is : from ≡ length buckets - half) (there : slice_get buckets from ≡ Some bucket) where
    abbrev count : ℕ
    count = length buckets

    abbrev comes : ℕ → Bool
    comes hash = nat_eq (hash % (half + half)) count

    abbrev near : List (Slot K V)
    near = picked (λ hash. not (comes hash)) bucket

    abbrev far : List (Slot K V)
    far = picked comes bucket

    abbrev all : List (List (Slot K V))
    all = slice_set buckets from near ++ far ∷ []

    from_before : from < count
    from_before = let low = is.low in grind (arith, low, some, from_is)

    set_count : length (slice_set buckets from near) ≡ count
    set_count = length-set buckets from near

    all_count : length all ≡ suc count
    all_count = let added = length-append (slice_set buckets from near) (far ∷ []) in let same = set_count in grind (arith, added, same)

    far_there : slice_get all count ≡ Some far
    far_there = ap (slice_get all) (sym set_count) ∙ get_last (slice_set buckets from near) far

    near_there : slice_get all from ≡ Some near
    near_there = get_before (slice_set buckets from near) far from (subst (λ n. from < n) (sym set_count) from_before) ∙ get_set_here buckets from near from_before

    other_there : (k : ℕ) → k < count → (k ≡ from → ⊥) → slice_get all k ≡ slice_get buckets k
    other_there k before apart = get_before (slice_set buckets from near) far k (subst (λ n. k < n) (sym set_count) before) ∙ get_set_there buckets from k near apart

    stays : (hash : ℕ) → not (comes hash) ≡ true → address half (suc count) hash ≡ address half count hash
    stays hash h = address_stays half count hash some (λ e. absurd (grind (arith, h, e)))

    far_is : IsBucket text_of half (suc count) count far
    far_is = bucket_picked comes bucket (is.placed from bucket there) (λ hash comes_here was. address_goes half count hash some (grind (arith, comes_here)))

    near_is : IsBucket text_of half (suc count) from near
    near_is = bucket_picked (λ hash. not (comes hash)) bucket (is.placed from bucket there) (λ hash stays_here was. stays hash stays_here ∙ was)

    others_stay : (k : ℕ) → (k ≡ from → ⊥) → (hash : ℕ) → address half count hash ≡ k → address half (suc count) hash ≡ k
    others_stay k apart hash was = by_test (comes hash) refl
      where
        by_test : (b : Bool) → comes hash ≡ b → address half (suc count) hash ≡ k
        by_test true h = absurd (apart (sym was ∙ address_came half count hash some (grind (arith, h)) ∙ sym from_is))
        by_test false h = stays hash (ap not h) ∙ was

    all_placed_in : (k : ℕ) (slots : List (Slot K V)) → slice_get all k ≡ Some slots → IsBucket text_of half (suc count) k slots
    all_placed_in k slots h = by_last (nat_lt k count) refl
      where
        by_from : k < count → (b : Bool) → nat_eq k from ≡ b → IsBucket text_of half (suc count) k slots
        by_from before true e =
            let same : k ≡ from = grind (arith, e) in
            let slots_are : near ≡ slots = one_of near slots (sym near_there ∙ ap (slice_get all) (sym same) ∙ h) in
            subst (λ n. IsBucket text_of half (suc count) n slots) (sym same) (subst (IsBucket text_of half (suc count) from) slots_are near_is)
        by_from before false e =
            let apart : k ≡ from → ⊥ = λ same. absurd (grind (arith, e, same)) in
            bucket_moves slots (is.placed k slots (sym (other_there k before apart) ∙ h)) (others_stay k apart)

        by_last : (b : Bool) → nat_lt k count ≡ b → IsBucket text_of half (suc count) k slots
        by_last true e = by_from (grind (arith, e)) (nat_eq k from) refl
        by_last false e = by_end (nat_eq k count) refl
          where
            by_end : (b : Bool) → nat_eq k count ≡ b → IsBucket text_of half (suc count) k slots
            by_end true d =
                let same : k ≡ count = grind (arith, d) in
                let slots_are : far ≡ slots = one_of far slots (sym far_there ∙ ap (slice_get all) (sym same) ∙ h) in
                subst (λ n. IsBucket text_of half (suc count) n slots) (sym same) (subst (IsBucket text_of half (suc count) count) slots_are far_is)
            by_end false d =
                let total = all_count in
                absurd (true≢false (ap is_some (sym h ∙ slice_get_past all k (grind (arith, e, d, total)))))

    pub table_split : IsTable text_of half all
    table_split = record {
      low = let total = all_count in let low = is.low in grind (arith, total, low);
      high = let total = all_count in grind (arith, total, room);
      small = is.small;
      placed = λ k slots h. subst (λ n. IsBucket text_of half n k slots) (sym all_count) (all_placed_in k slots h);
    }

    same_at : (text : Bytes) → at text (table_in text_of all) ≡ at text (table_in text_of buckets)
    same_at text = by_test (comes (hash_of text)) refl
      where
        new_at : at text (table_in text_of all) ≡ option_and_then (value_in text_of text) (slice_get all (address half (suc count) (hash_of text)))
        new_at = table_at text_of half all table_split.placed text ∙ ap (λ n. option_and_then (value_in text_of text) (slice_get all (address half n (hash_of text)))) all_count

        old_at : at text (table_in text_of buckets) ≡ option_and_then (value_in text_of text) (slice_get buckets (address half count (hash_of text)))
        old_at = table_at text_of half buckets is.placed text

        old_from : address half count (hash_of text) ≡ from → at text (table_in text_of buckets) ≡ value_in text_of text bucket
        old_from e = old_at ∙ ap (option_and_then (value_in text_of text)) (ap (slice_get buckets) e ∙ there)

        new_from : (k : ℕ) (slots : List (Slot K V)) → address half (suc count) (hash_of text) ≡ k → slice_get all k ≡ Some slots → at text (table_in text_of all) ≡ value_in text_of text slots
        new_from k slots e h = new_at ∙ ap (option_and_then (value_in text_of text)) (ap (slice_get all) e ∙ h)

        by_from : comes (hash_of text) ≡ false → (b : Bool) → nat_eq (address half count (hash_of text)) from ≡ b → at text (table_in text_of all) ≡ at text (table_in text_of buckets)
        by_from h true e =
            let same : address half count (hash_of text) ≡ from = grind (arith, e) in
            new_from from near (stays (hash_of text) (ap not h) ∙ same) near_there ∙ value_picked (λ hash. not (comes hash)) text bucket (is.placed from bucket there).hashed
            ∙ ap (λ b. cond (not b) (value_in text_of text bucket) None) h ∙ sym (old_from same)
        by_from h false e =
            new_at ∙ ap (λ k. option_and_then (value_in text_of text) (slice_get all k)) (stays (hash_of text) (ap not h))
            ∙ ap (option_and_then (value_in text_of text)) (other_there (address half count (hash_of text)) (address_below half count (hash_of text) some is.low is.high) (λ same. absurd (grind (arith, e, same)))) ∙ sym old_at

        by_test : (b : Bool) → comes (hash_of text) ≡ b → at text (table_in text_of all) ≡ at text (table_in text_of buckets)
        by_test true h =
            new_from count far (address_goes half count (hash_of text) some (grind (arith, h))) far_there ∙ value_picked comes text bucket (is.placed from bucket there).hashed
            ∙ ap (λ b. cond b (value_in text_of text bucket) None) h ∙ sym (old_from (address_came half count (hash_of text) some (grind (arith, h)) ∙ sym from_is))
        by_test false h = by_from h (nat_eq (address half count (hash_of text)) from) refl

    pub same_split : table_in text_of all ≡ table_in text_of buckets
    same_split = same_entries _ _ (up_in_order (all_entries text_of all)) (up_in_order (all_entries text_of buckets)) same_at
