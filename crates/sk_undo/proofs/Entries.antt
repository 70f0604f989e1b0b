-- Where a key stands among entries in order, and what an edit there makes of them.
use Rattle.std.proofs.Common.{◌≡◌, ◌<◌, ◌≤◌, ℕ, zero, suc, length, Bool, true, false, cond, List, [], ◌∷◌, Option, Some, None, slice_get, get_or, refl, sym, arith, ap, ◌∙◌}
use Rattle.std.specs.BTreeMap.{insert_entry, is_at}
use Rattle.std.specs.List.{insert, remove, position_or_len}
use Rattle.std.specs.Map.{lookup, remove_entry}
use Rattle.std.specs.Ordering.{is_eq, is_le, is_lt}
use Rattle.std.specs.declared.cmp.Ordering.{Ordering}
use Rattle.sk_undo.specs.Entries.{entries_in, keys_in}
use Rattle.sk_undo.specs.Moves.{moved, put_down}
use Rattle.sk_undo.specs.Partitioned.{all_pass, is_partitioned}
use Rattle.sk_undo.specs.Sorted.{IsQuery, is_found, is_match, is_ordered, rank}
use Rattle.sk_undo.proofs.Sorted.{lt_rest}

module _ {K V : Type 0} (t : K → Bool) where
  pub position_keys : (xs : List (V × K)) → position_or_len (λ e. t e.1) xs ≡ position_or_len t (keys_in xs)
  position_keys [] = refl
  position_keys (x ∷ xs) = grind (arith, position_keys xs)

  all_keys : (xs : List (V × K)) → all_pass (λ e. t e.1) xs ≡ all_pass t (keys_in xs)
  all_keys [] = refl
  all_keys (x ∷ xs) = grind (arith, all_keys xs)

  pub partitioned_keys : (xs : List (V × K)) → is_partitioned (λ e. t e.1) xs ≡ is_partitioned t (keys_in xs)
  partitioned_keys [] = refl
  partitioned_keys (x ∷ xs) = grind (arith, all_keys xs, partitioned_keys xs)

module _ {K V : Type 0} (order : K → Ordering) where
  match_keys : (xs : List (V × K)) (at : ℕ) → is_match (λ e. order e.1) (slice_get xs at) ≡ is_match order (slice_get (keys_in xs) at)
  match_keys [] at = refl
  match_keys (x ∷ xs) zero = refl
  match_keys (x ∷ xs) (suc at) = match_keys xs at

  pub found_keys : (xs : List (V × K)) → is_found (λ e. order e.1) xs ≡ is_found order (keys_in xs)
  found_keys xs = match_keys xs (rank (λ e. order e.1) xs) ∙ ap (λ at. is_match order (slice_get (keys_in xs) at)) (position_keys (λ key. is_le (order key)) xs)

  rank_first : (x : V × K) (xs : List (V × K)) → is_le (order x.1) ≡ true → rank order (keys_in (x ∷ xs)) ≡ 0
  rank_first x xs h = grind (arith, h)

  rank_next : (x : V × K) (xs : List (V × K)) → is_le (order x.1) ≡ false → rank order (keys_in (x ∷ xs)) ≡ suc (rank order (keys_in xs))
  rank_next x xs h = grind (arith, h)

  abbrev is_there : List (V × K) → Bool
  is_there xs = is_match order (slice_get (keys_in xs) (rank order (keys_in xs)))

  there_first : (x : V × K) (xs : List (V × K)) → is_le (order x.1) ≡ true → is_there (x ∷ xs) ≡ is_eq (order x.1)
  there_first x xs h = ap (λ i. is_match order (slice_get (keys_in (x ∷ xs)) i)) (rank_first x xs h)

  there_next : (x : V × K) (xs : List (V × K)) → is_le (order x.1) ≡ false → is_there (x ∷ xs) ≡ is_there xs
  there_next x xs h = ap (λ i. is_match order (slice_get (keys_in (x ∷ xs)) i)) (rank_next x xs h)

  -- ## What a look-up finds

  none_found : (xs : List (V × K)) → all_pass (λ key. is_lt (order key)) (keys_in xs) ≡ true → lookup (is_at order) (entries_in xs) ≡ None
  none_found [] h = refl
  none_found (x ∷ xs) h = grind (arith, h, none_found xs)

  none_removed : (xs : List (V × K)) → all_pass (λ key. is_lt (order key)) (keys_in xs) ≡ true → remove_entry (is_at order) (entries_in xs) ≡ entries_in xs
  none_removed [] h = refl
  none_removed (x ∷ xs) h = grind (arith, h, none_removed xs)

  pub found_there : (xs : List (V × K)) (d : V × K) → is_there xs ≡ true → lookup (is_at order) (entries_in xs) ≡ Some (get_or xs (rank order (keys_in xs)) d).0
  found_there [] d h = absurd (cc)
  found_there (x ∷ xs) d h = by_test (is_le (order x.1)) refl (found_there xs d)
    where
      by_test : (b : Bool) → is_le (order x.1) ≡ b → (is_there xs ≡ true → lookup (is_at order) (entries_in xs) ≡ Some (get_or xs (rank order (keys_in xs)) d).0) → lookup (is_at order) (entries_in (x ∷ xs)) ≡ Some (get_or (x ∷ xs) (rank order (keys_in (x ∷ xs))) d).0
      by_test true e more = let here = sym (there_first x xs e) ∙ h in let r = rank_first x xs e in ap (λ b. cond b (Some x.0) (lookup (is_at order) (entries_in xs))) here ∙ sym (ap (λ i. Some (get_or (x ∷ xs) i d).0) r)
      by_test false e more =
          let r = rank_next x xs e in
          let later = more (sym (there_next x xs e) ∙ h) in
          let other : is_eq (order x.1) ≡ false = grind (arith, e) in
          ap (λ b. cond b (Some x.0) (lookup (is_at order) (entries_in xs))) other ∙ later ∙ sym (ap (λ i. Some (get_or (x ∷ xs) i d).0) r)

  -- ## What an edit makes of them

  pub removed_there : (xs : List (V × K)) → is_there xs ≡ true → entries_in (remove xs (rank order (keys_in xs))) ≡ remove_entry (is_at order) (entries_in xs)
  removed_there [] h = absurd (cc)
  removed_there (x ∷ xs) h = by_test (is_le (order x.1)) refl (removed_there xs)
    where
      by_test : (b : Bool) → is_le (order x.1) ≡ b → (is_there xs ≡ true → entries_in (remove xs (rank order (keys_in xs))) ≡ remove_entry (is_at order) (entries_in xs)) → entries_in (remove (x ∷ xs) (rank order (keys_in (x ∷ xs)))) ≡ remove_entry (is_at order) (entries_in (x ∷ xs))
      by_test true e more = let here : is_eq (order x.1) ≡ true = sym (there_first x xs e) ∙ h in ap (λ i. entries_in (remove (x ∷ xs) i)) (rank_first x xs e) ∙ grind (arith, here)
      by_test false e more =
          let later = more (sym (there_next x xs e) ∙ h) in
          let other : is_eq (order x.1) ≡ false = grind (arith, e) in
          ap (λ i. entries_in (remove (x ∷ xs) i)) (rank_next x xs e) ∙ grind (arith, other, later)

  module _ {cmp : K → K → Ordering} (query : IsQuery cmp order) where
    gone_at : (x : V × K) (xs : List (V × K)) → is_there (x ∷ xs) ≡ false → is_le (order x.1) ≡ true → is_ordered cmp (keys_in (x ∷ xs)) ≡ true → all_pass (λ key. is_lt (order key)) (keys_in (x ∷ xs)) ≡ true
    gone_at x xs h e up =
        let other : is_eq (order x.1) ≡ false = sym (there_first x xs e) ∙ h in
        let less : is_lt (order x.1) ≡ true = grind (arith, e, other) in
        let rest = lt_rest cmp query x.1 (keys_in xs) less in
        grind (arith, less, rest, up)

    pub found_none : (xs : List (V × K)) → is_ordered cmp (keys_in xs) ≡ true → is_there xs ≡ false → lookup (is_at order) (entries_in xs) ≡ None
    found_none [] up h = refl
    found_none (x ∷ xs) up h = by_test (is_le (order x.1)) refl (found_none xs)
      where
        by_test : (b : Bool) → is_le (order x.1) ≡ b → (is_ordered cmp (keys_in xs) ≡ true → is_there xs ≡ false → lookup (is_at order) (entries_in xs) ≡ None) → lookup (is_at order) (entries_in (x ∷ xs)) ≡ None
        by_test true e more = none_found (x ∷ xs) (gone_at x xs h e up)
        by_test false e more =
            let later = more (grind (arith, up)) (sym (there_next x xs e) ∙ h) in
            let other : is_eq (order x.1) ≡ false = grind (arith, e) in
            ap (λ b. cond b (Some x.0) (lookup (is_at order) (entries_in xs))) other ∙ later

    pub removed_none : (xs : List (V × K)) → is_ordered cmp (keys_in xs) ≡ true → is_there xs ≡ false → remove_entry (is_at order) (entries_in xs) ≡ entries_in xs
    removed_none [] up h = refl
    removed_none (x ∷ xs) up h = by_test (is_le (order x.1)) refl (removed_none xs)
      where
        by_test : (b : Bool) → is_le (order x.1) ≡ b → (is_ordered cmp (keys_in xs) ≡ true → is_there xs ≡ false → remove_entry (is_at order) (entries_in xs) ≡ entries_in xs) → remove_entry (is_at order) (entries_in (x ∷ xs)) ≡ entries_in (x ∷ xs)
        by_test true e more = none_removed (x ∷ xs) (gone_at x xs h e up)
        by_test false e more =
            let later = more (grind (arith, up)) (sym (there_next x xs e) ∙ h) in
            let other : is_eq (order x.1) ≡ false = grind (arith, e) in
            grind (arith, other, later)

module _ {K V : Type 0} (cmp : K → K → Ordering) (key : K) (value : V) where
  abbrev at_key : List (V × K) → ℕ
  at_key xs = rank (cmp key) (keys_in xs)

  -- a new key comes in at its place
  pub put_new : (xs : List (V × K)) → is_there (cmp key) xs ≡ false → entries_in (insert xs (at_key xs) (value, key)) ≡ insert_entry cmp (entries_in xs) key value
  put_new [] h = refl
  put_new (x ∷ xs) h = by_test (is_le (cmp key x.1)) refl (put_new xs)
    where
      by_test : (b : Bool) → is_le (cmp key x.1) ≡ b → (is_there (cmp key) xs ≡ false → entries_in (insert xs (at_key xs) (value, key)) ≡ insert_entry cmp (entries_in xs) key value) → entries_in (insert (x ∷ xs) (at_key (x ∷ xs)) (value, key)) ≡ insert_entry cmp (entries_in (x ∷ xs)) key value
      by_test true e more =
          let other : is_eq (cmp key x.1) ≡ false = sym (there_first (cmp key) x xs e) ∙ h in
          ap (λ i. entries_in (insert (x ∷ xs) i (value, key))) (rank_first (cmp key) x xs e) ∙ grind (arith, e, other)
      by_test false e more =
          let later = more (sym (there_next (cmp key) x xs e) ∙ h) in
          ap (λ i. entries_in (insert (x ∷ xs) i (value, key))) (rank_next (cmp key) x xs e) ∙ grind (arith, e, later)

  put_down_behind : (o : Option (V × K)) (to : ℕ) (x : V × K) (xs : List (V × K)) → put_down o (suc to) value (x ∷ xs) ≡ x ∷ put_down o to value xs
  put_down_behind None to x xs = refl
  put_down_behind (Some entry) to x xs = refl

  -- one that is there takes the value
  pub put_there : (xs : List (V × K)) → is_there (cmp key) xs ≡ true → entries_in (moved (at_key xs) (at_key xs) value xs) ≡ insert_entry cmp (entries_in xs) key value
  put_there [] h = absurd (cc)
  put_there (x ∷ xs) h = by_test (is_le (cmp key x.1)) refl (put_there xs)
    where
      by_test : (b : Bool) → is_le (cmp key x.1) ≡ b → (is_there (cmp key) xs ≡ true → entries_in (moved (at_key xs) (at_key xs) value xs) ≡ insert_entry cmp (entries_in xs) key value) → entries_in (moved (at_key (x ∷ xs)) (at_key (x ∷ xs)) value (x ∷ xs)) ≡ insert_entry cmp (entries_in (x ∷ xs)) key value
      by_test true e more =
          let here : is_eq (cmp key x.1) ≡ true = sym (there_first (cmp key) x xs e) ∙ h in
          ap (λ i. entries_in (moved i i value (x ∷ xs))) (rank_first (cmp key) x xs e) ∙ grind (arith, here)
      by_test false e more =
          let later = more (sym (there_next (cmp key) x xs e) ∙ h) in
          let i : ℕ = at_key xs in
          let next = put_down_behind (slice_get xs i) i x (remove xs i) in
          ap (λ j. entries_in (moved j j value (x ∷ xs))) (rank_next (cmp key) x xs e) ∙ ap entries_in next ∙ grind (arith, e, later)

-- ## An entry by its index

module _ {K V : Type 0} where
  pub length_entries : (xs : List (V × K)) → length (entries_in xs) ≡ length xs
  length_entries [] = refl
  length_entries (x ∷ xs) = grind (arith, length_entries xs)

  pub entry_at : (xs : List (V × K)) (at : ℕ) (x : V × K) → at < length xs → x ≡ get_or xs at x → slice_get (entries_in xs) at ≡ Some (x.1, x.0)
  entry_at [] at x h e = absurd (omega (arith, h))
  entry_at (y ∷ xs) zero x h e = ap (λ z. Some (z.1, z.0)) (sym e)
  entry_at (y ∷ xs) (suc at) x h e = entry_at xs at x (omega (arith, h)) e

  pub no_entry_at : (xs : List (V × K)) (at : ℕ) → length xs ≤ at → slice_get (entries_in xs) at ≡ None
  no_entry_at [] at h = refl
  no_entry_at (y ∷ xs) zero h = absurd (omega (arith, h))
  no_entry_at (y ∷ xs) (suc at) h = no_entry_at xs at (omega (arith, h))

  pub match_at : (order : K → Ordering) (xs : List (V × K)) (at : ℕ) (x : V × K) → at < length xs → x ≡ get_or xs at x → is_match order (slice_get (keys_in xs) at) ≡ is_eq (order x.1)
  match_at order [] at x h e = absurd (omega (arith, h))
  match_at order (y ∷ xs) zero x h e = ap (λ z. is_eq (order z.1)) (sym e)
  match_at order (y ∷ xs) (suc at) x h e = match_at order xs at x (omega (arith, h)) e

  pub no_match_at : (order : K → Ordering) (xs : List (V × K)) (at : ℕ) → length xs ≤ at → is_match order (slice_get (keys_in xs) at) ≡ false
  no_match_at order [] at h = refl
  no_match_at order (y ∷ xs) zero h = absurd (omega (arith, h))
  no_match_at order (y ∷ xs) (suc at) h = no_match_at order xs at (omega (arith, h))
