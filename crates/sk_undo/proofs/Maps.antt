-- What a map's calls find in the entries that the code keeps, and what they make of them.
use Rattle.std.proofs.Common.{◌≡◌, ℕ, Bool, true, false, List, [], ◌∷◌, Some, None, slice_get, get_or, refl, sym, ap, ◌∙◌}
use Rattle.std.specs.BTreeMap.{insert_entry, is_at}
use Rattle.std.specs.Cmp.{IsTotalOrder}
use Rattle.std.specs.List.{insert, remove}
use Rattle.std.specs.Map.{keys_of, lookup, remove_entry}
use Rattle.std.specs.Option.{is_some}
use Rattle.std.specs.declared.cmp.Ordering.{Ordering}
use Rattle.sk_undo.specs.Entries.{entries_in, keys_in}
use Rattle.sk_undo.specs.Moves.{moved}
use Rattle.sk_undo.specs.Sorted.{IsQuery, is_match, is_sorted, rank}
use Rattle.sk_undo.proofs.Entries.{found_none, found_there, put_new, put_there, removed_none, removed_there}
use Rattle.sk_undo.proofs.Sorted.{sorted_insert, sorted_ordered, sorted_remove}

module _ {K V : Type 0} {cmp : K → K → Ordering} {order : K → Ordering} (query : IsQuery cmp order) where
  pub get_there : (xs : List (V × K)) (at : ℕ) (x : V × K) → at ≡ rank order (keys_in xs) → x ≡ get_or xs at x → true ≡ is_match order (slice_get (keys_in xs) (rank order (keys_in xs))) → Some x.0 ≡ lookup (is_at order) (entries_in xs)
  get_there xs at x is here there = ap (λ z. Some z.0) here ∙ ap (λ i. Some (get_or xs i x).0) is ∙ sym (found_there order xs x (sym there))

  pub get_none : (xs : List (V × K)) → is_sorted cmp (keys_in xs) ≡ true → false ≡ is_match order (slice_get (keys_in xs) (rank order (keys_in xs))) → None ≡ lookup (is_at order) (entries_in xs)
  get_none xs up none = sym (found_none order query xs (sorted_ordered cmp (keys_in xs) up) (sym none))

  pub has_match : (xs : List (V × K)) → is_sorted cmp (keys_in xs) ≡ true → is_match order (slice_get (keys_in xs) (rank order (keys_in xs))) ≡ is_some (lookup (is_at order) (entries_in xs))
  has_match [] up = refl
  has_match (x ∷ xs) up = by_test _ refl
    where
      by_test : (b : Bool) → is_match order (slice_get (keys_in (x ∷ xs)) (rank order (keys_in (x ∷ xs)))) ≡ b → is_match order (slice_get (keys_in (x ∷ xs)) (rank order (keys_in (x ∷ xs)))) ≡ is_some (lookup (is_at order) (entries_in (x ∷ xs)))
      by_test true e = e ∙ sym (ap is_some (found_there order (x ∷ xs) x e))
      by_test false e = e ∙ ap is_some (get_none (x ∷ xs) up (sym e))

  pub remove_there : (xs : List (V × K)) (at : ℕ) → at ≡ rank order (keys_in xs) → true ≡ is_match order (slice_get (keys_in xs) (rank order (keys_in xs))) → entries_in (remove xs at) ≡ remove_entry (is_at order) (entries_in xs)
  remove_there xs at is there = ap (λ i. entries_in (remove xs i)) is ∙ removed_there order xs (sym there)

  pub remove_none : (xs : List (V × K)) → is_sorted cmp (keys_in xs) ≡ true → false ≡ is_match order (slice_get (keys_in xs) (rank order (keys_in xs))) → entries_in xs ≡ remove_entry (is_at order) (entries_in xs)
  remove_none xs up none = sym (removed_none order query xs (sorted_ordered cmp (keys_in xs) up) (sym none))

  pub sorted_there : (xs : List (V × K)) (at : ℕ) → is_sorted cmp (keys_in xs) ≡ true → at ≡ rank order (keys_in xs) → true ≡ is_match order (slice_get (keys_in xs) (rank order (keys_in xs))) → is_sorted cmp (keys_in (remove xs at)) ≡ true
  sorted_there xs at up is there = ap (λ es. is_sorted cmp (keys_of es)) (remove_there xs at is there) ∙ sorted_remove cmp (is_at order) (entries_in xs) up

module _ {K V : Type 0} {cmp : K → K → Ordering} (total : IsTotalOrder cmp) (key : K) (value : V) where
  pub change_there : (xs : List (V × K)) (at : ℕ) → at ≡ rank (cmp key) (keys_in xs) → true ≡ is_match (cmp key) (slice_get (keys_in xs) (rank (cmp key) (keys_in xs))) → entries_in (moved at at value xs) ≡ insert_entry cmp (entries_in xs) key value
  change_there xs at is there = ap (λ i. entries_in (moved i i value xs)) is ∙ put_there cmp key value xs (sym there)

  pub sorted_change : (xs : List (V × K)) (at : ℕ) → is_sorted cmp (keys_in xs) ≡ true → at ≡ rank (cmp key) (keys_in xs) → true ≡ is_match (cmp key) (slice_get (keys_in xs) (rank (cmp key) (keys_in xs))) → is_sorted cmp (keys_in (moved at at value xs)) ≡ true
  sorted_change xs at up is there = ap (λ es. is_sorted cmp (keys_of es)) (change_there xs at is there) ∙ sorted_insert cmp total key value (entries_in xs) up

  pub add_none : (xs : List (V × K)) → false ≡ is_match (cmp key) (slice_get (keys_in xs) (rank (cmp key) (keys_in xs))) → entries_in (insert xs (rank (cmp key) (keys_in xs)) (value, key)) ≡ insert_entry cmp (entries_in xs) key value
  add_none xs none = put_new cmp key value xs (sym none)

  pub sorted_add : (xs : List (V × K)) → is_sorted cmp (keys_in xs) ≡ true → false ≡ is_match (cmp key) (slice_get (keys_in xs) (rank (cmp key) (keys_in xs))) → is_sorted cmp (keys_in (insert xs (rank (cmp key) (keys_in xs)) (value, key))) ≡ true
  sorted_add xs up none = ap (λ es. is_sorted cmp (keys_of es)) (add_none xs none) ∙ sorted_insert cmp total key value (entries_in xs) up
