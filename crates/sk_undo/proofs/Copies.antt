-- Edits of a multiset keep its order.
use Rattle.std.proofs.Common.{◌≡◌, ℕ, zero, suc, ◌<◌, slice_get, Bool, true, false, List, [], ◌∷◌, get_or, length, refl, sym, arith, ap, ◌∙◌}
use Rattle.std.specs.BTreeMap.{is_at}
use Rattle.std.specs.Cmp.{IsTotalOrder}
use Rattle.std.specs.List.{insert, list_any, remove}
use Rattle.std.specs.Map.{keys_of, lookup}
use Rattle.std.specs.Option.{is_some}
use Rattle.std.specs.Ordering.{is_le, is_lt}
use Rattle.std.specs.Set.{remove_key}
use Rattle.std.specs.declared.cmp.Ordering.{Ordering}
use Rattle.sk_undo.specs.Entries.{entries_in, keys_in}
use Rattle.sk_undo.specs.Queries.{le_le}
use Rattle.sk_undo.specs.Partitioned.{all_pass}
use Rattle.sk_undo.specs.Sorted.{IsQuery, is_match, is_ordered, rank, rank_past}
use Rattle.sk_undo.proofs.Entries.{found_none, found_there, removed_none}
use Rattle.sk_undo.proofs.Keys.{keys_lookup, keys_remove}
use Rattle.sk_undo.proofs.Maps.{remove_there}
use Rattle.sk_undo.proofs.Sorted.{all_more, lt_is_le}

module _ {K : Type 0} (t : K → Bool) where
  all_in : (keys : List K) (at : ℕ) (key : K) → all_pass t keys ≡ true → t key ≡ true → all_pass t (insert keys at key) ≡ true
  all_in [] zero key h k = grind (arith, k)
  all_in [] (suc at) key h k = grind (arith, k)
  all_in (first ∷ keys) zero key h k = grind (arith, h, k)
  all_in (first ∷ keys) (suc at) key h k = grind (arith, h, all_in keys at key)

  all_out : (keys : List K) (at : ℕ) → all_pass t keys ≡ true → all_pass t (remove keys at) ≡ true
  all_out [] zero h = refl
  all_out [] (suc at) h = refl
  all_out (first ∷ keys) zero h = grind (arith, h)
  all_out (first ∷ keys) (suc at) h = grind (arith, h, all_out keys at)

  all_gone : (u : K → Bool) (keys : List K) → all_pass t keys ≡ true → all_pass t (remove_key u keys) ≡ true
  all_gone u [] h = refl
  all_gone u (first ∷ keys) h = grind (arith, h, all_gone u keys)

module _ {K : Type 0} (cmp : K → K → Ordering) where
  pub ordered_remove : (keys : List K) (at : ℕ) → is_ordered cmp keys ≡ true → is_ordered cmp (remove keys at) ≡ true
  ordered_remove [] zero h = refl
  ordered_remove [] (suc at) h = refl
  ordered_remove (first ∷ keys) zero h = grind (arith, h)
  ordered_remove (first ∷ keys) (suc at) h = grind (arith, h, all_out (λ other. is_le (cmp first other)) keys at, ordered_remove keys at)

  module _ (total : IsTotalOrder cmp) where
    le_behind : (x y : K) → is_lt (cmp x y) ≡ false → is_le (cmp y x) ≡ true
    le_behind x y h = let a = total.antisymm x y in grind (arith, a, h)

    pub ordered_insert : (key : K) (keys : List K) → is_ordered cmp keys ≡ true → is_ordered cmp (insert keys (rank_past (cmp key) keys) key) ≡ true
    ordered_insert key [] h = refl
    ordered_insert key (first ∷ keys) h = by_test (is_lt (cmp key first)) refl (ordered_insert key keys)
      where
        by_test : (b : Bool) → is_lt (cmp key first) ≡ b → (is_ordered cmp keys ≡ true → is_ordered cmp (insert keys (rank_past (cmp key) keys) key) ≡ true) → is_ordered cmp (insert (first ∷ keys) (rank_past (cmp key) (first ∷ keys)) key) ≡ true
        by_test true e more =
            let place : rank_past (cmp key) (first ∷ keys) ≡ 0 = grind (arith, e) in
            let here = lt_is_le cmp key first e in
            let rest = all_more (λ other. is_le (cmp first other)) (λ other. is_le (cmp key other)) (λ other k. le_le total key first other here k) keys (grind (arith, h)) in
            ap (λ i. is_ordered cmp (insert (first ∷ keys) i key)) place ∙ grind (arith, h, here, rest)
        by_test false e more =
            let place : rank_past (cmp key) (first ∷ keys) ≡ suc (rank_past (cmp key) keys) = grind (arith, e) in
            let later = more (grind (arith, h)) in
            let all = all_in (λ other. is_le (cmp first other)) keys (rank_past (cmp key) keys) key (grind (arith, h)) (le_behind key first e) in
            ap (λ i. is_ordered cmp (insert (first ∷ keys) i key)) place ∙ grind (arith, all, later)

-- ## As the code keeps them

module _ {K V : Type 0} where
  pub keys_put : (xs : List (V × K)) (at : ℕ) (value : V) (key : K) → keys_in (insert xs at (value, key)) ≡ insert (keys_in xs) at key
  keys_put [] zero value key = refl
  keys_put [] (suc at) value key = refl
  keys_put (x ∷ xs) zero value key = refl
  keys_put (x ∷ xs) (suc at) value key = ap (λ l. x.1 ∷ l) (keys_put xs at value key)

  pub keys_out : (xs : List (V × K)) (at : ℕ) → keys_in (remove xs at) ≡ remove (keys_in xs) at
  keys_out [] zero = refl
  keys_out [] (suc at) = refl
  keys_out (x ∷ xs) zero = refl
  keys_out (x ∷ xs) (suc at) = ap (λ l. x.1 ∷ l) (keys_out xs at)

  pub key_at : (xs : List (V × K)) (at : ℕ) (x : V × K) → at < length xs → x ≡ get_or xs at x → x.1 ≡ get_or (keys_in xs) at x.1
  key_at [] at x h e = absurd (omega (arith, h))
  key_at (y ∷ xs) zero x h e = ap (λ z. z.1) e
  key_at (y ∷ xs) (suc at) x h e = key_at xs at x (omega (arith, h)) e

module _ {K V : Type 0} {cmp : K → K → Ordering} {order : K → Ordering} (query : IsQuery cmp order) where
  pub any_match : (xs : List (V × K)) → is_ordered cmp (keys_in xs) ≡ true → is_match order (slice_get (keys_in xs) (rank order (keys_in xs))) ≡ list_any (is_at order) (keys_in xs)
  any_match [] up = refl
  any_match (x ∷ xs) up = by_test _ refl ∙ keys_lookup (is_at order) (entries_in (x ∷ xs))
    where
      by_test : (b : Bool) → is_match order (slice_get (keys_in (x ∷ xs)) (rank order (keys_in (x ∷ xs)))) ≡ b → is_match order (slice_get (keys_in (x ∷ xs)) (rank order (keys_in (x ∷ xs)))) ≡ is_some (lookup (is_at order) (entries_in (x ∷ xs)))
      by_test true e = e ∙ sym (ap is_some (found_there order (x ∷ xs) x e))
      by_test false e = e ∙ sym (ap is_some (found_none order query (x ∷ xs) up e))

  pub match_gone : (xs : List (V × K)) (at : ℕ) → at ≡ rank order (keys_in xs) → true ≡ is_match order (slice_get (keys_in xs) (rank order (keys_in xs))) → keys_in (remove xs at) ≡ remove_key (is_at order) (keys_in xs)
  match_gone xs at is there = ap keys_of (remove_there query xs at is there) ∙ keys_remove (is_at order) (entries_in xs)

  pub no_match : (xs : List (V × K)) → is_ordered cmp (keys_in xs) ≡ true → false ≡ is_match order (slice_get (keys_in xs) (rank order (keys_in xs))) → keys_in xs ≡ remove_key (is_at order) (keys_in xs)
  no_match xs up none = sym (ap keys_of (removed_none order query xs up (sym none))) ∙ keys_remove (is_at order) (entries_in xs)

pub ordered_gone : {K : Type 0} (cmp : K → K → Ordering) (t : K → Bool) (keys : List K) → is_ordered cmp keys ≡ true → is_ordered cmp (remove_key t keys) ≡ true
ordered_gone cmp t [] h = refl
ordered_gone cmp t (first ∷ keys) h = grind (arith, h, all_gone (λ other. is_le (cmp first other)) t keys, ordered_gone cmp t keys)

pub length_keys : {K V : Type 0} (xs : List (V × K)) → length (keys_in xs) ≡ length xs
length_keys [] = refl
length_keys (x ∷ xs) = grind (arith, length_keys xs)
