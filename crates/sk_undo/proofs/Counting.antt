-- How many keys match: those from the first to the last, which stand together.
use Rattle.std.proofs.Common.{◌≡◌, ◌-◌, Bool, true, false, cond, List, [], ◌∷◌, refl, arith}
use Rattle.std.specs.BTreeMap.{is_at}
use Rattle.std.specs.List.{count_by, list_any}
use Rattle.std.specs.Ordering.{is_eq, is_le, is_lt}
use Rattle.std.specs.declared.cmp.Ordering.{Ordering}
use Rattle.std.proofs.lemmas.List.Sums.{sum_by-cons}
use Rattle.sk_undo.specs.Partitioned.{all_pass}
use Rattle.sk_undo.specs.Sorted.{IsQuery, is_ordered, rank, rank_past}
use Rattle.sk_undo.proofs.Sorted.{le_rest, lt_rest}

pub none_counted : {K : Type 0} (t : K → Bool) (keys : List K) → list_any t keys ≡ false → count_by t keys ≡ 0
none_counted t [] h = refl
none_counted t (first ∷ keys) h = let e = sum_by-cons (λ key. cond (t key) 1 0) first keys in grind (arith, e, h, none_counted t keys)

module _ {K : Type 0} {cmp : K → K → Ordering} {order : K → Ordering} (query : IsQuery cmp order) where
  none_past : (keys : List K) → all_pass (λ key. is_lt (order key)) keys ≡ true → count_by (is_at order) keys ≡ 0
  none_past [] h = refl
  none_past (first ∷ keys) h = let e = sum_by-cons (λ key. cond (is_eq (order key)) 1 0) first keys in grind (arith, e, h, none_past keys)

  pub rank_all : (keys : List K) → all_pass (λ key. is_le (order key)) keys ≡ true → rank order keys ≡ 0
  rank_all [] h = refl
  rank_all (first ∷ keys) h = grind (arith, h)

  pub count_between : (keys : List K) → is_ordered cmp keys ≡ true → count_by (is_at order) keys ≡ rank_past order keys - rank order keys
  count_between [] up = refl
  count_between (first ∷ keys) up = by_test (is_le (order first)) (is_lt (order first)) refl refl (count_between keys)
    where
      by_test : (a b : Bool) → is_le (order first) ≡ a → is_lt (order first) ≡ b → (is_ordered cmp keys ≡ true → count_by (is_at order) keys ≡ rank_past order keys - rank order keys) → count_by (is_at order) (first ∷ keys) ≡ rank_past order (first ∷ keys) - rank order (first ∷ keys)
      by_test a true e f more =
          let s = sum_by-cons (λ key. cond (is_eq (order key)) 1 0) first keys in
          let none = none_past keys (lt_rest cmp query first keys f (grind (arith, up))) in
          grind (arith, s, none, f)
      by_test true false e f more =
          let s = sum_by-cons (λ key. cond (is_eq (order key)) 1 0) first keys in
          let later = more (grind (arith, up)) in
          let all = rank_all keys (le_rest cmp query first keys e (grind (arith, up))) in
          grind (arith, s, later, all, e, f)
      by_test false false e f more =
          let s = sum_by-cons (λ key. cond (is_eq (order key)) 1 0) first keys in
          let later = more (grind (arith, up)) in
          grind (arith, s, later, e, f)
