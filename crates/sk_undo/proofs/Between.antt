-- The keys that match stand together, and the others are those before and behind them.
use Rattle.std.proofs.Common.{◌≡◌, ◌+◌, ◌≤◌, ℕ, zero, suc, Bool, true, false, not, List, [], ◌∷◌, ◌++◌, drop, filter, take, refl, sym, arith, ap, ap₂, ◌∙◌}
use Rattle.std.specs.BTreeMap.{is_at}
use Rattle.std.specs.Ordering.{is_eq, is_le, is_lt}
use Rattle.std.specs.declared.cmp.Ordering.{Ordering}
use Rattle.sk_undo.specs.Entries.{keys_in}
use Rattle.sk_undo.specs.Partitioned.{all_pass}
use Rattle.sk_undo.specs.Sorted.{IsQuery, is_ordered, rank, rank_past}
use Rattle.sk_undo.proofs.Counting.{rank_all}
use Rattle.sk_undo.proofs.Sorted.{le_rest, lt_rest}

module _ {K : Type 0} where
  all_take : (t : K → Bool) (n : ℕ) (keys : List K) → all_pass t keys ≡ true → all_pass t (take n keys) ≡ true
  all_take t zero keys h = refl
  all_take t (suc n) [] h = refl
  all_take t (suc n) (key ∷ keys) h = grind (arith, h, all_take t n keys)

  all_filter : (t u : K → Bool) (keys : List K) → all_pass t keys ≡ true → all_pass t (filter u keys) ≡ true
  all_filter t u [] h = refl
  all_filter t u (key ∷ keys) h = grind (arith, h, all_filter t u keys)

module _ {K : Type 0} (cmp : K → K → Ordering) where
  ordered_take : (n : ℕ) (keys : List K) → is_ordered cmp keys ≡ true → is_ordered cmp (take n keys) ≡ true
  ordered_take zero keys h = refl
  ordered_take (suc n) [] h = refl
  ordered_take (suc n) (key ∷ keys) h = grind (arith, h, all_take (λ other. is_le (cmp key other)) n keys, ordered_take n keys)

  ordered_drop : (n : ℕ) (keys : List K) → is_ordered cmp keys ≡ true → is_ordered cmp (drop n keys) ≡ true
  ordered_drop zero keys h = h
  ordered_drop (suc n) [] h = refl
  ordered_drop (suc n) (key ∷ keys) h = ordered_drop n keys (grind (arith, h))

  pub ordered_part : (m n : ℕ) (keys : List K) → is_ordered cmp keys ≡ true → is_ordered cmp (drop m (take n keys)) ≡ true
  ordered_part m n keys h = ordered_drop m (take n keys) (ordered_take n keys h)

  pub ordered_others : (u : K → Bool) (keys : List K) → is_ordered cmp keys ≡ true → is_ordered cmp (filter u keys) ≡ true
  ordered_others u [] h = refl
  ordered_others u (key ∷ keys) h = grind (arith, h, all_filter (λ other. is_le (cmp key other)) u keys, ordered_others u keys)

module _ {K : Type 0} {cmp : K → K → Ordering} {order : K → Ordering} (query : IsQuery cmp order) where
  all_others : (keys : List K) → all_pass (λ key. is_lt (order key)) keys ≡ true → filter (λ key. not (is_at order key)) keys ≡ keys
  all_others [] h = refl
  all_others (key ∷ keys) h = grind (arith, h, all_others keys)

  pub ranks_rise : (keys : List K) → rank order keys ≤ rank_past order keys
  ranks_rise [] = omega arith
  ranks_rise (first ∷ keys) = grind (arith, ranks_rise keys)

  pub without_between : (keys : List K) → is_ordered cmp keys ≡ true → take (rank order keys) keys ++ drop (rank_past order keys) keys ≡ filter (λ key. not (is_at order key)) keys
  without_between [] up = refl
  without_between (first ∷ keys) up = by_test (is_le (order first)) (is_lt (order first)) refl refl (without_between keys)
    where
      by_test : (a b : Bool) → is_le (order first) ≡ a → is_lt (order first) ≡ b → (is_ordered cmp keys ≡ true → take (rank order keys) keys ++ drop (rank_past order keys) keys ≡ filter (λ key. not (is_at order key)) keys) → take (rank order (first ∷ keys)) (first ∷ keys) ++ drop (rank_past order (first ∷ keys)) (first ∷ keys) ≡ filter (λ key. not (is_at order key)) (first ∷ keys)
      by_test a true e f more =
          let none = all_others keys (lt_rest cmp query first keys f (grind (arith, up))) in
          grind (arith, none, f)
      by_test true false e f more =
          let later = more (grind (arith, up)) in
          let all = rank_all query keys (le_rest cmp query first keys e (grind (arith, up))) in
          let m : rank order (first ∷ keys) ≡ 0 = grind (arith, e) in
          let two : rank_past order (first ∷ keys) ≡ 1 + rank_past order keys = grind (arith, f) in
          let n : rank_past order (first ∷ keys) ≡ suc (rank_past order keys) = omega (arith, two) in
          let goes : filter (λ key. not (is_at order key)) (first ∷ keys) ≡ filter (λ key. not (is_at order key)) keys = grind (arith, e, f) in
          ap₂ (λ a b. take a (first ∷ keys) ++ drop b (first ∷ keys)) m n ∙ sym (ap (λ a. take a keys ++ drop (rank_past order keys) keys) all) ∙ later ∙ sym goes
      by_test false false e f more =
          let later = more (grind (arith, up)) in
          let one : rank order (first ∷ keys) ≡ 1 + rank order keys = grind (arith, e) in
          let two : rank_past order (first ∷ keys) ≡ 1 + rank_past order keys = grind (arith, f) in
          let stays : filter (λ key. not (is_at order key)) (first ∷ keys) ≡ first ∷ filter (λ key. not (is_at order key)) keys = grind (arith, e) in
          let m : rank order (first ∷ keys) ≡ suc (rank order keys) = omega (arith, one) in
          let n : rank_past order (first ∷ keys) ≡ suc (rank_past order keys) = omega (arith, two) in
          ap₂ (λ a b. take a (first ∷ keys) ++ drop b (first ∷ keys)) m n ∙ ap (λ l. first ∷ l) later ∙ sym stays

-- as tagged keys
module _ {V K : Type 0} where
  keys_take : (n : ℕ) (es : List (V × K)) → keys_in (take n es) ≡ take n (keys_in es)
  keys_take zero es = refl
  keys_take (suc n) [] = refl
  keys_take (suc n) (e ∷ es) = ap (λ keys. e.1 ∷ keys) (keys_take n es)

  keys_drop : (n : ℕ) (es : List (V × K)) → keys_in (drop n es) ≡ drop n (keys_in es)
  keys_drop zero es = refl
  keys_drop (suc n) [] = refl
  keys_drop (suc n) (e ∷ es) = keys_drop n es

  keys_append : (es fs : List (V × K)) → keys_in (es ++ fs) ≡ keys_in es ++ keys_in fs
  keys_append [] fs = refl
  keys_append (e ∷ es) fs = ap (λ keys. e.1 ∷ keys) (keys_append es fs)

  pub keys_part : (m n : ℕ) (es : List (V × K)) → keys_in (drop m (take n es)) ≡ drop m (take n (keys_in es))
  keys_part m n es = keys_drop m (take n es) ∙ ap (drop m) (keys_take n es)

  pub keys_others : (m n : ℕ) (es : List (V × K)) → keys_in (take m es ++ drop n es) ≡ take m (keys_in es) ++ drop n (keys_in es)
  keys_others m n es = keys_append (take m es) (drop n es) ∙ ap (λ keys. keys ++ keys_in (drop n es)) (keys_take m es) ∙ ap (λ keys. take m (keys_in es) ++ keys) (keys_drop n es)
