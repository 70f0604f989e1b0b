-- Keys in order: what is looked for stands before all from some place on, and edits keep the order. Once, for every total order.
use Rattle.std.proofs.Common.{◌≡◌, Bool, true, false, List, [], ◌∷◌, refl, arith}
use Rattle.std.specs.BTreeMap.{insert_entry}
use Rattle.std.specs.Cmp.{IsTotalOrder}
use Rattle.std.specs.Map.{keys_of, remove_entry}
use Rattle.std.specs.Ordering.{is_le, is_lt}
use Rattle.std.specs.declared.cmp.Ordering.{Ordering}
use Rattle.sk_undo.specs.Queries.{lt_le}
use Rattle.sk_undo.specs.Partitioned.{all_pass, is_partitioned}
use Rattle.sk_undo.specs.Sorted.{IsQuery, is_ordered, is_sorted}

module _ {K : Type 0} where
  pub all_more : (t u : K → Bool) → ((key : K) → t key ≡ true → u key ≡ true) → (keys : List K) → all_pass t keys ≡ true → all_pass u keys ≡ true
  all_more t u more [] h = refl
  all_more t u more (key ∷ keys) h = grind (arith, h, more key, all_more t u more keys)

module _ {K : Type 0} (cmp : K → K → Ordering) where
  pub lt_is_le : (x y : K) → is_lt (cmp x y) ≡ true → is_le (cmp x y) ≡ true
  lt_is_le x y h = grind (arith, h)

  pub sorted_ordered : (keys : List K) → is_sorted cmp keys ≡ true → is_ordered cmp keys ≡ true
  sorted_ordered [] h = refl
  sorted_ordered (key ∷ keys) h = grind (arith, h, all_more (λ other. is_lt (cmp key other)) (λ other. is_le (cmp key other)) (lt_is_le key) keys, sorted_ordered keys)

  module _ {order : K → Ordering} (query : IsQuery cmp order) where
    pub le_rest : (first : K) (keys : List K) → is_le (order first) ≡ true → all_pass (λ other. is_le (cmp first other)) keys ≡ true → all_pass (λ key. is_le (order key)) keys ≡ true
    le_rest first keys h k = all_more (λ other. is_le (cmp first other)) (λ key. is_le (order key)) (λ other behind. query.le first other h behind) keys k

    pub lt_rest : (first : K) (keys : List K) → is_lt (order first) ≡ true → all_pass (λ other. is_le (cmp first other)) keys ≡ true → all_pass (λ key. is_lt (order key)) keys ≡ true
    lt_rest first keys h k = all_more (λ other. is_le (cmp first other)) (λ key. is_lt (order key)) (λ other behind. query.lt first other h behind) keys k

    -- the tests by which a rank is found rise
    pub partitioned_le : (keys : List K) → is_ordered cmp keys ≡ true → is_partitioned (λ key. is_le (order key)) keys ≡ true
    partitioned_le [] h = refl
    partitioned_le (first ∷ keys) h = grind (arith, h, le_rest first keys, partitioned_le keys)

    pub partitioned_lt : (keys : List K) → is_ordered cmp keys ≡ true → is_partitioned (λ key. is_lt (order key)) keys ≡ true
    partitioned_lt [] h = refl
    partitioned_lt (first ∷ keys) h = grind (arith, h, lt_rest first keys, partitioned_lt keys)

  -- ## Edits

  module _ {V : Type 0} (t : K → Bool) where
    all_insert : (key : K) (value : V) (es : List (K × V)) → all_pass t (keys_of es) ≡ true → t key ≡ true → all_pass t (keys_of (insert_entry cmp es key value)) ≡ true
    all_insert key value [] h k = grind (arith, k)
    all_insert key value (first ∷ es) h k = grind (arith, h, k, all_insert key value es)

    all_remove : (u : K → Bool) (es : List (K × V)) → all_pass t (keys_of es) ≡ true → all_pass t (keys_of (remove_entry u es)) ≡ true
    all_remove u [] h = refl
    all_remove u (first ∷ es) h = grind (arith, h, all_remove u es)

  pub sorted_remove : {V : Type 0} (t : K → Bool) (es : List (K × V)) → is_sorted cmp (keys_of es) ≡ true → is_sorted cmp (keys_of (remove_entry t es)) ≡ true
  sorted_remove t [] h = refl
  sorted_remove t (first ∷ es) h = grind (arith, h, all_remove (λ other. is_lt (cmp first.0 other)) t es, sorted_remove t es)

  module _ (total : IsTotalOrder cmp) where
    pub behind : (x y : K) → is_le (cmp x y) ≡ false → is_lt (cmp y x) ≡ true
    behind x y h = let a = total.antisymm x y in grind (arith, a, h)

    pub before_rest : (key first : K) (keys : List K) → is_lt (cmp key first) ≡ true → all_pass (λ other. is_lt (cmp first other)) keys ≡ true → all_pass (λ other. is_lt (cmp key other)) keys ≡ true
    before_rest key first keys h k = all_more (λ other. is_lt (cmp first other)) (λ other. is_lt (cmp key other)) (λ other e. lt_le total key first other h (lt_is_le first other e)) keys k

    pub sorted_insert : {V : Type 0} (key : K) (value : V) (es : List (K × V)) → is_sorted cmp (keys_of es) ≡ true → is_sorted cmp (keys_of (insert_entry cmp es key value)) ≡ true
    sorted_insert key value [] h = refl
    sorted_insert key value (first ∷ es) h =
        let a = all_insert (λ other. is_lt (cmp first.0 other)) key value es in
        let b = before_rest key first.0 (keys_of es) in
        let c = behind key first.0 in
        grind (arith, h, a, b, c, sorted_insert key value es)
