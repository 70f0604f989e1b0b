-- What is looked for among pairs in order: those with one first part, whose second part is among those that a query matches.
use Rattle.std.specs.Prelude.{◌≡◌, true, refl}
use Rattle.std.proofs.Common.{sym, ap, true≢false, ◌∙◌}
use Rattle.std.specs.Ordering.{is_le, is_lt, ordering_then}
use Rattle.std.specs.declared.cmp.Ordering.{Ordering}
use Rattle.std.specs.declared.cmp.Ordering.TheVariants.{Less, Equal, Greater}
use Rattle.std.specs.Cmp.{IsTotalOrder}
use Rattle.sk_undo.specs.Queries.{lt_le}
use Rattle.sk_undo.specs.Sorted.{IsQuery}

then_le : (o p : Ordering) → is_le (ordering_then o p) ≡ true → is_le o ≡ true
then_le Less p h = refl
then_le Equal p h = refl
then_le Greater p h = h

le_then : (o p : Ordering) → is_lt o ≡ true → is_le (ordering_then o p) ≡ true
le_then Less p h = refl
le_then Equal p h = absurd (true≢false (sym h))
le_then Greater p h = absurd (true≢false (sym h))

lt_then : (o p : Ordering) → is_lt o ≡ true → is_lt (ordering_then o p) ≡ true
lt_then Less p h = refl
lt_then Equal p h = absurd (true≢false (sym h))
lt_then Greater p h = absurd (true≢false (sym h))

module _ {A B : Type 0} {cmp : A → A → Ordering} {cmp_rest : B → B → Ordering} (total : IsTotalOrder cmp) (first : A) {order : B → Ordering} (query : IsQuery cmp_rest order) where
  le_at : (o p : Ordering) (x y : A × B) → cmp first x.0 ≡ o → cmp x.0 y.0 ≡ p → is_le (ordering_then o (order x.1)) ≡ true → is_le (ordering_then p (cmp_rest x.1 y.1)) ≡ true → is_le (ordering_then (cmp first y.0) (order y.1)) ≡ true
  le_at Less p x y e f h k = le_then (cmp first y.0) (order y.1) (lt_le total first x.0 y.0 (ap is_lt e) (ap is_le f ∙ then_le p (cmp_rest x.1 y.1) k))
  le_at Equal Less x y e f h k = le_then (cmp first y.0) (order y.1) (ap is_lt (total.congr first x.0 y.0 e ∙ f))
  le_at Equal Equal x y e f h k = ap (λ o. is_le (ordering_then o (order y.1))) (total.congr first x.0 y.0 e ∙ f) ∙ query.le x.1 y.1 h k
  le_at Equal Greater x y e f h k = absurd (true≢false (sym k))
  le_at Greater p x y e f h k = absurd (true≢false (sym h))

  lt_at : (o p : Ordering) (x y : A × B) → cmp first x.0 ≡ o → cmp x.0 y.0 ≡ p → is_lt (ordering_then o (order x.1)) ≡ true → is_le (ordering_then p (cmp_rest x.1 y.1)) ≡ true → is_lt (ordering_then (cmp first y.0) (order y.1)) ≡ true
  lt_at Less p x y e f h k = lt_then (cmp first y.0) (order y.1) (lt_le total first x.0 y.0 (ap is_lt e) (ap is_le f ∙ then_le p (cmp_rest x.1 y.1) k))
  lt_at Equal Less x y e f h k = lt_then (cmp first y.0) (order y.1) (ap is_lt (total.congr first x.0 y.0 e ∙ f))
  lt_at Equal Equal x y e f h k = ap (λ o. is_lt (ordering_then o (order y.1))) (total.congr first x.0 y.0 e ∙ f) ∙ query.lt x.1 y.1 h k
  lt_at Equal Greater x y e f h k = absurd (true≢false (sym k))
  lt_at Greater p x y e f h k = absurd (true≢false (sym h))

  pub pair_query : IsQuery {K = A × B} (λ x y. ordering_then (cmp x.0 y.0) (cmp_rest x.1 y.1)) (λ x. ordering_then (cmp first x.0) (order x.1))
  pair_query = record {
    le = λ x y h k. le_at (cmp first x.0) (cmp x.0 y.0) x y refl refl h k;
    lt = λ x y h k. lt_at (cmp first x.0) (cmp x.0 y.0) x y refl refl h k;
  }
