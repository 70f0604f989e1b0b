-- A key looked for among keys in a total order is a query.
use Rattle.std.specs.Prelude.{◌≡◌, true, refl}
use Rattle.std.proofs.Common.{sym, ap, true≢false, ◌∙◌}
use Rattle.std.specs.Ordering.{is_le, is_lt, ordering_reverse}
use Rattle.std.specs.declared.cmp.Ordering.{Ordering}
use Rattle.std.specs.declared.cmp.Ordering.TheVariants.{Less, Equal, Greater}
use Rattle.std.specs.Cmp.{IsTotalOrder}
use Rattle.sk_undo.specs.Sorted.{IsQuery}

less_at : (o : Ordering) → is_lt o ≡ true → o ≡ Less
less_at Less h = refl
less_at Equal h = absurd (true≢false (sym h))
less_at Greater h = absurd (true≢false (sym h))

module _ {K : Type 0} {cmp : K → K → Ordering} (total : IsTotalOrder cmp) where
  -- what is equal to the second compares to the first as the second does
  second : (x y z : K) → cmp y z ≡ Equal → cmp x z ≡ cmp x y
  second x y z e = total.antisymm x z ∙ ap ordering_reverse (sym (total.congr y z x e)) ∙ sym (total.antisymm x y)

  lt_at : (o : Ordering) (x y z : K) → cmp y z ≡ o → is_lt (cmp x y) ≡ true → is_le o ≡ true → is_lt (cmp x z) ≡ true
  lt_at Less x y z e h k = ap is_lt (total.trans x y z (less_at (cmp x y) h) e)
  lt_at Equal x y z e h k = ap is_lt (second x y z e) ∙ h
  lt_at Greater x y z e h k = absurd (true≢false (sym k))

  pub lt_le : (x y z : K) → is_lt (cmp x y) ≡ true → is_le (cmp y z) ≡ true → is_lt (cmp x z) ≡ true
  lt_le x y z h k = lt_at (cmp y z) x y z refl h k

  le_at : (o : Ordering) (x y z : K) → cmp x y ≡ o → is_le o ≡ true → is_le (cmp y z) ≡ true → is_le (cmp x z) ≡ true
  le_at Less x y z e h k = ap is_le (less_at (cmp x z) (lt_le x y z (ap is_lt e) k))
  le_at Equal x y z e h k = ap is_le (total.congr x y z e) ∙ k
  le_at Greater x y z e h k = absurd (true≢false (sym h))

  pub le_le : (x y z : K) → is_le (cmp x y) ≡ true → is_le (cmp y z) ≡ true → is_le (cmp x z) ≡ true
  le_le x y z h k = le_at (cmp x y) x y z refl h k

  pub key_query : (key : K) → IsQuery cmp (cmp key)
  key_query key = record { le = le_le key; lt = lt_le key }
