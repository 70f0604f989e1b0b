-- In an ordered list a test of scores, and that of what doesn't stand before a pair, passes from some place on.
use Rattle.std.proofs.Common.{◌≡◌, Bool, true, not, List, [], ◌∷◌, refl, arith}
use Rattle.std.proofs.lemmas.Int.{ints}
use Rattle.sk_base.specs.declared.bound.Bound.{Bound}
use Rattle.sk_base.specs.declared.bound.Bound.TheVariants.{At, High, Low, Past}
use Rattle.sk_undo.specs.Partitioned.{all_pass, is_partitioned}
use Rattle.sk_zset.specs.Bounds.{is_above, is_below}
use Rattle.sk_zset.specs.Order.{is_first, is_ordered}
use Rattle.sk_zset.specs.Pair.{Pair, precedes}
use Rattle.sk_zset.proofs.Order.{precedes_trans}

-- a test that, once it passes a pair, passes those that stand behind it
module _ (t : Pair → Bool) (up : (p q : Pair) → precedes p q ≡ true → t p ≡ true → t q ≡ true) where
  all_behind : (p : Pair) (ps : List Pair) → is_first p ps ≡ true → t p ≡ true → all_pass t ps ≡ true
  all_behind p [] f h = refl
  all_behind p (q ∷ ps) f h = grind (arith, f, h, up p q, all_behind p ps)

  rising : (ps : List Pair) → is_ordered ps ≡ true → is_partitioned t ps ≡ true
  rising [] h = refl
  rising (p ∷ ps) h = grind (arith, h, all_behind p ps, rising ps)

pub partitioned_from : (p : Pair) (ps : List Pair) → is_ordered ps ≡ true → is_partitioned (λ q. not (precedes q p)) ps ≡ true
partitioned_from p ps h = rising (λ q. not (precedes q p)) (λ q r a b. let t = precedes_trans q r p a in grind (arith, b, t)) ps h

below_up : (b : Bound) (p q : Pair) → precedes p q ≡ true → not (is_below b p.0) ≡ true → not (is_below b q.0) ≡ true
below_up Low p q a h = refl
below_up High p q a h = h
below_up (At s) p q a h = grind (arith, ints, a, h)
below_up (Past s) p q a h = grind (arith, ints, a, h)

above_up : (b : Bound) (p q : Pair) → precedes p q ≡ true → is_above b p.0 ≡ true → is_above b q.0 ≡ true
above_up Low p q a h = refl
above_up High p q a h = h
above_up (At s) p q a h = grind (arith, ints, a, h)
above_up (Past s) p q a h = grind (arith, ints, a, h)

pub partitioned_below : (b : Bound) (ps : List Pair) → is_ordered ps ≡ true → is_partitioned (λ p. not (is_below b p.0)) ps ≡ true
partitioned_below b ps h = rising (λ p. not (is_below b p.0)) (below_up b) ps h

pub partitioned_above : (b : Bound) (ps : List Pair) → is_ordered ps ≡ true → is_partitioned (λ p. is_above b p.0) ps ≡ true
partitioned_above b ps h = rising (λ p. is_above b p.0) (above_up b) ps h
