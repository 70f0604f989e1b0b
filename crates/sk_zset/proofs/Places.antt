-- Where a member's pair stands, by its score, and where a new one is to stand.
use Rattle.std.proofs.Common.{◌≡◌, ℕ, ℤ, zero, suc, ◌+◌, ◌<◌, ◌≤◌, Bool, true, false, not, cond, List, [], ◌∷◌, Option, Some, None, get_or, length, refl, sym, arith, ap, ap₂, ◌∙◌}
use Rattle.std.specs.List.{insert, remove, position_or_len, list_any}
use Rattle.std.specs.Option.{is_some, option_eq}
use Rattle.std.specs.Ordering.{int_eq}
use Rattle.std.proofs.lemmas.Bool.Decides.{Decides-int_eq}
use Rattle.sk_zset.specs.Order.{is_first, is_ordered}
use Rattle.sk_zset.specs.Pair.{Pair, names, precedes}
use Rattle.sk_zset.specs.Pairs.{has, put, score_of, without}
use Rattle.sk_zset.proofs.Order.{names_flip, pair_total, precedes_flips, precedes_not, same_bytes}
use Rattle.sk_zset.proofs.Scores.{has_score, same_self, score_first}

module _ {X : Type 0} (p : X → Bool) where
  pub no_position : (xs : List X) → length xs ≤ position_or_len p xs → list_any p xs ≡ false
  no_position [] h = refl
  no_position (x ∷ xs) h = grind (arith, no_position xs)

remove_none : {X : Type 0} (xs : List X) (i : ℕ) → length xs ≤ i → remove xs i ≡ xs
remove_none [] zero h = refl
remove_none [] (suc i) h = refl
remove_none (x ∷ xs) zero h = absurd (omega (arith, h))
remove_none (x ∷ xs) (suc i) h = ap (λ l. x ∷ l) (remove_none xs i (omega (arith, h)))

-- ## A member without a score

no_place : (m : List ℕ) (ps : List Pair) → score_of m ps ≡ None → length ps ≤ position_or_len (names m) ps
no_place m [] h = omega arith
no_place m (q ∷ ps) h = let e = score_first m q ps in grind (arith, e, h, no_place m ps)

pub without_none : (m : List ℕ) (ps : List Pair) → score_of m ps ≡ None → without m ps ≡ ps
unfolding without
without_none m ps h = remove_none ps (position_or_len (names m) ps) (no_place m ps h)

-- A new pair comes to stand before those that don't stand before it.
pub place_new : (p : Pair) (ps : List Pair) → has p.1 ps ≡ false → position_or_len (λ q. not (precedes q p)) ps ≡ position_or_len (precedes p) ps
place_new p [] n = refl
place_new p (q ∷ ps) n =
    let rest = place_new p ps (grind (arith, n)) in
    let flips = precedes_flips p q (grind (arith, n)) in
    ap₂ (λ b k. cond (not b) (1 + k) 0) (sym flips) rest

-- ## A member with a score

pub place_within : (m : List ℕ) (s : ℤ) (ps : List Pair) → score_of m ps ≡ Some s → position_or_len (names m) ps < length ps
place_within m s [] h = absurd (cc)
place_within m s (q ∷ ps) h = let e = score_first m q ps in grind (arith, e, h, place_within m s ps)

same_pair : (p q : Pair) → names p.1 q ≡ true → Some q.0 ≡ Some p.0 → q ≡ p
same_pair p q n e = let s : q.0 ≡ p.0 = grind (arith, e) in ap₂ (λ a b. (a, b)) s (same_bytes q.1 p.1 n)

-- the rest of a list whose first pair is another member's
score_rest : (m : List ℕ) (s : ℤ) (q : Pair) (ps : List Pair) → names m q ≡ false → score_of m (q ∷ ps) ≡ Some s → score_of m ps ≡ Some s
score_rest m s q ps e h = let f = score_first m q ps in grind (arith, e, f, h)

same_first : (p q : Pair) (ps : List Pair) → names p.1 q ≡ true → score_of p.1 (q ∷ ps) ≡ Some p.0 → q ≡ p
same_first p q ps e h = let f = score_first p.1 q ps in let s : Some q.0 ≡ Some p.0 = grind (arith, e, f, h) in same_pair p q e s

-- it stands behind the first
behind_first : (q p : Pair) (ps : List Pair) → is_first q ps ≡ true → score_of p.1 ps ≡ Some p.0 → precedes q p ≡ true
behind_first q p [] f h = absurd (cc)
behind_first q p (r ∷ ps) f h = by_test (names p.1 r) refl (behind_first q p ps)
  where
    by_test : (b : Bool) → names p.1 r ≡ b → (is_first q ps ≡ true → score_of p.1 ps ≡ Some p.0 → precedes q p ≡ true) → precedes q p ≡ true
    by_test true e more = let before : precedes q r ≡ true = grind (arith, f) in sym (ap (precedes q) (same_first p r ps e h)) ∙ before
    by_test false e more = more (grind (arith, f)) (score_rest p.1 p.0 r ps e h)

precedes_self : (p : Pair) → precedes p p ≡ false
precedes_self p = let a = pair_total.antisymm p p in grind (arith, a)

-- it is the first that doesn't stand before the pair of that score
pub place_there : (p : Pair) (ps : List Pair) → is_ordered ps ≡ true → score_of p.1 ps ≡ Some p.0 → position_or_len (λ q. not (precedes q p)) ps ≡ position_or_len (names p.1) ps
place_there p [] h s = refl
place_there p (q ∷ ps) h s = by_test (names p.1 q) refl (place_there p ps)
  where
    by_test : (b : Bool) → names p.1 q ≡ b → (is_ordered ps ≡ true → score_of p.1 ps ≡ Some p.0 → position_or_len (λ r. not (precedes r p)) ps ≡ position_or_len (names p.1) ps) → position_or_len (λ r. not (precedes r p)) (q ∷ ps) ≡ position_or_len (names p.1) (q ∷ ps)
    by_test true e more =
        let same = ap (λ r. precedes r p) (same_first p q ps e s) ∙ precedes_self p in
        ap (λ a. cond (not (not a)) (1 + position_or_len (λ r. not (precedes r p)) ps) 0) same ∙ sym (ap (λ b. cond (not b) (1 + position_or_len (names p.1) ps) 0) e)
    by_test false e more =
        let there = score_rest p.1 p.0 q ps e s in
        let before = behind_first q p ps (grind (arith, h)) there in
        let rest = more (grind (arith, h)) there in
        ap₂ (λ a k. cond (not (not a)) (1 + k) 0) before rest ∙ sym (ap (λ b. cond (not b) (1 + position_or_len (names p.1) ps) 0) e)

-- ## A pair that is added again

front : (p : Pair) (ps : List Pair) → is_first p ps ≡ true → insert ps (position_or_len (precedes p) ps) p ≡ p ∷ ps
front p [] f = refl
front p (q ∷ ps) f = let before : precedes p q ≡ true = grind (arith, f) in ap (λ b. insert (q ∷ ps) (cond (not b) (1 + position_or_len (precedes p) ps) 0) p) before

again : (p : Pair) (ps : List Pair) → is_ordered ps ≡ true → score_of p.1 ps ≡ Some p.0 → insert (remove ps (position_or_len (names p.1) ps)) (position_or_len (precedes p) (remove ps (position_or_len (names p.1) ps))) p ≡ ps
again p [] h s = absurd (cc)
again p (q ∷ ps) h s = by_test (names p.1 q) refl (again p ps)
  where
    rest : Bool → List Pair
    rest b = remove (q ∷ ps) (cond (not b) (1 + position_or_len (names p.1) ps) 0)

    by_test : (b : Bool) → names p.1 q ≡ b → (is_ordered ps ≡ true → score_of p.1 ps ≡ Some p.0 → insert (remove ps (position_or_len (names p.1) ps)) (position_or_len (precedes p) (remove ps (position_or_len (names p.1) ps))) p ≡ ps) → insert (rest b) (position_or_len (precedes p) (rest b)) p ≡ q ∷ ps
    by_test true e more =
        let same = same_first p q ps e s in
        let first : is_first q ps ≡ true = grind (arith, h) in
        front p ps (sym (ap (λ r. is_first r ps) same) ∙ first) ∙ sym (ap (λ r. r ∷ ps) same)
    by_test false e more =
        let there = score_rest p.1 p.0 q ps e s in
        let behind = precedes_not q p (behind_first q p ps (grind (arith, h)) there) in
        let k : ℕ = position_or_len (names p.1) ps in
        let one : 1 + k ≡ suc k = omega arith in
        let j : ℕ = position_or_len (precedes p) (remove ps k) in
        let next : 1 + j ≡ suc j = omega arith in
        ap (λ i. insert (remove (q ∷ ps) i) (position_or_len (precedes p) (remove (q ∷ ps) i)) p) one ∙ ap (λ b. insert (q ∷ remove ps k) (cond (not b) (1 + j) 0) p) behind ∙ ap (λ i. insert (q ∷ remove ps k) i p) next ∙ ap (λ l. q ∷ l) (more (grind (arith, h)) there)

pub added_again : (p : Pair) (ps : List Pair) → is_ordered ps ≡ true → score_of p.1 ps ≡ Some p.0 → put p (without p.1 ps) ≡ ps
unfolding put without
added_again p ps h s = again p ps h s

-- ## A pair by its rank

others_behind : (q p : Pair) (ps : List Pair) (i : ℕ) → is_first q ps ≡ true → i < length ps → p ≡ get_or ps i p → names q.1 p ≡ false
others_behind q p [] i f h e = absurd (omega (arith, h))
others_behind q p (r ∷ ps) zero f h e = let other : names q.1 r ≡ false = grind (arith, f) in ap (names q.1) e ∙ other
others_behind q p (r ∷ ps) (suc i) f h e = others_behind q p ps i (grind (arith, f)) (omega (arith, h)) e

pub place_at : (p : Pair) (ps : List Pair) (i : ℕ) → is_ordered ps ≡ true → i < length ps → p ≡ get_or ps i p → position_or_len (names p.1) ps ≡ i
place_at p [] i h k e = absurd (omega (arith, k))
place_at p (q ∷ ps) zero h k e = let own : names p.1 q ≡ true = sym (ap (names p.1) e) ∙ same_self p.1 in ap (λ b. cond (not b) (1 + position_or_len (names p.1) ps) 0) own
place_at p (q ∷ ps) (suc i) h k e =
    let first : is_first q ps ≡ true = grind (arith, h) in
    let other = names_flip q.1 p.1 ∙ others_behind q p ps i first (omega (arith, k)) e in
    let rest = place_at p ps i (grind (arith, h)) (omega (arith, k)) e in
    ap₂ (λ b n. cond (not b) (1 + n) 0) other rest ∙ omega arith

pub has_there : (m : List ℕ) (s : ℤ) (ps : List Pair) → score_of m ps ≡ Some s → has m ps ≡ true
has_there m s ps h = sym (has_score m ps) ∙ ap is_some h

pub same_score : (o : Option ℤ) (s : ℤ) → option_eq int_eq o (Some s) ≡ true → o ≡ Some s
same_score None s h = absurd (cc)
same_score (Some r) s h = ap Some ((Decides-int_eq r s).0 h)
