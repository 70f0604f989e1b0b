-- Edits keep the order.
use Rattle.std.proofs.Common.{◌≡◌, ℕ, zero, suc, Bool, true, false, not, cond, List, [], ◌∷◌, ◌++◌, ◌<◌, length, take, drop, refl, sym, arith, ap, ◌+◌, ◌∙◌}
use Rattle.std.proofs.lemmas.List.{take-append-drop}
use Rattle.std.specs.List.{insert, remove, position_or_len, list_any}
use Rattle.std.specs.declared.cmp.Ordering.TheVariants.{Equal}
use Rattle.std.specs.Ordering.{is_eq, nat_cmp}
use Rattle.std.specs.Cmp.{IsTotalOrder}
use Rattle.std.specs.Cmp.Lexicographic.{slice_cmp}
use Rattle.std.specs.Str.{bytes_eq}
use Rattle.std.proofs.lemmas.Cmp.{then_total, on_total, int_cmp_total, nat_list_cmp_total}
use Rattle.std.proofs.lemmas.Bool.Decides.{nat_tests}
use Rattle.std.proofs.lemmas.Map.Text.{is_eq-slice_cmp}
use Rattle.std.proofs.lemmas.Slice.Eq.{bytes_eq-Decides}
use Rattle.sk_zset.specs.Pair.{Pair, pair_cmp, precedes, names}
use Rattle.sk_zset.specs.Pairs.{has, without, without_ranks}
use Rattle.sk_zset.specs.Order.{is_first, is_ordered}

pub pair_total : IsTotalOrder pair_cmp
pair_total = then_total (on_total (λ p. p.0) int_cmp_total) (on_total (λ p. p.1) nat_list_cmp_total)

pub same_bytes : (xs ys : List ℕ) → bytes_eq xs ys ≡ true → xs ≡ ys
same_bytes xs ys = (bytes_eq-Decides xs ys).0

pub names_flip : (xs ys : List ℕ) → bytes_eq xs ys ≡ bytes_eq ys xs
names_flip [] [] = refl
names_flip [] (y ∷ ys) = refl
names_flip (x ∷ xs) [] = refl
names_flip (x ∷ xs) (y ∷ ys) = grind (arith, nat_tests, names_flip xs ys)

pub cmp_same : (xs ys : List ℕ) → slice_cmp nat_cmp xs ys ≡ Equal → bytes_eq ys xs ≡ true
cmp_same xs ys h = names_flip ys xs ∙ sym (is_eq-slice_cmp xs ys) ∙ ap is_eq h

-- one of two pairs of two members stands before the other
pub precedes_flips : (p q : Pair) → names p.1 q ≡ false → precedes p q ≡ not (precedes q p)
precedes_flips p q n = let a = pair_total.antisymm q p in let s = cmp_same p.1 q.1 in grind (arith, a, s, n)

precedes_other : (p q : Pair) → precedes p q ≡ false → names p.1 q ≡ false → precedes q p ≡ true
precedes_other p q h n = let f = precedes_flips p q n in grind (arith, f, h)

pub precedes_not : (p q : Pair) → precedes p q ≡ true → precedes q p ≡ false
precedes_not p q h = let a = pair_total.antisymm q p in grind (arith, a, h)

pub precedes_trans : (p q r : Pair) → precedes p q ≡ true → precedes q r ≡ true → precedes p r ≡ true
precedes_trans p q r h k = let t = pair_total.trans p q r in grind (arith, t, h, k)

pub first_trans : (p q : Pair) (ps : List Pair) → precedes p q ≡ true → is_first q ps ≡ true → list_any (names p.1) ps ≡ false → is_first p ps ≡ true
first_trans p q [] h f n = refl
first_trans p q (r ∷ ps) h f n = grind (arith, h, f, n, precedes_trans p q r, first_trans p q ps h)

first_insert : (q p : Pair) (ps : List Pair) (i : ℕ) → is_first q ps ≡ true → precedes q p ≡ true → names q.1 p ≡ false → is_first q (insert ps i p) ≡ true
first_insert q p [] zero f a n = grind (arith, a, n)
first_insert q p [] (suc i) f a n = grind (arith, a, n)
first_insert q p (r ∷ ps) zero f a n = grind (arith, f, a, n)
first_insert q p (r ∷ ps) (suc i) f a n = grind (arith, f, first_insert q p ps i)

first_remove : (q : Pair) (ps : List Pair) (i : ℕ) → is_first q ps ≡ true → is_first q (remove ps i) ≡ true
first_remove q [] zero f = refl
first_remove q [] (suc i) f = refl
first_remove q (r ∷ ps) zero f = grind (arith, f)
first_remove q (r ∷ ps) (suc i) f = grind (arith, f, first_remove q ps i)

pub ordered_remove : (ps : List Pair) (i : ℕ) → is_ordered ps ≡ true → is_ordered (remove ps i) ≡ true
ordered_remove [] zero h = refl
ordered_remove [] (suc i) h = refl
ordered_remove (r ∷ ps) zero h = grind (arith, h)
ordered_remove (r ∷ ps) (suc i) h = grind (arith, h, ordered_remove ps i, first_remove r ps i)

other_first : (p q : Pair) (ps : List Pair) → has p.1 (q ∷ ps) ≡ false → (names p.1 q ≡ false) × (names q.1 p ≡ false) × (has p.1 ps ≡ false)
other_first p q ps n = let f = names_flip p.1 q.1 in (grind (arith, n), grind (arith, n, f), grind (arith, n))

put_one : (p q : Pair) (ps : List Pair) (k : ℕ) (b : Bool) → precedes p q ≡ b → is_ordered (q ∷ ps) ≡ true → has p.1 (q ∷ ps) ≡ false → is_ordered (insert ps k p) ≡ true → is_ordered (insert (q ∷ ps) (cond (not b) (1 + k) 0) p) ≡ true
put_one p q ps k true e h n rest = let o = other_first p q ps n in let f : is_first q ps ≡ true = grind (arith, h) in let t = first_trans p q ps e f o.2 in let m = names_flip p.1 q.1 in grind (arith, e, h, o.0, o.1, t, m)
put_one p q ps k false e h n rest =
    let o = other_first p q ps n in
    let f : is_first q ps ≡ true = grind (arith, h) in
    let i = first_insert q p ps k f (precedes_other p q e o.0) o.1 in
    let s : 1 + k ≡ suc k = omega arith in
    let both : is_ordered (q ∷ insert ps k p) ≡ true = grind (arith, i, rest) in
    ap (λ j. is_ordered (insert (q ∷ ps) j p)) s ∙ both

pub ordered_put : (p : Pair) (ps : List Pair) → is_ordered ps ≡ true → has p.1 ps ≡ false → is_ordered (insert ps (position_or_len (precedes p) ps) p) ≡ true
ordered_put p [] h n = refl
ordered_put p (q ∷ ps) h n =
    let o = other_first p q ps n in
    let g : is_ordered ps ≡ true = grind (arith, h) in
    put_one p q ps (position_or_len (precedes p) ps) (precedes p q) refl h n (ordered_put p ps g o.2)

-- the member's one pair is taken out
pub none_first : (p : Pair) (ps : List Pair) (m : List ℕ) → is_first p ps ≡ true → bytes_eq p.1 m ≡ true → p.1 ≡ m → has m ps ≡ false
none_first p [] m f e s = refl
none_first p (q ∷ ps) m f e s = grind (arith, f, e, s, none_first p ps m)

pub ordered_without : (m : List ℕ) (ps : List Pair) → is_ordered ps ≡ true → is_ordered (without m ps) ≡ true
unfolding without
ordered_without m ps h = ordered_remove ps (position_or_len (names m) ps) h

-- one pair fewer of those that are taken out from a rank on
pub without_ranks_step : (ps : List Pair) (first count : ℕ) → first < length ps → without_ranks first (suc count) ps ≡ without_ranks first count (remove ps first)
without_ranks_step [] first count h = absurd (omega (arith, h))
without_ranks_step (p ∷ ps) zero count h = let e : 0 + suc count ≡ suc (0 + count) = omega arith in ap (λ n. drop n (p ∷ ps)) e
without_ranks_step (p ∷ ps) (suc first) count h =
    let e : suc first + suc count ≡ suc (first + suc count) = omega arith in
    let d : suc first + count ≡ suc (first + count) = omega arith in
    ap (λ n. take (suc first) (p ∷ ps) ++ drop n (p ∷ ps)) e ∙ ap (λ l. p ∷ l) (without_ranks_step ps first count (omega (arith, h))) ∙ sym (ap (λ n. take (suc first) (p ∷ remove ps first) ++ drop n (p ∷ remove ps first)) d)

-- nothing is taken out
pub without_ranks_none : (ps : List Pair) (first : ℕ) → without_ranks first 0 ps ≡ ps
without_ranks_none ps first = let e : first + 0 ≡ first = omega arith in ap (λ n. take first ps ++ drop n ps) e ∙ take-append-drop first ps
