-- A part of a part of a list.
use Rattle.std.proofs.Common.{◌≡◌, ℕ, zero, suc, ◌+◌, ◌-◌, ◌≤◌, List, [], ◌∷◌, length, map, take, drop, refl, sym, arith, ap, ap₂, ◌∙◌, min}
use Rattle.std.proofs.lemmas.List.{drop-take}
use Rattle.sk_zset.proofs.Splits.{part}

module _ {X : Type 0} where
  take_take : (a b : ℕ) (xs : List X) → take a (take b xs) ≡ take (min a b) xs
  take_take zero b xs = let e : min 0 b ≡ 0 = omega arith in sym (ap (λ n. take n xs) e)
  take_take (suc a) zero xs = let e : min (suc a) 0 ≡ 0 = omega arith in sym (ap (λ n. take n xs) e)
  take_take (suc a) (suc b) [] = let e : min (suc a) (suc b) ≡ suc (min a b) = omega arith in sym (ap (λ n. take n []) e)
  take_take (suc a) (suc b) (x ∷ xs) = let e : min (suc a) (suc b) ≡ suc (min a b) = omega arith in ap (λ l. x ∷ l) (take_take a b xs) ∙ sym (ap (λ n. take n (x ∷ xs)) e)

  drop_drop : (a b : ℕ) (xs : List X) → drop a (drop b xs) ≡ drop (b + a) xs
  drop_drop a zero xs = let e : 0 + a ≡ a = omega arith in sym (ap (λ n. drop n xs) e)
  drop_drop zero (suc b) [] = let e : suc b + 0 ≡ suc b = omega arith in sym (ap (λ n. drop n []) e)
  drop_drop (suc a) (suc b) [] = let e : suc b + suc a ≡ suc (b + suc a) = omega arith in sym (ap (λ n. drop n []) e)
  drop_drop a (suc b) (x ∷ xs) = let e : suc b + a ≡ suc (b + a) = omega arith in drop_drop a b xs ∙ sym (ap (λ n. drop n (x ∷ xs)) e)

  part_part : (first size skip count : ℕ) (xs : List X) → take count (drop skip (part first (skip + size) xs)) ≡ part (first + skip) (min count size) xs
  part_part first size skip count xs = ap (take count) (drop-take skip size (drop first xs)) ∙ take_take count size (drop skip (drop first xs)) ∙ ap (take (min count size)) (drop_drop skip first xs)

  -- beyond the part there is nothing to leave out
  drop_clamp : (s n : ℕ) (xs : List X) → drop (min s n) (take n xs) ≡ drop s (take n xs)
  drop_clamp zero n xs = let e : min 0 n ≡ 0 = omega arith in ap (λ m. drop m (take n xs)) e
  drop_clamp (suc s) zero xs = let e : min (suc s) 0 ≡ 0 = omega arith in ap (λ m. drop m []) e
  drop_clamp (suc s) (suc n) [] = let e : min (suc s) (suc n) ≡ suc (min s n) = omega arith in ap (λ m. drop m []) e
  drop_clamp (suc s) (suc n) (x ∷ xs) = let e : min (suc s) (suc n) ≡ suc (min s n) = omega arith in ap (λ m. drop m (x ∷ take n xs)) e ∙ drop_clamp s n xs

  -- so many items of a part, behind so many
  pub window : (xs : List X) (first end skip count from to : ℕ) → first ≤ end → from ≡ first + min (end - first) skip → to ≡ from + min (end - from) count → drop from (take to xs) ≡ take count (drop skip (part first (end - first) xs))
  window xs first end skip count from to h f e =
      let size : ℕ = end - first in
      let s : ℕ = min skip size in
      let start : from ≡ first + s = omega (arith, f) in
      let whole : s + (size - s) ≡ size = omega arith in
      let left : min count (size - s) ≡ min (end - from) count = omega (arith, h, f) in
      let inner = part_part first (size - s) s count xs in
      let clamped = ap (take count) (drop_clamp skip size (drop first xs)) in
      ap (λ n. drop from (take n xs)) e ∙ drop-take from (min (end - from) count) xs ∙ ap₂ (λ n d. take n (drop d xs)) (sym left) start ∙ sym inner ∙ ap (λ n. take count (drop s (part first n xs))) whole ∙ clamped

  pub take_all : (xs : List X) (n : ℕ) → n ≡ length xs → take (n - 0) (drop 0 xs) ≡ xs
  take_all [] n e = let z : n - 0 ≡ 0 = omega (arith, e) in ap (λ m. take m []) z
  take_all (x ∷ xs) zero e = absurd (omega (arith, e))
  take_all (x ∷ xs) (suc n) e = let z : suc n - 0 ≡ suc (n - 0) = omega arith in ap (λ m. take m (x ∷ xs)) z ∙ ap (λ l. x ∷ l) (take_all xs n (omega (arith, e)))

  -- what is kept of each is the item itself
  pub map_same : (xs : List X) → map (λ x. x) xs ≡ xs
  map_same [] = refl
  map_same (x ∷ xs) = ap (λ l. x ∷ l) (map_same xs)
