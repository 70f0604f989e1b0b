-- A list in two parts.
use Rattle.std.proofs.Common.{◌≡◌, ◌+◌, ◌-◌, ◌<◌, ◌≤◌, ℕ, zero, suc, List, [], ◌∷◌, ◌++◌, drop, length, take, refl, sym, arith, ap, ◌∙◌}

module _ {X : Type 0} where
  -- behind so many items and one more
  pub take_past : (xs ys : List X) (x : X) (n : ℕ) → length xs < n → take n (xs ++ x ∷ ys) ≡ xs ++ x ∷ take (n - length xs - 1) ys
  take_past [] ys x zero h = absurd (omega (arith, h))
  take_past [] ys x (suc n) h = let e : n ≡ suc n - 0 - 1 = omega arith in ap (λ k. x ∷ take k ys) e
  take_past (y ∷ xs) ys x zero h = absurd (omega (arith, h))
  take_past (y ∷ xs) ys x (suc n) h = let e : n - length xs - 1 ≡ suc n - suc (length xs) - 1 = omega arith in ap (λ l. y ∷ l) (take_past xs ys x n (omega (arith, h))) ∙ ap (λ k. y ∷ xs ++ x ∷ take k ys) e

  pub drop_past : (xs ys : List X) (x : X) (n : ℕ) → length xs < n → drop n (xs ++ x ∷ ys) ≡ drop (n - length xs - 1) ys
  drop_past [] ys x zero h = absurd (omega (arith, h))
  drop_past [] ys x (suc n) h = let e : n ≡ suc n - 0 - 1 = omega arith in ap (λ k. drop k ys) e
  drop_past (y ∷ xs) ys x zero h = absurd (omega (arith, h))
  drop_past (y ∷ xs) ys x (suc n) h = let e : n - length xs - 1 ≡ suc n - suc (length xs) - 1 = omega arith in drop_past xs ys x n (omega (arith, h)) ∙ ap (λ k. drop k ys) e

  -- before them
  pub take_before : (xs ys : List X) (n : ℕ) → n ≤ length xs → take n (xs ++ ys) ≡ take n xs
  take_before xs ys zero h = refl
  take_before [] ys (suc n) h = absurd (omega (arith, h))
  take_before (y ∷ xs) ys (suc n) h = ap (λ l. y ∷ l) (take_before xs ys n (omega (arith, h)))

  pub drop_before : (xs ys : List X) (n : ℕ) → n ≤ length xs → drop n (xs ++ ys) ≡ drop n xs ++ ys
  drop_before xs ys zero h = refl
  drop_before [] ys (suc n) h = absurd (omega (arith, h))
  drop_before (y ∷ xs) ys (suc n) h = drop_before xs ys n (omega (arith, h))

  pub take_take : (xs : List X) (m n : ℕ) → m ≤ n → take m (take n xs) ≡ take m xs
  take_take xs zero n h = refl
  take_take xs (suc m) zero h = absurd (omega (arith, h))
  take_take [] (suc m) (suc n) h = refl
  take_take (x ∷ xs) (suc m) (suc n) h = ap (λ l. x ∷ l) (take_take xs m n (omega (arith, h)))

  take_short : (xs : List X) (n : ℕ) → length (take n xs) ≤ length xs
  take_short xs zero = omega arith
  take_short [] (suc n) = omega arith
  take_short (x ∷ xs) (suc n) = let s = take_short xs n in omega (arith, s)

  both_length : (xs : List X) (n : ℕ) → length (take n xs) + length (drop n xs) ≡ length xs
  both_length xs zero = omega arith
  both_length [] (suc n) = omega arith
  both_length (x ∷ xs) (suc n) = let s = both_length xs n in omega (arith, s)

  -- what is left is no longer than the list
  pub left_short : (xs : List X) (m n : ℕ) → length (take m (take n xs)) + length (drop n xs) ≤ length xs
  left_short xs m n = let s = take_short (take n xs) m in let b = both_length xs n in omega (arith, s, b)
