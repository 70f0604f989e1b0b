-- A range of a list in two parts.
use Rattle.std.proofs.Common.{◌≡◌, ℕ, zero, suc, ◌+◌, ◌-◌, ◌<◌, ◌≤◌, List, [], ◌∷◌, ◌++◌, length, take, drop, arith, ap, ap₂}
use Rattle.std.proofs.lemmas.List.{take-append-le}

module _ {X : Type 0} where
  pub range_left : (xs : List X) (x : X) (ys : List X) (first end : ℕ) → end ≤ length xs → drop first (take end (xs ++ x ∷ ys)) ≡ drop first (take end xs)
  range_left xs x ys first end h = ap (drop first) (take-append-le end xs (x ∷ ys) h)

  behind : (xs : List X) (x : X) (ys : List X) (first end f e : ℕ) → first ≡ length xs + 1 + f → end ≡ length xs + 1 + e → drop first (take end (xs ++ x ∷ ys)) ≡ drop f (take e ys)
  behind [] x ys first end f e i j = let i' : first ≡ suc f = omega (arith, i) in let j' : end ≡ suc e = omega (arith, j) in ap₂ (λ a b. drop a (take b (x ∷ ys))) i' j'
  behind (y ∷ xs) x ys zero end f e i j = absurd (omega (arith, i))
  behind (y ∷ xs) x ys (suc first) zero f e i j = absurd (omega (arith, j))
  behind (y ∷ xs) x ys (suc first) (suc end) f e i j = behind xs x ys first end f e (omega (arith, i)) (omega (arith, j))

  around : (xs : List X) (x : X) (ys : List X) (first end e : ℕ) → first ≤ length xs → end ≡ length xs + 1 + e → drop first (take end (xs ++ x ∷ ys)) ≡ drop first (take (length xs) xs) ++ x ∷ take e ys
  around [] x ys zero end e h j = let j' : end ≡ suc e = omega (arith, j) in ap (λ b. take b (x ∷ ys)) j'
  around [] x ys (suc first) end e h j = absurd (omega (arith, h))
  around (y ∷ xs) x ys first zero e h j = absurd (omega (arith, j))
  around (y ∷ xs) x ys zero (suc end) e h j = ap (λ l. y ∷ l) (around xs x ys zero end e (omega arith) (omega (arith, j)))
  around (y ∷ xs) x ys (suc first) (suc end) e h j = around xs x ys first end e (omega (arith, h)) (omega (arith, j))

  pub range_right : (xs : List X) (x : X) (ys : List X) (first end : ℕ) → length xs < first → length xs < end → drop first (take end (xs ++ x ∷ ys)) ≡ drop (first - length xs - 1) (take (end - length xs - 1) ys)
  range_right xs x ys first end h k = behind xs x ys first end (first - length xs - 1) (end - length xs - 1) (omega (arith, h)) (omega (arith, k))

  pub range_around : (xs : List X) (x : X) (ys : List X) (first end : ℕ) → first ≤ length xs → length xs < end → drop first (take end (xs ++ x ∷ ys)) ≡ drop first (take (length xs) xs) ++ x ∷ drop 0 (take (end - length xs - 1) ys)
  range_around xs x ys first end h k = around xs x ys first end (end - length xs - 1) h (omega (arith, k))
