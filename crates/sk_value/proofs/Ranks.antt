-- A range of a list ends where the list does, and what passes a test is no more than there is.
use Rattle.std.proofs.Common.{◌≡◌, ◌≤◌, ◌+◌, ◌-◌, ℕ, Bool, List, [], ◌∷◌, ◌++◌, sym, ap, ◌∙◌, arith, length, take, drop, filter, min, zero, suc}
use Rattle.std.proofs.lemmas.List.{drop_all}

module _ {A : Type 0} where
  within : (end : ℕ) (xs : List A) → take (min (length xs) end) xs ≡ take end xs
  within zero xs = let e : min (length xs) 0 ≡ 0 = omega arith in ap (λ n. take n xs) e
  within (suc end) [] = let e : min 0 (suc end) ≡ 0 = omega arith in ap (λ n. take n []) e
  within (suc end) (x ∷ xs) = let e : min (suc (length xs)) (suc end) ≡ suc (min (length xs) end) = omega arith in ap (λ n. take n (x ∷ xs)) e ∙ ap (λ ys. x ∷ ys) (within end xs)

  pub ranked : (start end : ℕ) (xs : List A) → take (min (length xs) end - start) (drop start xs) ≡ drop start (take end xs)
  ranked zero end xs = let e : min (length xs) end - 0 ≡ min (length xs) end = omega arith in ap (λ n. take n xs) e ∙ within end xs
  ranked (suc start) zero xs = let e : min (length xs) 0 - suc start ≡ 0 = omega arith in ap (λ n. take n (drop (suc start) xs)) e
  ranked (suc start) (suc end) [] = let e : min 0 (suc end) - suc start ≡ 0 = omega arith in ap (λ n. take n []) e
  ranked (suc start) (suc end) (x ∷ xs) = let e : min (suc (length xs)) (suc end) - suc start ≡ min (length xs) end - start = omega arith in ap (λ n. take n (drop start xs)) e ∙ ranked start end xs

  behind : (end : ℕ) (xs : List A) → drop (min (length xs) end) xs ≡ drop end xs
  behind zero xs = let e : min (length xs) 0 ≡ 0 = omega arith in ap (λ n. drop n xs) e
  behind (suc end) [] = let e : min 0 (suc end) ≡ 0 = omega arith in ap (λ n. drop n []) e
  behind (suc end) (x ∷ xs) = let e : min (suc (length xs)) (suc end) ≡ suc (min (length xs) end) = omega arith in ap (λ n. drop n (x ∷ xs)) e ∙ behind end xs

  -- what stands behind the range
  rest : (start end : ℕ) (xs : List A) → drop (start + (min (length xs) end - start)) xs ≡ drop (start + (end - start)) xs
  rest zero end xs =
      let e : 0 + (min (length xs) end - 0) ≡ min (length xs) end = omega arith in
      let f : 0 + (end - 0) ≡ end = omega arith in
      ap (λ n. drop n xs) e ∙ behind end xs ∙ sym (ap (λ n. drop n xs) f)
  rest (suc start) zero xs = let e : suc start + (min (length xs) 0 - suc start) ≡ suc start + (0 - suc start) = omega arith in ap (λ n. drop n xs) e
  rest (suc start) (suc end) [] = drop_all (suc start + (min 0 (suc end) - suc start)) [] (omega arith) ∙ sym (drop_all (suc start + (suc end - suc start)) [] (omega arith))
  rest (suc start) (suc end) (x ∷ xs) =
      let e : suc start + (min (suc (length xs)) (suc end) - suc start) ≡ suc (start + (min (length xs) end - start)) = omega arith in
      let f : suc start + (suc end - suc start) ≡ suc (start + (end - start)) = omega arith in
      ap (λ n. drop n (x ∷ xs)) e ∙ rest start end xs ∙ sym (ap (λ n. drop n (x ∷ xs)) f)

  pub ranks_taken : (start end : ℕ) (xs : List A) → take start xs ++ drop (start + (min (length xs) end - start)) xs ≡ take start xs ++ drop (start + (end - start)) xs
  ranks_taken start end xs = ap (λ ys. take start xs ++ ys) (rest start end xs)

  pub fewer : (test : A → Bool) (xs : List A) → length (filter test xs) ≤ length xs
  fewer test [] = omega arith
  fewer test (x ∷ xs) = grind (arith, fewer test xs)
