-- An edit of a list in two parts.
use Rattle.std.proofs.Common.{◌≡◌, ℕ, zero, suc, ◌+◌, ◌-◌, ◌<◌, ◌≤◌, List, [], ◌∷◌, ◌++◌, length, get_or, refl, sym, arith, ap, append_assoc, ◌∙◌}
use Rattle.std.specs.List.{insert, remove}

module _ {X : Type 0} where
  pub insert_left : (xs : List X) (x : X) (ys : List X) (i : ℕ) (z : X) → i ≤ length xs → insert (xs ++ x ∷ ys) i z ≡ insert xs i z ++ x ∷ ys
  insert_left xs x ys zero z h = refl
  insert_left [] x ys (suc i) z h = absurd (omega (arith, h))
  insert_left (y ∷ xs) x ys (suc i) z h = ap (λ l. y ∷ l) (insert_left xs x ys i z (omega (arith, h)))

  pub insert_right : (xs : List X) (x : X) (ys : List X) (i k : ℕ) (z : X) → i ≡ length xs + k + 1 → insert (xs ++ x ∷ ys) i z ≡ xs ++ x ∷ insert ys k z
  insert_right [] x ys i k z e = let n : i ≡ suc k = omega (arith, e) in ap (λ j. insert (x ∷ ys) j z) n
  insert_right (y ∷ xs) x ys zero k z e = absurd (omega (arith, e))
  insert_right (y ∷ xs) x ys (suc i) k z e = ap (λ l. y ∷ l) (insert_right xs x ys i k z (omega (arith, e)))

  pub remove_left : (xs : List X) (x : X) (ys : List X) (i : ℕ) → i < length xs → remove (xs ++ x ∷ ys) i ≡ remove xs i ++ x ∷ ys
  remove_left [] x ys i h = absurd (omega (arith, h))
  remove_left (y ∷ xs) x ys zero h = refl
  remove_left (y ∷ xs) x ys (suc i) h = ap (λ l. y ∷ l) (remove_left xs x ys i (omega (arith, h)))

  pub remove_right : (xs : List X) (x : X) (ys : List X) (i k : ℕ) → i ≡ length xs + k + 1 → remove (xs ++ x ∷ ys) i ≡ xs ++ x ∷ remove ys k
  remove_right [] x ys i k e = let n : i ≡ suc k = omega (arith, e) in ap (λ j. remove (x ∷ ys) j) n
  remove_right (y ∷ xs) x ys zero k e = absurd (omega (arith, e))
  remove_right (y ∷ xs) x ys (suc i) k e = ap (λ l. y ∷ l) (remove_right xs x ys i k (omega (arith, e)))

  pub remove_here : (xs : List X) (x : X) (ys : List X) (i : ℕ) → i ≡ length xs → remove (xs ++ x ∷ ys) i ≡ xs ++ ys
  remove_here [] x ys zero e = refl
  remove_here [] x ys (suc i) e = absurd (omega (arith, e))
  remove_here (y ∷ xs) x ys zero e = absurd (omega (arith, e))
  remove_here (y ∷ xs) x ys (suc i) e = ap (λ l. y ∷ l) (remove_here xs x ys i (omega (arith, e)))

  -- the last of a list that isn't empty
  pub last_of : (xs : List X) (y : X) (i : ℕ) → suc i ≡ length xs → y ≡ get_or xs i y → xs ≡ remove xs i ++ y ∷ []
  last_of [] y i h e = absurd (omega (arith, h))
  last_of (x ∷ []) y zero h e = ap (λ z. z ∷ []) (sym e)
  last_of (x ∷ x' ∷ xs) y zero h e = absurd (omega (arith, h))
  last_of (x ∷ xs) y (suc i) h e = ap (λ l. x ∷ l) (last_of xs y i (omega (arith, h)) e)

  -- the last of the left side takes the place of what is taken out
  pub remove_by_last : (xs : List X) (x : X) (ys : List X) (i : ℕ) (y : X) → i ≡ length xs → 0 < length xs → y ≡ get_or xs (i - 1) y → remove xs (i - 1) ++ y ∷ ys ≡ remove (xs ++ x ∷ ys) i
  remove_by_last xs x ys i y e h is =
      let n : suc (i - 1) ≡ length xs = omega (arith, e, h) in
      sym (append_assoc (remove xs (i - 1)) (y ∷ []) ys) ∙ ap (λ l. l ++ ys) (sym (last_of xs y (i - 1) n is)) ∙ sym (remove_here xs x ys i e)

  -- an edit on the right side, by its place there
  pub insert_past : (xs : List X) (x : X) (ys : List X) (i : ℕ) (z : X) → length xs < i → insert (xs ++ x ∷ ys) i z ≡ xs ++ x ∷ insert ys (i - length xs - 1) z
  insert_past xs x ys i z h = insert_right xs x ys i (i - length xs - 1) z (omega (arith, h))

  pub remove_past : (xs : List X) (x : X) (ys : List X) (i : ℕ) → length xs < i → remove (xs ++ x ∷ ys) i ≡ xs ++ x ∷ remove ys (i - length xs - 1)
  remove_past xs x ys i h = remove_right xs x ys i (i - length xs - 1) (omega (arith, h))

  -- a list of one item
  pub alone : (xs : List X) (x : X) (ys : List X) → length (xs ++ x ∷ ys) ≡ 1 → xs ++ x ∷ ys ≡ x ∷ []
  alone [] x [] h = refl
  alone [] x (y ∷ ys) h = absurd (omega (arith, h))
  alone (z ∷ []) x ys h = absurd (omega (arith, h))
  alone (z ∷ z' ∷ xs) x ys h = absurd (omega (arith, h))
