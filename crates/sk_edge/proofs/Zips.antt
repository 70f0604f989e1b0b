-- Two lists side by side, as they grow and as they are used up; and the lists that the next ears hear.
use Rattle.std.proofs.Common.{◌≡◌, ◌<◌, ◌+◌, ◌++◌, ◌∷◌, ℕ, List, [], length, take, drop, get_or, replicate, refl, sym, ap, ◌∙◌, arith, subst, zero, suc, length-append}
use Rattle.std.specs.List.{AllZip}
use Rattle.std.proofs.lemmas.List.{drop_more, get_or-drop, get_or-take, length-replicate, length-take-le, take_more}
use Rattle.sk_edge.specs.Doors.{first_lists}

module _ {A B : Type 0} (R : A → B → Type 0) where
  -- one more at the end of both
  pub push : (xs : List A) (ys : List B) (x : A) (y : B) → AllZip R xs ys → R x y → AllZip R (xs ++ x ∷ []) (ys ++ y ∷ [])
  push [] [] x y all r = (r, tt)
  push [] (y' ∷ ys) x y all r = absurd all
  push (x' ∷ xs) [] x y all r = absurd all
  push (x' ∷ xs) (y' ∷ ys) x y all r = (all.0, push xs ys x y all.1 r)

  -- one more beside the next of a list
  pub push_next : (xs : List A) (zs : List B) (k : ℕ) (d : B) (x : A) → k < length zs → AllZip R xs (take k zs) → R x (get_or zs k d) → AllZip R (xs ++ x ∷ []) (take (k + 1) zs)
  push_next xs zs k d x lt all r =
      subst (λ z. AllZip R (xs ++ x ∷ []) z) (sym (take_more zs k d lt)) (push xs (take k zs) x (get_or zs k d) all r)

  -- the first beside the next of a list, and the others beside the rest
  pub pop_next : (xs : List A) (zs : List B) (k : ℕ) (d : B) (x : A) → k < length zs → AllZip R (x ∷ xs) (drop k zs) → R x (get_or zs k d) × AllZip R xs (drop (k + 1) zs)
  pop_next xs zs k d x lt all = subst (λ z. AllZip R (x ∷ xs) z) (drop_more zs k d lt) all

module _ {C : Type 0} where
  -- empty lists behind some lists
  padded : (lists : List (List C)) (n k : ℕ) → get_or (lists ++ replicate n []) k [] ≡ get_or lists k []
  padded [] zero k = refl
  padded [] (suc n) zero = refl
  padded [] (suc n) (suc k) = padded [] n k
  padded (list ∷ lists) n zero = refl
  padded (list ∷ lists) n (suc k) = padded lists n k

  pub first_at : (n k : ℕ) (lists : List (List C)) → k < n → get_or (first_lists n lists) k [] ≡ get_or lists k []
  first_at n k lists lt = get_or-take n (lists ++ replicate n []) k [] lt ∙ padded lists n k

  pub first_len : (n : ℕ) (lists : List (List C)) → length (first_lists n lists) ≡ n
  first_len n lists = length-take-le n (lists ++ replicate n []) (omega (arith, length-append lists (replicate n []), length-replicate {A = List C} n []))

  -- the next list of what is left is the next of the first lists
  pub next_at : (n k : ℕ) (lists left : List (List C)) → left ≡ drop k lists → k < n → get_or left 0 [] ≡ get_or (first_lists n lists) k []
  next_at n k lists left is lt =
      let none : k + 0 ≡ k = omega arith in
      ap (λ z. get_or z 0 []) is ∙ get_or-drop k lists 0 [] ∙ ap (λ i. get_or lists i []) none ∙ sym (first_at n k lists lt)
