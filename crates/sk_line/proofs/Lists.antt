-- Two lists, place by place.
use Rattle.std.proofs.Common.{ℕ, zero, suc, ◌<◌, List, [], ◌∷◌, ◌++◌, length, get_or, map, ap₂, arith, refl, ◌≡◌}
use Rattle.std.specs.List.{AllZip}

pub zip_push : {A B : Type 0} (R : A → B → Type 0) (xs : List A) (ys : List B) (x : A) (y : B) → AllZip R xs ys → R x y → AllZip R (xs ++ x ∷ []) (ys ++ y ∷ [])
zip_push R [] [] x y all r = (r, tt)
zip_push R [] (b ∷ ys) x y all r = absurd all
zip_push R (a ∷ xs) [] x y all r = absurd all
zip_push R (a ∷ xs) (b ∷ ys) x y all r = (all.0, zip_push R xs ys x y all.1 r)

-- what stands at a place of the first has its like in the second
pub zip_at : {A B : Type 0} (R : A → B → Type 0) (xs : List A) (ys : List B) (i : ℕ) (d : A) → i < length xs → AllZip R xs ys → (y : B) × R (get_or xs i d) y
zip_at R [] ys i d there all = absurd (omega (arith, there))
zip_at R (a ∷ xs) [] i d there all = absurd all
zip_at R (a ∷ xs) (b ∷ ys) zero d there all = (b, all.0)
zip_at R (a ∷ xs) (b ∷ ys) (suc i) d there all = zip_at R xs ys i d (omega (arith, there)) all.1

pub zip_map : {A B C : Type 0} (v : A → C) (R : C → B → Type 0) (xs : List A) (ys : List B) → AllZip (λ a b. R (v a) b) xs ys → AllZip R (map v xs) ys
zip_map v R [] [] all = tt
zip_map v R [] (b ∷ ys) all = absurd all
zip_map v R (a ∷ xs) [] all = absurd all
zip_map v R (a ∷ xs) (b ∷ ys) all = (all.0, zip_map v R xs ys all.1)

pub zip_unmap : {A B C : Type 0} (v : A → C) (R : C → B → Type 0) (xs : List A) (ys : List B) → AllZip R (map v xs) ys → AllZip (λ a b. R (v a) b) xs ys
zip_unmap v R [] [] all = tt
zip_unmap v R [] (b ∷ ys) all = absurd all
zip_unmap v R (a ∷ xs) [] all = absurd all
zip_unmap v R (a ∷ xs) (b ∷ ys) all = (all.0, zip_unmap v R xs ys all.1)

-- where what the first has settles what the second has, the second is settled
pub zip_same : {A B : Type 0} (R : A → B → Type 0) (one : (a : A) (b b' : B) → R a b → R a b' → b ≡ b') (xs : List A) (ys zs : List B) → AllZip R xs ys → AllZip R xs zs → ys ≡ zs
zip_same R one [] [] [] p q = refl
zip_same R one [] (b ∷ ys) zs p q = absurd p
zip_same R one [] [] (c ∷ zs) p q = absurd q
zip_same R one (a ∷ xs) [] zs p q = absurd p
zip_same R one (a ∷ xs) (b ∷ ys) [] p q = absurd q
zip_same R one (a ∷ xs) (b ∷ ys) (c ∷ zs) p q = ap₂ (λ x xs. x ∷ xs) (one a b c p.0 q.0) (zip_same R one xs ys zs p.1 q.1)
