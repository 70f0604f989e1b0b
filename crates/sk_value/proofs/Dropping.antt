-- One turn of the loop that takes the first equal texts away.
use Rattle.std.proofs.Common.{◌≡◌, ◌+◌, ◌≤◌, ◌<◌, ◌-◌, ◌⊎◌, ℕ, List, [], ◌∷◌, ◌++◌, refl, ap, arith, length, take, drop, zero, suc, true, false, not, filter}
use Rattle.std.specs.Str.{bytes_eq}
use Rattle.sk_resp.specs.Spelling.{Bytes}
use Rattle.sk_value.specs.Lists.{without_first}

without_none : (text : Bytes) (list : List Bytes) → without_first 0 text list ≡ list
without_none text [] = refl
without_none text (x ∷ list) = refl

drop_push : (n : ℕ) (x : Bytes) (list : List Bytes) → n ≤ length list → drop n (list ++ x ∷ []) ≡ drop n list ++ x ∷ []
drop_push zero x list l = refl
drop_push (suc n) x [] l = grind (arith, l)
drop_push (suc n) x (y ∷ list) l = drop_push n x list (omega (arith, l))

take_push : (n : ℕ) (x : Bytes) (list : List Bytes) → n ≤ length list → take n (list ++ x ∷ []) ≡ take n list
take_push zero x list l = refl
take_push (suc n) x [] l = grind (arith, l)
take_push (suc n) x (y ∷ list) l = ap (λ ys. y ∷ ys) (take_push n x list (omega (arith, l)))

push_append : (xs ys : List Bytes) (x : Bytes) → (xs ++ x ∷ []) ++ ys ≡ xs ++ x ∷ ys
push_append [] ys x = refl
push_append (y ∷ xs) ys x = ap (λ zs. y ∷ zs) (push_append xs ys x)

pub dropped_turn : (most rest : ℕ) (text x : Bytes) (list others : List Bytes) → list ≡ x ∷ others → bytes_eq x text ≡ true → 0 < most
    → drop rest others ++ without_first (most - 1) text (take rest others) ≡ drop (rest + 1) list ++ without_first most text (take (rest + 1) list)
dropped_turn zero rest text x list others is e some = grind (arith, some)
dropped_turn (suc most) rest text x list others is e some = grind (arith, is)

-- what stays goes behind the others
pub kept_turn : (most rest : ℕ) (text x : Bytes) (list others : List Bytes) → list ≡ x ∷ others → (most ≡ 0) ⊎ (bytes_eq x text ≡ false) → rest ≤ length others
    → drop rest (others ++ x ∷ []) ++ without_first most text (take rest (others ++ x ∷ [])) ≡ drop (rest + 1) list ++ without_first most text (take (rest + 1) list)
kept_turn zero rest text x list others is stays l = grind (arith, without_none text (take rest others), without_none text (take rest (others ++ x ∷ [])), drop_push rest x others l, take_push rest x others l, push_append (drop rest others) (take rest others) x)
kept_turn (suc most) rest text x list others is stays l = grind (arith, drop_push rest x others l, take_push rest x others l, push_append (drop rest others) (without_first (suc most) text (take rest others)) x)

-- with as many as there are, all equal ones go
pub drop_all : (most : ℕ) (text : Bytes) (list : List Bytes) → length list ≤ most → without_first most text list ≡ filter (λ other. not (bytes_eq other text)) list
drop_all most text [] l = refl
drop_all zero text (x ∷ list) l = grind (arith, l)
drop_all (suc most) text (x ∷ list) l = grind (arith, drop_all most text list (omega (arith, l)), drop_all (suc most) text list (omega (arith, l)))
