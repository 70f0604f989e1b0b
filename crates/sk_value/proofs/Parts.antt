-- Parts of lists.
use Rattle.std.proofs.Common.{◌≡◌, ◌≤◌, ℕ, List, [], ◌∷◌, refl, arith, take, drop, zero, suc}

-- behind the end of what was taken stands nothing
pub drop_past : {A : Type 0} (start end : ℕ) (xs : List A) → end ≤ start → drop start (take end xs) ≡ []
drop_past zero zero xs l = refl
drop_past zero (suc end) xs l = grind (arith, l)
drop_past (suc start) zero xs l = refl
drop_past (suc start) (suc end) [] l = refl
drop_past (suc start) (suc end) (x ∷ xs) l = drop_past start end xs (omega (arith, l))
