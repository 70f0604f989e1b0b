-- An entry that takes another tag where it stands.
use Rattle.std.proofs.Common.{◌≡◌, ◌+◌, ◌<◌, ℕ, zero, suc, List, [], ◌∷◌, ◌++◌, Option, Some, None, length, option_map, slice_get, refl, ap, ◌∙◌, sym, arith}
use Rattle.std.specs.List.{insert, remove}
use Rattle.sk_undo.specs.Moves.{moved, put_down, with_tag}

module _ {K T : Type 0} (tag : K) where
  pub tag_left : (xs : List (K × T)) (e : K × T) (ys : List (K × T)) (at : ℕ) → at < length xs → with_tag at tag (xs ++ e ∷ ys) ≡ with_tag at tag xs ++ e ∷ ys
  tag_left [] e ys at h = absurd (omega (arith, h))
  tag_left (x ∷ xs) e ys zero h = refl
  tag_left (x ∷ xs) e ys (suc at) h = ap (λ l. x ∷ l) (tag_left xs e ys at (omega (arith, h)))

  pub tag_here : (xs : List (K × T)) (e : K × T) (ys : List (K × T)) (at : ℕ) → at ≡ length xs → with_tag at tag (xs ++ e ∷ ys) ≡ xs ++ (tag, e.1) ∷ ys
  tag_here [] e ys zero h = refl
  tag_here [] e ys (suc at) h = absurd (omega (arith, h))
  tag_here (x ∷ xs) e ys zero h = absurd (omega (arith, h))
  tag_here (x ∷ xs) e ys (suc at) h = ap (λ l. x ∷ l) (tag_here xs e ys at (omega (arith, h)))

  pub tag_right : (xs : List (K × T)) (e : K × T) (ys : List (K × T)) (at k : ℕ) → at ≡ length xs + k + 1 → with_tag at tag (xs ++ e ∷ ys) ≡ xs ++ e ∷ with_tag k tag ys
  tag_right [] e ys at k h = let n : at ≡ suc k = omega (arith, h) in ap (λ j. with_tag j tag (e ∷ ys)) n
  tag_right (x ∷ xs) e ys zero k h = absurd (omega (arith, h))
  tag_right (x ∷ xs) e ys (suc at) k h = ap (λ l. x ∷ l) (tag_right xs e ys at k (omega (arith, h)))

  pub length_tag : (xs : List (K × T)) (at : ℕ) → length (with_tag at tag xs) ≡ length xs
  length_tag [] at = refl
  length_tag (x ∷ xs) zero = refl
  length_tag (x ∷ xs) (suc at) = ap suc (length_tag xs at)

  put_down_behind : (o : Option (K × T)) (to : ℕ) (x : K × T) (xs : List (K × T)) → put_down o (suc to) tag (x ∷ xs) ≡ x ∷ put_down o to tag xs
  put_down_behind None to x xs = refl
  put_down_behind (Some entry) to x xs = refl

  -- that is a move to its own place
  pub moved_there : (xs : List (K × T)) (at : ℕ) → at < length xs → with_tag at tag xs ≡ moved at at tag xs
  moved_there [] at h = absurd (omega (arith, h))
  moved_there (x ∷ xs) zero h = refl
  moved_there (x ∷ xs) (suc at) h = ap (λ l. x ∷ l) (moved_there xs at (omega (arith, h))) ∙ sym (put_down_behind (slice_get xs at) at x (remove xs at))

  pub get_left : (xs : List (K × T)) (e : K × T) (ys : List (K × T)) (at : ℕ) → at < length xs → slice_get (xs ++ e ∷ ys) at ≡ slice_get xs at
  get_left [] e ys at h = absurd (omega (arith, h))
  get_left (x ∷ xs) e ys zero h = refl
  get_left (x ∷ xs) e ys (suc at) h = get_left xs e ys at (omega (arith, h))

  pub get_here : (xs : List (K × T)) (e : K × T) (ys : List (K × T)) (at : ℕ) → at ≡ length xs → slice_get (xs ++ e ∷ ys) at ≡ Some e
  get_here [] e ys zero h = refl
  get_here [] e ys (suc at) h = absurd (omega (arith, h))
  get_here (x ∷ xs) e ys zero h = absurd (omega (arith, h))
  get_here (x ∷ xs) e ys (suc at) h = get_here xs e ys at (omega (arith, h))

  pub get_right : (xs : List (K × T)) (e : K × T) (ys : List (K × T)) (at k : ℕ) → at ≡ length xs + k + 1 → slice_get (xs ++ e ∷ ys) at ≡ slice_get ys k
  get_right [] e ys at k h = let n : at ≡ suc k = omega (arith, h) in ap (λ j. slice_get (e ∷ ys) j) n
  get_right (x ∷ xs) e ys zero k h = absurd (omega (arith, h))
  get_right (x ∷ xs) e ys (suc at) k h = get_right xs e ys at k (omega (arith, h))
