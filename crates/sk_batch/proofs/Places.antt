-- The first place that passes, and edits there.
use Rattle.std.proofs.Common.{◌≡◌, ℕ, zero, suc, ◌<◌, ◌≤◌, Bool, true, false, List, [], ◌∷◌, length, get_or, refl, arith, ap, ◌∙◌, slice_get, Option, Some, None}
use Rattle.std.specs.List.{position_or_len, list_any}
use Rattle.std.specs.List.{remove}
use Rattle.sk_undo.specs.Moves.{moved, put_down}
use Rattle.sk_batch.specs.Fires.{retagged}

module _ {X : Type 0} (p : X → Bool) where
  pub any_position : (xs : List X) (at : ℕ) → at ≡ position_or_len p xs → at < length xs → list_any p xs ≡ true
  any_position [] at e h = absurd (omega (arith, h))
  any_position (x ∷ xs) at e h = grind (arith, any_position xs (position_or_len p xs) refl)

  pub no_position : (xs : List X) (at : ℕ) → at ≡ position_or_len p xs → length xs ≤ at → list_any p xs ≡ false
  no_position [] at e h = refl
  no_position (x ∷ xs) at e h = grind (arith, no_position xs (position_or_len p xs) refl)

module _ {K T : Type 0} where
  pub put_down_behind : (found : Option (K × T)) (n : ℕ) (tag : K) (x : K × T) (rest : List (K × T)) → put_down found (suc n) tag (x ∷ rest) ≡ x ∷ put_down found n tag rest
  put_down_behind None n tag x rest = refl
  put_down_behind (Some y) n tag x rest = refl

module _ {X : Type 0} (test : X → Bool) where
  pub first_passes : (x : X) (xs : List X) → 0 ≡ position_or_len test (x ∷ xs) → test x ≡ true
  first_passes x xs e = grind (arith, e)

  pub first_fails : (x : X) (xs : List X) (n : ℕ) → suc n ≡ position_or_len test (x ∷ xs) → (test x ≡ false) × (n ≡ position_or_len test xs)
  first_fails x xs n e = grind (arith, e)

  pub passes_there : (xs : List X) (at : ℕ) (d : X) → at ≡ position_or_len test xs → at < length xs → test (get_or xs at d) ≡ true
  passes_there [] at d e h = absurd (omega (arith, h))
  passes_there (x ∷ xs) zero d e h = first_passes x xs e
  passes_there (x ∷ xs) (suc n) d e h = passes_there xs n d (first_fails x xs n e).1 (omega (arith, h))

module _ {K T : Type 0} (test : K × T → Bool) (f : K → K) where
  -- a tag that is changed at the first place that passes
  pub moved_first : (xs : List (K × T)) (at : ℕ) (d : K × T) → at ≡ position_or_len test xs → at < length xs → moved at at (f (get_or xs at d).0) xs ≡ retagged test f xs
  moved_first [] at d e h = absurd (omega (arith, h))
  moved_first (x ∷ xs) zero d e h = let y = first_passes test x xs e in grind (arith, y)
  moved_first (x ∷ xs) (suc n) d e h =
      let y = first_fails test x xs n e in
      put_down_behind (slice_get xs n) n (f (get_or xs n d).0) x (remove xs n) ∙ ap (λ l. x ∷ l) (moved_first xs n d y.1 (omega (arith, h))) ∙ (let no = y.0 in grind (arith, no))

  pub tag_moved : (xs : List (K × T)) (at : ℕ) (e : K × T) (tag : K) → e ≡ get_or xs at e → tag ≡ f e.0 → at ≡ position_or_len test xs → at < length xs → moved at at tag xs ≡ retagged test f xs
  tag_moved xs at e tag is new place within = ap (λ t. moved at at t xs) (new ∙ ap (λ (d : K × T). f d.0) is) ∙ moved_first xs at e place within

  pub retagged_none : (xs : List (K × T)) → list_any test xs ≡ false → retagged test f xs ≡ xs
  retagged_none [] h = refl
  retagged_none (x ∷ xs) h = grind (arith, retagged_none xs)
