-- A change along a line, as a walk makes it.
use Rattle.std.proofs.Common.{◌≡◌, ℕ, zero, suc, ◌+◌, ◌<◌, Bool, true, false, cond, not, ◌||◌, List, [], ◌∷◌, ◌++◌, Option, Some, None, length, get_or, take, drop, refl, sym, ap, ap₂, ◌∙◌, arith, slice_get}
use Rattle.std.specs.List.{list_any, position_or_len, remove}
use Rattle.std.specs.Str.{bytes_eq}
use Rattle.std.proofs.lemmas.Slice.Eq.{bytes_eq-Decides}
use Rattle.sk_resp.specs.Spelling.{Bytes}
use Rattle.sk_undo.specs.Moves.{moved}
use Rattle.sk_batch.specs.Along.{along, along_above, along_first, retag}
use Rattle.sk_batch.specs.Batched.{has_bid}
use Rattle.sk_batch.specs.Ancestors.{is_under, ancestors, ancestors_above}
use Rattle.sk_batch.specs.Places.{each_once, parent_place, way_up}
use Rattle.sk_batch.proofs.Places.{put_down_behind}
use Rattle.sk_batch.proofs.Walks.{drop_one, take_one}
use Rattle.sk_batch.specs.declared.batch.Batch.{Batch}

-- ## What is kept beside the batches makes no line

module _ {K L : Type 0} (f : K × Batch → L) where
  above_retag : (older : List (K × Batch)) → ((x : Bytes) → ancestors (retag f older) x ≡ retag f (ancestors older x)) → (parent : Option Bytes) → ancestors_above parent (ancestors (retag f older)) ≡ retag f (ancestors_above parent (ancestors older))
  above_retag older ih None = refl
  above_retag older ih (Some p) = ih p

  pub ancestors_retag : (batches : List (K × Batch)) (bid : Bytes) → ancestors (retag f batches) bid ≡ retag f (ancestors batches bid)
  ancestors_retag [] bid = refl
  ancestors_retag (b ∷ older) bid =
      let up = above_retag older (λ x. ancestors_retag older x) b.1.parent in
      let on = ancestors_retag older bid in
      grind (arith, up, on)

  pub any_retag : (batches : List (K × Batch)) (bid : Bytes) → list_any (has_bid bid) (retag f batches) ≡ list_any (has_bid bid) batches
  any_retag [] bid = refl
  any_retag (b ∷ older) bid = let ih = any_retag older bid in grind (arith, ih)

  pub under_retag : (batches : List (K × Batch)) (inner outer : Bytes) → is_under (retag f batches) inner outer ≡ is_under batches inner outer
  under_retag batches inner outer = ap (list_any (has_bid outer)) (ancestors_retag batches inner) ∙ any_retag (ancestors batches inner) outer

-- ## Who is on a line

module _ {K : Type 0} where
  above_there : (older : List (K × Batch)) (b : Bytes) → ((x : Bytes) → list_any (has_bid b) (ancestors older x) ≡ true → list_any (has_bid b) older ≡ true) → (parent : Option Bytes) → list_any (has_bid b) (ancestors_above parent (ancestors older)) ≡ true → list_any (has_bid b) older ≡ true
  above_there older b ih None h = absurd (cc h)
  above_there older b ih (Some p) h = ih p h

  -- each batch of a line was made
  pub under_there : (batches : List (K × Batch)) (inner outer : Bytes) → is_under batches inner outer ≡ true → list_any (has_bid outer) batches ≡ true
  under_there [] inner outer h = h
  under_there (b ∷ older) inner outer h =
      let up = above_there older outer (λ x. under_there older x outer) b.1.parent in
      let on = under_there older inner outer in
      grind (arith, up, on, h)

  pub not_there : (batches : List (K × Batch)) (inner outer : Bytes) → list_any (has_bid outer) batches ≡ false → is_under batches inner outer ≡ false
  not_there batches inner outer h = let there = under_there batches inner outer in grind (arith, there, h)

  -- a batch that was made begins its own line
  pub under_own : (batches : List (K × Batch)) (bid : Bytes) → list_any (has_bid bid) batches ≡ true → is_under batches bid bid ≡ true
  under_own [] bid h = h
  under_own (b ∷ older) bid h = let ih = under_own older bid in grind (arith, ih, h)

  -- a bid that isn't there is none of those that are
  pub other_bid : (batches : List (K × Batch)) (b o : Bytes) → list_any (has_bid b) batches ≡ false → list_any (has_bid o) batches ≡ true → bytes_eq b o ≡ false
  other_bid batches b o new h = differs (bytes_eq b o) refl where
    differs : (same : Bool) → bytes_eq b o ≡ same → same ≡ false
    differs false e = refl
    differs true e = let c : true ≡ false = sym h ∙ ap (λ (x : Bytes). list_any (has_bid x) batches) (sym ((bytes_eq-Decides b o).0 e)) ∙ new in absurd (cc c)

  -- above the first batch of a line
  above_first : (b : K × Batch) (older : List (K × Batch)) (bid o : Bytes) → has_bid bid b ≡ true → bytes_eq b.1.bid o ≡ false → list_any (has_bid o) (ancestors_above b.1.parent (ancestors older)) ≡ is_under (b ∷ older) bid o
  above_first b older bid o own d = sym (ap (λ t. list_any (has_bid o) (cond t (b ∷ ancestors_above b.1.parent (ancestors older)) (ancestors older bid))) own ∙ ap (λ t. t || list_any (has_bid o) (ancestors_above b.1.parent (ancestors older))) d)

-- ## Maps that agree on the batches of a list

module _ {K L : Type 0} (f g : K × Batch → L) where
  retag_part : (xs all : List (K × Batch)) → ((b : Bytes) → list_any (has_bid b) xs ≡ true → list_any (has_bid b) all ≡ true) → ((b : K × Batch) → list_any (has_bid b.1.bid) all ≡ true → f b ≡ g b) → retag f xs ≡ retag g xs
  retag_part [] all sub same = refl
  retag_part (x ∷ xs) all sub same =
      let own : bytes_eq x.1.bid x.1.bid ≡ true = (bytes_eq-Decides x.1.bid x.1.bid).1 refl in
      let here : f x ≡ g x = same x (sub x.1.bid (grind (arith, own))) in
      let rest = retag_part xs all (λ b h. sub b (grind (arith, h))) same in
      grind (arith, here, rest)

  -- they need agree on these batches only
  pub retag_within : (xs : List (K × Batch)) → ((b : K × Batch) → list_any (has_bid b.1.bid) xs ≡ true → f b ≡ g b) → retag f xs ≡ retag g xs
  retag_within xs same = retag_part xs xs (λ b h. h) same

-- ## The change is that of the batches of the line

retag_own : {K : Type 0} (xs : List (K × Batch)) → retag (λ (b : K × Batch). b.0) xs ≡ xs
retag_own [] = refl
retag_own (x ∷ xs) = ap (λ l. x ∷ l) (retag_own xs)

retag_none : {K : Type 0} (g : K × Batch → K) (xs : List (K × Batch)) → ((b : K × Batch) → list_any (has_bid b.1.bid) xs ≡ true → g b ≡ b.0) → retag g xs ≡ xs
retag_none g xs same = retag_within g (λ b. b.0) xs same ∙ retag_own xs

module _ {K : Type 0} (f : K × Batch → K) where
  -- on the line from a batch outwards, or as it was
  abbrev pub on_ancestors : (Bytes → Bool) → K × Batch → K
  on_ancestors test b = cond (test b.1.bid) (f b) b.0

  along_parent : (older : List (K × Batch)) → ((x : Bytes) → along f older x ≡ retag (on_ancestors (λ o. is_under older x o)) older) → (parent : Option Bytes) → along_above f parent older (along f older) ≡ retag (on_ancestors (λ o. list_any (has_bid o) (ancestors_above parent (ancestors older)))) older
  along_parent older ih None = sym (retag_none (on_ancestors (λ o. false)) older (λ b h. refl))
  along_parent older ih (Some p) = ih p

  pub along_is : (batches : List (K × Batch)) (bid : Bytes) → each_once batches ≡ true → along f batches bid ≡ retag (on_ancestors (λ o. is_under batches bid o)) batches
  along_is [] bid once = refl
  along_is (b ∷ older) bid once = by (has_bid bid b) refl (λ x. along_is older x rest) where
    rest : each_once older ≡ true
    rest = grind (arith, once)

    new : list_any (has_bid b.1.bid) older ≡ false
    new = grind (arith, once)

    by : (own : Bool) → has_bid bid b ≡ own → ((x : Bytes) → along f older x ≡ retag (on_ancestors (λ o. is_under older x o)) older) → along f (b ∷ older) bid ≡ retag (on_ancestors (λ o. is_under (b ∷ older) bid o)) (b ∷ older)
    by true own ih =
        let self : bytes_eq b.1.bid b.1.bid ≡ true = (bytes_eq-Decides b.1.bid b.1.bid).1 refl in
        let here : is_under (b ∷ older) bid b.1.bid ≡ true = ap (λ t. list_any (has_bid b.1.bid) (cond t (b ∷ ancestors_above b.1.parent (ancestors older)) (ancestors older bid))) own ∙ ap (λ t. t || list_any (has_bid b.1.bid) (ancestors_above b.1.parent (ancestors older))) self in
        let up = along_parent older ih b.1.parent in
        let same = retag_within (on_ancestors (λ o. list_any (has_bid o) (ancestors_above b.1.parent (ancestors older)))) (on_ancestors (λ o. is_under (b ∷ older) bid o)) older (λ c h. let d = other_bid older b.1.bid c.1.bid new h in ap (λ t. cond t (f c) c.0) (above_first b older bid c.1.bid own d)) in
        ap (λ t. cond t ((f b, b.1) ∷ along_above f b.1.parent older (along f older)) (b ∷ along f older bid)) own
        ∙ ap (λ l. (f b, b.1) ∷ l) (up ∙ same)
        ∙ ap (λ t. (cond t (f b) b.0, b.1) ∷ retag (on_ancestors (λ o. is_under (b ∷ older) bid o)) older) (sym here)
    by false own ih =
        let out : is_under older bid b.1.bid ≡ false = not_there older bid b.1.bid new in
        let on : (o : Bytes) → is_under older bid o ≡ is_under (b ∷ older) bid o = λ o. ap (λ t. list_any (has_bid o) (cond t (b ∷ ancestors_above b.1.parent (ancestors older)) (ancestors older bid))) (sym own) in
        let same = retag_within (on_ancestors (λ o. is_under older bid o)) (on_ancestors (λ o. is_under (b ∷ older) bid o)) older (λ c h. ap (λ t. cond t (f c) c.0) (on c.1.bid)) in
        ap (λ t. cond t ((f b, b.1) ∷ along_above f b.1.parent older (along f older)) (b ∷ along f older bid)) own
        ∙ ap (λ l. b ∷ l) (ih bid ∙ same)
        ∙ ap (λ t. (cond t (f b) b.0, b.1) ∷ retag (on_ancestors (λ o. is_under (b ∷ older) bid o)) older) (sym (sym (on b.1.bid) ∙ out))

-- ## The walk

along_end : {K : Type 0} (f : K × Batch → K) (xs : List (K × Batch)) → take (length xs) xs ++ along_first f (drop (length xs) xs) ≡ xs
along_end f [] = refl
along_end f (x ∷ xs) = ap (λ l. x ∷ l) (along_end f xs)

module _ {K : Type 0} (f : K × Batch → K) where
  along_parted : (parent : Option Bytes) (older : List (K × Batch)) → ((x : Bytes) → take (position_or_len (has_bid x) older) older ++ along_first f (drop (position_or_len (has_bid x) older) older) ≡ along f older x) → take (parent_place parent older) older ++ along_first f (drop (parent_place parent older) older) ≡ along_above f parent older (along f older)
  along_parted None older at = along_end f older
  along_parted (Some p) older at = at p

  pub along_begins : (batches : List (K × Batch)) (bid : Bytes) → take (position_or_len (has_bid bid) batches) batches ++ along_first f (drop (position_or_len (has_bid bid) batches) batches) ≡ along f batches bid
  along_begins [] bid = refl
  along_begins (b ∷ older) bid = by (has_bid bid b) refl (along_begins older bid) where
    by : (own : Bool) → has_bid bid b ≡ own → take (position_or_len (has_bid bid) older) older ++ along_first f (drop (position_or_len (has_bid bid) older) older) ≡ along f older bid → take (position_or_len (has_bid bid) (b ∷ older)) (b ∷ older) ++ along_first f (drop (position_or_len (has_bid bid) (b ∷ older)) (b ∷ older)) ≡ along f (b ∷ older) bid
    by true own ih =
        ap (λ t. take (cond (not t) (1 + position_or_len (has_bid bid) older) 0) (b ∷ older) ++ along_first f (drop (cond (not t) (1 + position_or_len (has_bid bid) older) 0) (b ∷ older))) own
        ∙ ap (λ t. cond t ((f b, b.1) ∷ along_above f b.1.parent older (along f older)) (b ∷ along f older bid)) (sym own)
    by false own ih =
        let n = position_or_len (has_bid bid) older in
        ap (λ t. take (cond (not t) (1 + n) 0) (b ∷ older) ++ along_first f (drop (cond (not t) (1 + n) 0) (b ∷ older))) own
        ∙ ap₂ (λ xs ys. xs ++ along_first f ys) (take_one n b older) (drop_one n b older)
        ∙ ap (λ l. b ∷ l) ih
        ∙ ap (λ t. cond t ((f b, b.1) ∷ along_above f b.1.parent older (along f older)) (b ∷ along f older bid)) (sym own)

  -- one batch is changed, and the walk goes on at its parent
  pub along_step : (batches : List (K × Batch)) (at above : ℕ) (d : K × Batch) → at < length batches → above ≡ at + way_up (drop at batches) → take above (moved at at (f (get_or batches at d)) batches) ++ along_first f (drop above (moved at at (f (get_or batches at d)) batches)) ≡ take at batches ++ along_first f (drop at batches)
  along_step [] at above d h up = absurd (omega (arith, h))
  along_step (b ∷ older) zero above d h up =
      let e : above ≡ suc (parent_place b.1.parent older) = omega (arith, up) in
      ap (λ n. take n ((f b, b.1) ∷ older) ++ along_first f (drop n ((f b, b.1) ∷ older))) e
      ∙ ap (λ l. (f b, b.1) ∷ l) (along_parted b.1.parent older (λ x. along_begins older x))
  along_step (b ∷ older) (suc n) above d h up =
      let e : above ≡ suc (n + way_up (drop n older)) = omega (arith, up) in
      let m : moved (suc n) (suc n) (f (get_or older n d)) (b ∷ older) ≡ b ∷ moved n n (f (get_or older n d)) older = put_down_behind (slice_get older n) n (f (get_or older n d)) b (remove older n) in
      ap₂ (λ k l. take k l ++ along_first f (drop k l)) e m
      ∙ ap (λ l. b ∷ l) (along_step older n (n + way_up (drop n older)) d (omega (arith, h)) refl)

module _ {K : Type 0} where
  -- what is behind the place stays
  pub moved_behind : (batches : List (K × Batch)) (at above : ℕ) (tag : K) → at < length batches → at < above → drop above (moved at at tag batches) ≡ drop above batches
  moved_behind [] at above tag h k = absurd (omega (arith, h))
  moved_behind (b ∷ older) zero zero tag h k = absurd (omega (arith, k))
  moved_behind (b ∷ older) zero (suc above) tag h k = refl
  moved_behind (b ∷ older) (suc n) zero tag h k = absurd (omega (arith, k))
  moved_behind (b ∷ older) (suc n) (suc above) tag h k =
      ap (drop (suc above)) (put_down_behind (slice_get older n) n tag b (remove older n)) ∙ moved_behind older n above tag (omega (arith, h)) (omega (arith, k))

  pub length_moved : (batches : List (K × Batch)) (at : ℕ) (tag : K) → at < length batches → length (moved at at tag batches) ≡ length batches
  length_moved [] at tag h = absurd (omega (arith, h))
  length_moved (b ∷ older) zero tag h = refl
  length_moved (b ∷ older) (suc n) tag h = ap length (put_down_behind (slice_get older n) n tag b (remove older n)) ∙ ap suc (length_moved older n tag (omega (arith, h)))
