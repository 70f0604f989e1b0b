-- A walk from a batch outwards, by places.
use Rattle.std.proofs.Common.{◌≡◌, ℕ, suc, ◌+◌, ◌<◌, List, [], ◌∷◌, Option, Some, None, length, get_or, take, drop, drop-cons, refl, sym, ap, ◌∙◌, arith}
use Rattle.std.specs.List.{position_or_len}
use Rattle.std.proofs.lemmas.List.{drop-drop}
use Rattle.std.proofs.Math.Seq.{drop-length}
use Rattle.sk_resp.specs.Spelling.{Bytes}
use Rattle.sk_batch.specs.Batched.{has_bid}
use Rattle.sk_batch.specs.Ancestors.{ancestors, ancestors_above, first_ancestors}
use Rattle.sk_batch.specs.Places.{parent_place, way_up}
use Rattle.sk_batch.specs.declared.batch.Batch.{Batch}

module _ {K : Type 0} where
  pub drop_one : (n : ℕ) (b : K × Batch) (older : List (K × Batch)) → drop (1 + n) (b ∷ older) ≡ drop n older
  drop_one n b older = let e : 1 + n ≡ suc n = omega arith in ap (λ m. drop m (b ∷ older)) e

  pub take_one : (n : ℕ) (b : K × Batch) (older : List (K × Batch)) → take (1 + n) (b ∷ older) ≡ b ∷ take n older
  take_one n b older = let e : 1 + n ≡ suc n = omega arith in ap (λ m. take m (b ∷ older)) e

  -- the line of a bid begins at the first place of that bid
  pub ancestors_found : (batches : List (K × Batch)) (bid : Bytes) → first_ancestors (drop (position_or_len (has_bid bid) batches) batches) ≡ ancestors batches bid
  ancestors_found [] bid = refl
  ancestors_found (b ∷ older) bid = grind (arith, ancestors_found older bid, drop_one)

  pub ancestors_begins : (batches : List (K × Batch)) (bid : Bytes) (at : ℕ) → at ≡ position_or_len (has_bid bid) batches → first_ancestors (drop at batches) ≡ ancestors batches bid
  ancestors_begins batches bid at is = ap (λ n. first_ancestors (drop n batches)) is ∙ ancestors_found batches bid

  pub ancestors_end : (batches : List (K × Batch)) → first_ancestors (drop (length batches) batches) ≡ []
  ancestors_end batches = ap first_ancestors (drop-length batches)

  -- the first batch, and then the line of its parent
  ancestors_of_parent : (parent : Option Bytes) (older : List (K × Batch)) → ancestors_above parent (ancestors older) ≡ first_ancestors (drop (parent_place parent older) older)
  ancestors_of_parent None older = sym (ancestors_end older)
  ancestors_of_parent (Some p) older = sym (ancestors_found older p)

  ancestors_up : (b : K × Batch) (older : List (K × Batch)) → first_ancestors (b ∷ older) ≡ b ∷ first_ancestors (drop (way_up (b ∷ older)) (b ∷ older))
  ancestors_up b older = ap (λ l. b ∷ l) (ancestors_of_parent b.1.parent older)

  pub ancestors_climbed : (batches : List (K × Batch)) (at above : ℕ) (b : K × Batch) → at < length batches → b ≡ get_or batches at b → above ≡ at + way_up (drop at batches) → first_ancestors (drop at batches) ≡ b ∷ first_ancestors (drop above batches)
  ancestors_climbed batches at above b less is up =
      let e : drop at batches ≡ b ∷ drop (suc at) batches = drop-cons batches at b less ∙ ap (λ (x : K × Batch). x ∷ drop (suc at) batches) (sym is) in
      let place : drop (way_up (drop at batches)) (drop at batches) ≡ drop above batches = drop-drop (way_up (drop at batches)) at batches ∙ ap (λ n. drop n batches) (sym up) in
      ap first_ancestors e ∙ ancestors_up b (drop (suc at) batches) ∙ ap (λ (xs : List (K × Batch)). b ∷ first_ancestors (drop (way_up xs) xs)) (sym e) ∙ ap (λ xs. b ∷ first_ancestors xs) place
