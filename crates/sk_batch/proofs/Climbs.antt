-- Places that climb from a batch outwards.
use Rattle.std.proofs.Common.{◌≡◌, ℕ, zero, suc, ◌+◌, ◌<◌, Bool, true, false, cond, List, [], ◌∷◌, ◌++◌, Option, Some, None, length, get_or, drop, drop-cons, map, append_assoc, refl, sym, ap, ◌∙◌, arith}
use Rattle.std.specs.List.{position_or_len}
use Rattle.std.specs.Str.{bytes_eq}
use Rattle.std.proofs.lemmas.Slice.Eq.{bytes_eq-Decides}
use Rattle.sk_resp.specs.Spelling.{Bytes}
use Rattle.sk_undo.specs.Moves.{moved}
use Rattle.sk_batch.specs.Ancestors.{ancestors}
use Rattle.sk_batch.specs.Batched.{has_bid}
use Rattle.sk_batch.specs.Due.{fires_where}
use Rattle.sk_batch.specs.Fires.{firing}
use Rattle.sk_batch.specs.Places.{AreAncestors, Climb, climbed, first_place, parent_place, way_up}
use Rattle.sk_batch.specs.States.{StateEntry, all_fired}
use Rattle.sk_batch.proofs.Invariant.{bare_all_fired}
use Rattle.sk_batch.proofs.Listed.{bared, length_bare, moved_bare}
use Rattle.sk_batch.proofs.Walks.{ancestors_begins, ancestors_climbed, ancestors_end}
use Rattle.sk_batch.specs.declared.batch.Batch.{Batch}
use Rattle.sk_batch.specs.declared.firing.Firing.{Firing}
use Rattle.sk_batch.specs.declared.firing.Kind.{Kind}

module _ {K : Type 0} where
  -- the batch at the first place, and then those above it
  pub climbed_one : (at : ℕ) (above : List ℕ) (batches : List (K × Batch)) (b : K × Batch) → Climb (at ∷ above) batches → b ≡ get_or batches at b → climbed (at ∷ above) batches ≡ b ∷ climbed above batches
  climbed_one at above batches b climb is = ancestors_climbed batches at (first_place above batches) b climb.0 is climb.1

  pub climbed_none : (batches : List (K × Batch)) → climbed [] batches ≡ []
  climbed_none batches = ancestors_end batches

  pub climbed_all : (bid : Bytes) (places : List ℕ) (batches : List (K × Batch)) → AreAncestors bid places batches → climbed places batches ≡ ancestors batches bid
  climbed_all bid places batches are = ancestors_begins batches bid (first_place places batches) are.first

-- a place of some, the next one's
pub next_place : (places : List ℕ) (i : ℕ) → i < length places → drop i places ≡ get_or places i 0 ∷ drop (i + 1) places
next_place places i within = drop-cons places i 0 within ∙ (let one : suc i ≡ i + 1 = omega arith in ap (λ n. get_or places i 0 ∷ drop n places) one)

-- one more batch is looked at, and what is fired of it is put behind the rest
pub fired_one : (kind : Kind) (test : StateEntry → Bool) (b : StateEntry) (bs : List StateEntry) (fires more : List Firing) (passes : Bool) → test b ≡ passes → more ≡ cond passes (fires ++ firing kind b.1 ∷ []) fires → more ++ fires_where kind test bs ≡ fires ++ fires_where kind test (b ∷ bs)
fired_one kind test b bs fires more true t e = ap (λ (l : List Firing). l ++ fires_where kind test bs) e ∙ append_assoc fires (firing kind b.1 ∷ []) (fires_where kind test bs) ∙ (let own = t in grind (arith, own))
fired_one kind test b bs fires more false t e = ap (λ (l : List Firing). l ++ fires_where kind test bs) e ∙ (let own = t in grind (arith, own))

-- ## What is kept beside the batches moves none of them

module _ {K : Type 0} where
  place_bare : (bid : Bytes) (bs : List (K × Batch)) → position_or_len (has_bid bid) (bared bs) ≡ position_or_len (has_bid bid) bs
  place_bare bid [] = refl
  place_bare bid (b ∷ bs) = let ih = place_bare bid bs in grind (arith, ih)

  parent_bare : (parent : Option Bytes) (bs : List (K × Batch)) → parent_place parent (bared bs) ≡ parent_place parent bs
  parent_bare None bs = length_bare bs
  parent_bare (Some parent) bs = place_bare parent bs

  up_bare : (at : ℕ) (bs : List (K × Batch)) → way_up (drop at (bared bs)) ≡ way_up (drop at bs)
  up_bare zero [] = refl
  up_bare (suc at) [] = refl
  up_bare zero (b ∷ bs) = ap suc (parent_bare b.1.parent bs)
  up_bare (suc at) (b ∷ bs) = up_bare at bs

  module _ (bs cs : List (K × Batch)) (same : bared bs ≡ bared cs) where
    length_same : length bs ≡ length cs
    length_same = sym (length_bare bs) ∙ ap length same ∙ length_bare cs

    first_same : (places : List ℕ) → first_place places bs ≡ first_place places cs
    first_same [] = length_same
    first_same (at ∷ above) = refl

    pub climb_same : (places : List ℕ) → Climb places bs → Climb places cs
    climb_same [] climb = tt
    climb_same (at ∷ above) climb =
        let up : way_up (drop at bs) ≡ way_up (drop at cs) = sym (up_bare at bs) ∙ ap (λ l. way_up (drop at l)) same ∙ up_bare at cs in
        let here : at < length bs = climb.0 in
        (omega (arith, here, length_same), sym (first_same above) ∙ climb.1 ∙ ap (λ n. at + n) up, climb_same above climb.2)

    pub ancestors_same : (bid : Bytes) (places : List ℕ) → AreAncestors bid places bs → AreAncestors bid places cs
    ancestors_same bid places are = record {
      first = sym (first_same places) ∙ are.first ∙ sym (place_bare bid bs) ∙ ap (position_or_len (has_bid bid)) same ∙ place_bare bid cs;
      climb = climb_same places are.climb;
    }

  pub climb_moved : (places : List ℕ) (bs : List (K × Batch)) (at : ℕ) (tag : K) → at < length bs → Climb places bs → Climb places (moved at at tag bs)
  climb_moved places bs at tag within climb = climb_same bs (moved at at tag bs) (sym (moved_bare bs at tag within)) places climb

  pub first_moved : (places : List ℕ) (bs : List (K × Batch)) (at : ℕ) (tag : K) → at < length bs → first_place places (moved at at tag bs) ≡ first_place places bs
  first_moved places bs at tag within = first_same (moved at at tag bs) bs (moved_bare bs at tag within) places

pub ancestors_fired : (fs : List Firing) (bid : Bytes) (places : List ℕ) (bs : List StateEntry) → AreAncestors bid places bs → AreAncestors bid places (all_fired fs bs)
ancestors_fired fs bid places bs are = ancestors_same bs (all_fired fs bs) (sym (bare_all_fired fs bs)) bid places are

-- ## Behind a new batch

abbrev pub shifted : List ℕ → List ℕ
shifted places = map (λ n. n + 1) places

module _ {K : Type 0} (new : K × Batch) where
  first_behind : (places : List ℕ) (bs : List (K × Batch)) → first_place (shifted places) (new ∷ bs) ≡ suc (first_place places bs)
  first_behind [] bs = refl
  first_behind (at ∷ above) bs = omega arith

  climb_behind : (places : List ℕ) (bs : List (K × Batch)) → Climb places bs → Climb (shifted places) (new ∷ bs)
  climb_behind [] bs climb = tt
  climb_behind (at ∷ above) bs climb =
      let one : at + 1 ≡ suc at = omega arith in
      let here : at < length bs = climb.0 in
      let up : suc (at + way_up (drop at bs)) ≡ suc at + way_up (drop at bs) = omega arith in
      (omega (arith, here), first_behind above bs ∙ ap suc climb.1 ∙ up ∙ ap (λ n. n + way_up (drop n (new ∷ bs))) (sym one), climb_behind above bs climb.2)

  pub new_ancestors : (places : List ℕ) (bs : List (K × Batch)) → first_place places bs ≡ parent_place new.1.parent bs → Climb places bs → AreAncestors new.1.bid (0 ∷ shifted places) (new ∷ bs)
  new_ancestors places bs first climb =
      let own : bytes_eq new.1.bid new.1.bid ≡ true = (bytes_eq-Decides new.1.bid new.1.bid).1 refl in
      let above : first_place (shifted places) (new ∷ bs) ≡ suc (parent_place new.1.parent bs) = first_behind places bs ∙ ap suc first in
      record {
        first = grind (arith, own);
        climb = (omega arith, omega (arith, above), climb_behind places bs climb);
      }
