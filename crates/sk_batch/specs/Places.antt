-- The places of batches in the order of their making.
use Rattle.std.specs.Prelude.{◌≡◌, ℕ, suc, ◌+◌, ◌<◌, Bool, true, not, ◌&&◌, List, [], ◌∷◌, Option, Some, None, drop, length}
use Rattle.std.specs.BTreeMap.{insert_entry}
use Rattle.std.specs.List.{list_any, position_or_len}
use Rattle.sk_resp.specs.Spelling.{Bytes}
use Rattle.sk_resp.specs.WordOrder.{text_cmp}
use Rattle.sk_batch.specs.Ancestors.{first_ancestors}
use Rattle.sk_batch.specs.Batched.{has_bid}
use Rattle.sk_batch.specs.declared.batch.Batch.{Batch}

module _ {K : Type 0} where
  -- each bid once
  abbrev pub each_once : List (K × Batch) → Bool
  each_once [] = true
  each_once (b ∷ older) = not (list_any (has_bid b.1.bid) older) && each_once older

  -- how many batches were made before the one of each bid
  abbrev pub index_of : List (K × Batch) → List (Bytes × ℕ)
  index_of [] = []
  index_of (b ∷ older) = insert_entry text_cmp (index_of older) b.1.bid (length older)

  -- where a parent stands among these, the end where there is none
  abbrev pub parent_place : Option Bytes → List (K × Batch) → ℕ
  parent_place None older = length older
  parent_place (Some parent) older = position_or_len (has_bid parent) older

  -- how many places it is from the first batch to its parent, or to the end
  abbrev pub way_up : List (K × Batch) → ℕ
  way_up [] = 0
  way_up (b ∷ older) = suc (parent_place b.1.parent older)

  -- the first of some places, the end where there is none
  abbrev pub first_place : List ℕ → List (K × Batch) → ℕ
  first_place [] batches = length batches
  first_place (at ∷ above) batches = at

  -- places of batches, each followed by that of its parent, the last by none
  abbrev pub Climb : List ℕ → List (K × Batch) → Type 0
  Climb [] batches = Unit {0}
  Climb (at ∷ above) batches = (at < length batches) × (first_place above batches ≡ at + way_up (drop at batches)) × Climb above batches

  -- the batches at places that climb
  abbrev pub climbed : List ℕ → List (K × Batch) → List (K × Batch)
  climbed places batches = first_ancestors (drop (first_place places batches) batches)

-- the places of the batch of this bid, of its parent and so on outwards
pub record AreAncestors {K : Type 0} (bid : Bytes) (places : List ℕ) (batches : List (K × Batch)) : Type 0 where
  pub first : first_place places batches ≡ position_or_len (has_bid bid) batches
  pub climb : Climb places batches
