-- A change of what is kept of a batch and of those that it is in.
use Rattle.std.specs.Prelude.{cond, List, [], ◌∷◌, map, Option, Some, None}
use Rattle.sk_resp.specs.Spelling.{Bytes}
use Rattle.sk_batch.specs.Batched.{has_bid}
use Rattle.sk_batch.specs.declared.batch.Batch.{Batch}

-- each batch with something else beside it
abbrev pub retag : {K L : Type 0} → (K × Batch → L) → List (K × Batch) → List (L × Batch)
retag f batches = map (λ b. (f b, b.1)) batches

module _ {K : Type 0} (f : K × Batch → K) where
  abbrev pub along_above : Option Bytes → List (K × Batch) → (Bytes → List (K × Batch)) → List (K × Batch)
  along_above None older along = older
  along_above (Some parent) older along = along parent

  -- the batches, with a change of the batch of this bid, of its parent, and so on outwards
  abbrev pub along : List (K × Batch) → Bytes → List (K × Batch)
  along [] bid = []
  along (b ∷ older) bid = cond (has_bid bid b) ((f b, b.1) ∷ along_above b.1.parent older (along older)) (b ∷ along older bid)

  -- the same, from the first batch on
  abbrev pub along_first : List (K × Batch) → List (K × Batch)
  along_first [] = []
  along_first (b ∷ older) = (f b, b.1) ∷ along_above b.1.parent older (along older)
