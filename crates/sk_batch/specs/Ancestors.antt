-- Batches within batches.
use Rattle.std.specs.Prelude.{Bool, cond, List, [], ◌∷◌, Option, Some, None}
use Rattle.std.specs.List.{list_any}
use Rattle.sk_resp.specs.Spelling.{Bytes}
use Rattle.sk_batch.specs.Batched.{has_bid}
use Rattle.sk_batch.specs.declared.batch.Batch.{Batch}

-- whatever is kept with each batch
module _ {K : Type 0} where
  abbrev pub ancestors_above : Option Bytes → (Bytes → List (K × Batch)) → List (K × Batch)
  ancestors_above None ancestors = []
  ancestors_above (Some parent) ancestors = ancestors parent

  -- A batch, its parent, the parent's parent and so on, the inner first. Parents are looked for among the batches that were made before.
  abbrev pub ancestors : List (K × Batch) → Bytes → List (K × Batch)
  ancestors [] bid = []
  ancestors (b ∷ older) bid = cond (has_bid bid b) (b ∷ ancestors_above b.1.parent (ancestors older)) (ancestors older bid)

  -- the inner batch is the outer one, or is somewhere within it
  abbrev pub is_under : List (K × Batch) → Bytes → Bytes → Bool
  is_under batches inner outer = list_any (has_bid outer) (ancestors batches inner)

  -- of a list that begins with a batch, this one and those that it is in
  abbrev pub first_ancestors : List (K × Batch) → List (K × Batch)
  first_ancestors [] = []
  first_ancestors (b ∷ older) = b ∷ ancestors_above b.1.parent (ancestors older)
