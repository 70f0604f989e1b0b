-- What a node of the tree is seen as, and what holds of it.
use Rattle.std.specs.Prelude.{◌≡◌, ◌+◌, ◌<◌, ◌≤◌, List, [], ◌∷◌, ◌++◌, length}
use Rattle.sk_undo.specs.Balance.{DifferBy, most}
use Rattle.sk_undo.specs.declared.sequence.Node.{Node}
use Rattle.sk_undo.specs.declared.sequence.Node.TheVariants.{Empty, Fork}

module _ {T : Type 0} where
  -- the items of the left side, the node's own, and those of the right side
  abbrev pub items_in : Node T → List T
  items_in Empty = []
  items_in (Fork l x n r) = l ++ x ∷ r

  -- the number in the node is that of its items, and the sides are balanced
  abbrev pub IsCounted : Node T → Type 0
  IsCounted Empty = Unit {0}
  IsCounted (Fork l x n r) = (n ≡ length l + length r + 1) × (n ≤ most) × DifferBy 0 (length l) (length r)

  -- the same after an edit of one item in a side, before the node is balanced again and its number set
  abbrev pub IsNear : Node T → Type 0
  IsNear Empty = Unit {0}
  IsNear (Fork l x n r) = (length l + length r < most) × DifferBy 3 (length l) (length r)
