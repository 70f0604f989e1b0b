-- A list of pairs in order, each member once.
use Rattle.std.specs.Prelude.{◌≡◌, Bool, true, not, ◌&&◌, List, [], ◌∷◌, Option, Some, None}
use Rattle.sk_undo.specs.Versions.{Versions}
use Rattle.sk_zset.specs.Pair.{Pair, names, precedes}

-- the pair stands before each of these, and none has its member
abbrev pub is_first : Pair → List Pair → Bool
is_first p [] = true
is_first p (q ∷ qs) = precedes p q && (not (names p.1 q) && is_first p qs)

abbrev pub is_ordered : List Pair → Bool
is_ordered [] = true
is_ordered (p ∷ ps) = is_first p ps && is_ordered ps

abbrev pub was_ordered : Option (List Pair) → Bool
was_ordered None = true
was_ordered (Some ps) = is_ordered ps

-- what stands and what stood are in order, each member once
pub record InOrder (s : Versions (List Pair)) : Type 0 where
  pub current : is_ordered s.current ≡ true
  pub saved : was_ordered s.saved ≡ true
