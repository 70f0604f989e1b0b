-- The map from each member to its score, beside the list of pairs.
use Rattle.std.specs.Prelude.{◌≡◌, ℕ, ℤ, List, Option, Some, None}
use Rattle.std.specs.BTreeMap.{is_at}
use Rattle.std.specs.Map.{lookup}
use Rattle.sk_resp.specs.WordOrder.{text_cmp}
use Rattle.sk_undo.specs.Versions.{Versions}
use Rattle.sk_zset.specs.Order.{InOrder}
use Rattle.sk_zset.specs.Pair.{Pair}
use Rattle.sk_zset.specs.Pairs.{score_of}

-- members in the order of their bytes, each with its score
abbrev pub Scores : Type 0
Scores = List (List ℕ × ℤ)

abbrev pub score_in : List ℕ → Scores → Option ℤ
score_in member scores = lookup (is_at (text_cmp member)) scores

-- what is looked up is what the pairs have, of each member
abbrev pub Agree : List Pair → Scores → Type 0
Agree ps scores = (member : List ℕ) → score_in member scores ≡ score_of member ps

abbrev pub StoodAgree : Option (List Pair) → Option Scores → Type 0
StoodAgree None None = Unit {0}
StoodAgree (Some ps) (Some scores) = Agree ps scores
StoodAgree (Some ps) None = ⊥
StoodAgree None (Some scores) = ⊥

-- the pairs are in order, each member once, and the map agrees with them, now and at the begin of an open step
pub record IsTied (pairs : Versions (List Pair)) (scores : Versions Scores) : Type 0 where
  pub order : InOrder pairs
  pub current : Agree pairs.current scores.current
  pub saved : StoodAgree pairs.saved scores.saved
