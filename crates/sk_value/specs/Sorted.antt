-- Sorted sets (Redis, "Sorted sets"): ZCARD, ZSCORE, ZRANGE, ZRANGEBYSCORE, ZADD, ZREM, ZREMRANGEBYRANK, ZREMRANGEBYSCORE. The pairs of a score
-- and a member stand by score and then by the members' bytes, each member once.
use Rattle.std.specs.Prelude.{◌-◌, ℤ, pos, negsuc, Bool, cond, not, List, [], ◌∷◌, Option, Some, None, option_map, take, drop, filter, length, Ok, Err}
use Rattle.sk_base.specs.Score.{score_text}
use Rattle.sk_base.specs.declared.bound.Bound.{Bound}
use Rattle.sk_resp.specs.Spelling.{Bytes}
use Rattle.sk_zset.specs.Pair.{Pair}
use Rattle.sk_zset.specs.Pairs.{added, score_of, without, without_ranks}
use Rattle.sk_zset.specs.Bounds.{is_between}
use Rattle.sk_value.specs.declared.keys_fault.KeysFault.TheVariants as fault
use Rattle.sk_value.specs.declared.read_op.ReadOp.{ReadOp}
use Rattle.sk_value.specs.declared.read_op.ReadOp.TheVariants as look
use Rattle.sk_value.specs.declared.write_op.WriteOp.{WriteOp}
use Rattle.sk_value.specs.declared.write_op.WriteOp.TheVariants as edit
use Rattle.sk_value.specs.Answer.{Answer, AndThen, counted, texts, text_or_null}
use Rattle.sk_value.specs.Lists.{first_index, end_index, range_of}

-- what a set has that may not be there yet
abbrev pub pairs_in : {B : Type 0} → (B → List Pair) → Option B → List Pair
pairs_in pairs None = []
pairs_in pairs (Some set) = pairs set

-- ## Reading

-- the members in order, each followed by its score's text where the scores are asked for
abbrev pub listed : Bool → List Pair → List Bytes
listed scores [] = []
listed scores (pair ∷ pairs) = pair.1 ∷ cond scores (score_text pair.0 ∷ listed scores pairs) (listed scores pairs)

-- Behind so many. A number below zero gives none.
abbrev pub behind : ℤ → List Pair → List Pair
behind (pos n) pairs = drop n pairs
behind (negsuc n) pairs = []

-- At most so many. A number below zero gives all.
abbrev pub at_most : ℤ → List Pair → List Pair
at_most (pos n) pairs = take n pairs
at_most (negsuc n) pairs = pairs

-- those that `LIMIT skip count` gives
abbrev pub limited : Option (ℤ × ℤ) → List Pair → List Pair
limited None pairs = pairs
limited (Some limit) pairs = at_most limit.1 (behind limit.0 pairs)

-- those with a score within the bounds
abbrev pub between : Bound → Bound → List Pair → List Pair
between least greatest pairs = filter (is_between least greatest) pairs

-- ## Editing

-- Each in turn. A member that is there gets the score.
abbrev pub all_added : List Pair → List Pair → List Pair
all_added [] pairs = pairs
all_added (pair ∷ more) pairs = all_added more (added pair pairs)

abbrev pub all_without : List Bytes → List Pair → List Pair
all_without [] pairs = pairs
all_without (member ∷ more) pairs = all_without more (without member pairs)

-- without those that LRANGE's indices give
abbrev pub without_range : ℤ → ℤ → List Pair → List Pair
without_range first last pairs = without_ranks (first_index first (length pairs)) (end_index last (length pairs) - first_index first (length pairs)) pairs

-- without those with a score within the bounds
abbrev pub without_between : Bound → Bound → List Pair → List Pair
without_between least greatest pairs = filter (λ pair. not (is_between least greatest pair)) pairs

-- ## The commands

abbrev pub look_sorted : ReadOp → List Pair → Answer
look_sorted look.Zcard pairs = Ok (counted (length pairs))
look_sorted (look.Zscore member) pairs = Ok (text_or_null (option_map score_text (score_of member pairs)))
look_sorted (look.Zrange first last scores) pairs = Ok (texts (listed scores (range_of first last pairs)))
look_sorted (look.Zrangebyscore least greatest options) pairs = Ok (texts (listed options.with_scores (limited options.limit (between least greatest pairs))))
look_sorted other pairs = Err fault.WrongType

-- how many went, and the pairs that are left
abbrev pub remaining : List Pair → List Pair → AndThen (List Pair)
remaining pairs left = Ok (counted (length pairs - length left), left)

-- ZADD answers how many members are new, and the others how many went.
unfoldable pub edit_sorted : WriteOp → List Pair → AndThen (List Pair)
edit_sorted (edit.Zadd more) pairs = Ok (counted (length (all_added more pairs) - length pairs), all_added more pairs)
edit_sorted (edit.Zrem members) pairs = remaining pairs (all_without members pairs)
edit_sorted (edit.Zremrangebyrank first last) pairs = remaining pairs (without_range first last pairs)
edit_sorted (edit.Zremrangebyscore least greatest) pairs = remaining pairs (without_between least greatest pairs)
edit_sorted other pairs = Err fault.WrongType
