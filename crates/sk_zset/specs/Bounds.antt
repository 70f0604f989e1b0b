-- Ranges of scores: `At` has its score within the range, `Past` leaves it out.
use Rattle.std.specs.Prelude.{ℤ, Bool, true, false, not, ◌&&◌}
use Rattle.std.specs.Ordering.{int_cmp, is_le, is_lt}
use Rattle.sk_base.specs.declared.bound.Bound.{Bound}
use Rattle.sk_base.specs.declared.bound.Bound.TheVariants.{At, High, Low, Past}
use Rattle.sk_zset.specs.Pair.{Pair}

-- the score is below a range that begins at this bound
abbrev pub is_below : Bound → ℤ → Bool
is_below Low s = false
is_below High s = true
is_below (At b) s = is_lt (int_cmp s b)
is_below (Past b) s = is_le (int_cmp s b)

-- the score is above a range that ends at this bound
abbrev pub is_above : Bound → ℤ → Bool
is_above Low s = true
is_above High s = false
is_above (At b) s = is_lt (int_cmp b s)
is_above (Past b) s = is_le (int_cmp b s)

-- the pair's score is within the range
abbrev pub is_between : Bound → Bound → Pair → Bool
is_between low high p = not (is_below low p.0) && not (is_above high p.0)
