-- What is read from an ordered list of pairs, and how it is edited.
use Rattle.std.specs.Prelude.{ℕ, ℤ, ◌+◌, Bool, cond, List, [], ◌∷◌, ◌++◌, Option, Some, None, drop, length, nat_lt, option_map, slice_get, take}
use Rattle.std.specs.List.{insert, list_any, position, position_or_len, remove}
use Rattle.std.specs.Ordering.{int_cmp, is_le}
use Rattle.sk_zset.specs.Pair.{Pair, names, precedes}

-- the member's pair
abbrev pub pair_of : List ℕ → List Pair → Option Pair
pair_of member ps = slice_get ps (position_or_len (names member) ps)

abbrev pub has : List ℕ → List Pair → Bool
has member ps = list_any (names member) ps

abbrev pub score_of : List ℕ → List Pair → Option ℤ
score_of member ps = option_map (λ p. p.0) (pair_of member ps)

-- how many pairs stand before the member's
abbrev pub rank : List ℕ → List Pair → Option ℕ
rank member ps = position (names member) ps

-- the list without the member's pair
unfoldable pub without : List ℕ → List Pair → List Pair
without member ps = remove ps (position_or_len (names member) ps)

-- the list with the pair at its place in the order
unfoldable pub put : Pair → List Pair → List Pair
put p ps = insert ps (position_or_len (precedes p) ps) p

-- the list with this pair in the place of the one that the member had
abbrev pub added : Pair → List Pair → List Pair
added p ps = put p (without p.1 ps)

-- so many pairs from a rank on
abbrev pub part : ℕ → ℕ → List Pair → List Pair
part first count ps = take count (drop first ps)

-- the list without so many pairs from a rank on
abbrev pub without_ranks : ℕ → ℕ → List Pair → List Pair
without_ranks first count ps = take first ps ++ drop (first + count) ps

-- the first member, where its score is at most this one
abbrev pub first_due : ℤ → List Pair → Option (List ℕ)
first_due now [] = None
first_due now (p ∷ ps) = cond (is_le (int_cmp p.0 now)) (Some p.1) None

-- the first pair, where there are more than so many
abbrev pub lowest_above : ℕ → List Pair → Option Pair
lowest_above keep ps = cond (nat_lt keep (length ps)) (slice_get ps 0) None

-- the list without that pair
abbrev pub trimmed : ℕ → List Pair → List Pair
trimmed keep ps = cond (nat_lt keep (length ps)) (drop 1 ps) ps
