-- Pairs of a score and a member, and their order.
use Rattle.std.specs.Prelude.{ℕ, ℤ, Bool, List}
use Rattle.std.specs.Cmp.Lexicographic.{slice_cmp}
use Rattle.std.specs.Ordering.{int_cmp, is_lt, nat_cmp, ordering_then}
use Rattle.std.specs.Str.{bytes_eq}
use Rattle.std.specs.declared.cmp.Ordering.{Ordering}

-- a score in millionths, and a member
abbrev pub Pair : Type 0
Pair = ℤ × List ℕ

-- by score, then by the members' bytes
abbrev pub pair_cmp : Pair → Pair → Ordering
pair_cmp p q = ordering_then (int_cmp p.0 q.0) (slice_cmp nat_cmp p.1 q.1)

-- the first pair stands before the second
abbrev pub precedes : Pair → Pair → Bool
precedes p q = is_lt (pair_cmp p q)

-- the pair is the member's
abbrev pub names : List ℕ → Pair → Bool
names member p = bytes_eq p.1 member
