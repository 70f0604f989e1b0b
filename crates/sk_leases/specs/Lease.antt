-- A lease: a name, and the moment at which it is over.
use Rattle.std.specs.Prelude.{ℕ, Bool, nat_lt, bytes_eq}
use Rattle.std.specs.Cmp.Lexicographic.{slice_cmp}
use Rattle.std.specs.Ordering.{nat_cmp, is_lt, ordering_then}
use Rattle.std.specs.declared.cmp.Ordering.{Ordering}
use Rattle.sk_resp.specs.Spelling.{Bytes}

-- the name, and the deadline in milliseconds since 1970
abbrev pub Lease : Type 0
Lease = Bytes × ℕ

abbrev pub names : Bytes → Lease → Bool
names name p = bytes_eq p.0 name

-- It stands while the moment is below its deadline.
abbrev pub stands_at : ℕ → Lease → Bool
stands_at now p = nat_lt now p.1

-- by the names' bytes, then by the deadlines
abbrev pub lease_cmp : Lease → Lease → Ordering
lease_cmp p q = ordering_then (slice_cmp nat_cmp p.0 q.0) (nat_cmp p.1 q.1)

-- the first stands before the second
abbrev pub precedes : Lease → Lease → Bool
precedes p q = is_lt (lease_cmp p q)
