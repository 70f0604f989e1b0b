-- The order of members: by their batches' ids, and within a batch by their own.
use Rattle.std.specs.Prelude.{Bool, true, cond, not, ◌&&◌, List, [], ◌∷◌, Option, Some, None}
use Rattle.std.specs.Cmp.Lexicographic.{slice_cmp}
use Rattle.std.specs.Ordering.{is_lt, nat_cmp, ordering_then}
use Rattle.std.specs.declared.cmp.Ordering.{Ordering}
use Rattle.sk_undo.specs.Partitioned.{all_pass}
use Rattle.sk_batch.specs.Batched.{MemberEntry}
use Rattle.sk_batch.specs.declared.member.Member.{Member}

abbrev pub member_cmp : Member → Member → Ordering
member_cmp m n = ordering_then (slice_cmp nat_cmp m.bid n.bid) (slice_cmp nat_cmp m.jid n.jid)

abbrev pub precedes : Member → Member → Bool
precedes m n = is_lt (member_cmp m n)

-- the members with a new one at its place
abbrev pub put : MemberEntry → List MemberEntry → List MemberEntry
put new [] = new ∷ []
put new (m ∷ ms) = cond (precedes new.1 m.1) (new ∷ m ∷ ms) (m ∷ put new ms)

abbrev pub put_all : List MemberEntry → List MemberEntry → List MemberEntry
put_all [] members = members
put_all (new ∷ news) members = put_all news (put new members)

-- none of these stands before the member
abbrev pub is_first : Member → List MemberEntry → Bool
is_first m others = all_pass (λ n. not (precedes n.1 m)) others

abbrev pub is_ordered : List MemberEntry → Bool
is_ordered [] = true
is_ordered (m ∷ ms) = is_first m.1 ms && is_ordered ms

abbrev pub was_ordered : Option (List MemberEntry) → Bool
was_ordered None = true
was_ordered (Some members) = is_ordered members
