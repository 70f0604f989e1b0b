-- The numbers of a batch, and what each event makes of them.
use Rattle.std.specs.Prelude.{ℕ, ◌+◌, ◌-◌, ◌^◌, min, Bool, true, false, cond, not, ◌&&◌, List}
use Rattle.std.specs.List.{count_by}
use Rattle.std.specs.Str.{bytes_eq}
use Rattle.sk_resp.specs.Spelling.{Bytes}
use Rattle.sk_batch.specs.Batched.{BatchEntry, MemberEntry, is_in}
use Rattle.sk_batch.specs.Ancestors.{is_under}
use Rattle.sk_batch.specs.declared.batch.Batch.{Batch}
use Rattle.sk_batch.specs.declared.member.Mark.{Mark}
use Rattle.sk_batch.specs.declared.member.Mark.TheVariants.{Reported, Returned}
use Rattle.sk_batch.specs.declared.member.Progress.{Progress}
use Rattle.sk_batch.specs.declared.numbers.Change.{Change}
use Rattle.sk_batch.specs.declared.numbers.Change.TheVariants.{Came, Got}
use Rattle.sk_batch.specs.declared.numbers.Left.{Left}
use Rattle.sk_batch.specs.declared.numbers.Numbers.{Numbers}

-- ## What they are

-- of the members of the batches that pass, those still to come
abbrev pub left_of : (Bytes → Bool) → List MemberEntry → Left
left_of test members = record {
  unreported = count_by (λ m. not m.0.reported && test m.1.bid) members;
  unreturned = count_by (λ m. not m.0.returned && test m.1.bid) members;
}

abbrev pub numbers_in : List BatchEntry → List MemberEntry → Batch → Numbers
numbers_in batches members b = record {
  members = count_by (is_in b.bid) members;
  own = left_of (λ bid. bytes_eq bid b.bid) members;
  under = left_of (λ bid. is_under batches bid b.bid) members;
}

abbrev pub no_numbers : Numbers
no_numbers = record { members = 0; own = record { unreported = 0; unreturned = 0 }; under = record { unreported = 0; unreturned = 0 } }

-- ## What comes to them

abbrev pub one_if : Bool → ℕ
one_if b = cond b 1 0

-- the marks that a member gets by one, of those that it hasn't
abbrev pub gained : Mark → Progress → Progress
gained Reported marks = record { reported = not marks.reported; returned = false }
gained Returned marks = record { reported = not marks.reported; returned = not marks.returned }

-- the sum, as far as 64 bits go
abbrev pub plus : ℕ → ℕ → ℕ
plus n more = min (n + more) (2 ^ 64 - 1)

abbrev pub left_after : Change → Left → Left
left_after (Came count) left = record { unreported = plus left.unreported count; unreturned = plus left.unreturned count }
left_after (Got marks) left = record { unreported = left.unreported - one_if marks.reported; unreturned = left.unreturned - one_if marks.returned }

abbrev pub members_after : Change → ℕ → ℕ
members_after (Came count) members = plus members count
members_after (Got marks) members = members

-- what comes to a batch comes to its own numbers, and to those of each one that it is in
abbrev pub changed : Change → Bool → Numbers → Numbers
changed change true n = record { members = members_after change n.members; own = left_after change n.own; under = left_after change n.under }
changed change false n = record { members = n.members; own = n.own; under = left_after change n.under }
