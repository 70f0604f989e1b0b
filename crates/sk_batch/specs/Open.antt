-- The members that are still to come, of a batch and of all batches within it.
use Rattle.std.specs.Prelude.{Bool, true, not, ◌&&◌, List, filter}
use Rattle.std.specs.List.{list_any}
use Rattle.sk_resp.specs.Spelling.{Bytes}
use Rattle.sk_batch.specs.Batched.{Batched, MemberEntry, BatchEntry}
use Rattle.sk_batch.specs.Ancestors.{is_under}
use Rattle.sk_batch.specs.declared.member.Mark.{Mark}
use Rattle.sk_batch.specs.declared.member.Mark.TheVariants.{Reported, Returned}
use Rattle.sk_batch.specs.declared.member.Progress.{Progress}

abbrev pub has_mark : Mark → Progress → Bool
has_mark Reported marks = marks.reported
has_mark Returned marks = marks.returned

abbrev pub with_mark : Mark → Progress → Progress
with_mark Reported marks = record marks { reported = true }
-- a member that returns is reported too
with_mark Returned marks = record { reported = true; returned = true }

-- the member is under the batch, and hasn't the mark
abbrev pub lacks : Mark → List BatchEntry → Bytes → MemberEntry → Bool
lacks mark batches bid m = not (has_mark mark m.0) && is_under batches m.1.bid bid

-- each member under the batch has the mark
abbrev pub all_marked : Mark → List BatchEntry → List MemberEntry → Bytes → Bool
all_marked mark batches members bid = not (list_any (lacks mark batches bid) members)

-- the open members of a batch: those under it that haven't returned
abbrev pub open_members : Batched → Bytes → List MemberEntry
open_members s bid = filter (lacks Returned s.batches bid) s.members

-- there are none
abbrev pub is_settled : Batched → Bytes → Bool
is_settled s bid = all_marked Returned s.batches s.members bid

-- each member under the batch was reported
abbrev pub is_reported : Batched → Bytes → Bool
is_reported s bid = all_marked Reported s.batches s.members bid
