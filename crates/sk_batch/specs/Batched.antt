-- What is kept of batches: plain lists.
use Rattle.std.specs.Prelude.{ℕ, List, ◌&&◌, Bool}
use Rattle.std.specs.List.{list_any}
use Rattle.std.specs.Str.{bytes_eq}
use Rattle.sk_resp.specs.Spelling.{Bytes}
use Rattle.sk_batch.specs.declared.batch.Batch.{Batch}
use Rattle.sk_batch.specs.declared.batch.Fired.{Fired}
use Rattle.sk_batch.specs.declared.member.Progress.{Progress}
use Rattle.sk_batch.specs.declared.member.Member.{Member}

-- a batch, and which of its callbacks were fired
abbrev pub BatchEntry : Type 0
BatchEntry = Fired × Batch

-- a member of a batch, and what came of it
abbrev pub MemberEntry : Type 0
MemberEntry = Progress × Member

pub record Batched : Type 0 where
  -- how many batches there may be
  pub most : ℕ
  -- in order of making, the newest first; so each stands before its parent
  pub batches : List BatchEntry
  -- of all batches, in the order of their ids, each once; a jid may be a member of several batches
  pub members : List MemberEntry

-- the batch of this bid, whatever is kept with it
abbrev pub has_bid : {K : Type 0} → Bytes → K × Batch → Bool
has_bid bid b = bytes_eq b.1.bid bid

-- the batch was made
abbrev pub is_there : Bytes → List BatchEntry → Bool
is_there bid batches = list_any (has_bid bid) batches

abbrev pub is_in : Bytes → MemberEntry → Bool
is_in bid m = bytes_eq m.1.bid bid

abbrev pub is_job : Bytes → Bytes → MemberEntry → Bool
is_job bid jid m = is_in bid m && bytes_eq m.1.jid jid

-- the job is a member of this very batch
abbrev pub is_member : Bytes → Bytes → List MemberEntry → Bool
is_member bid jid members = list_any (is_job bid jid) members
