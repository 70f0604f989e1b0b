-- Why a batch isn't made, or gets no jobs: the first rule that is broken, in this order.
use Rattle.std.specs.Prelude.{Bool, false, true, cond, not, List, [], ◌∷◌, length, nat_le, Option, Some, None}
use Rattle.std.specs.List.{list_any}
use Rattle.std.specs.Str.{bytes_eq}
use Rattle.sk_resp.specs.Spelling.{Bytes}
use Rattle.sk_batch.specs.Batched.{Batched, MemberEntry, is_member, is_there}
use Rattle.sk_batch.specs.Open.{is_settled}
use Rattle.sk_batch.specs.declared.batch_fault.BatchFault.{BatchFault}
use Rattle.sk_batch.specs.declared.batch_fault.BatchFault.TheVariants.{NoBatch, RepeatedBid, Settled, RepeatedJid, Full}

-- the rule that is broken, or else what the later rules say
abbrev pub breaks : Bool → BatchFault → Option BatchFault → Option BatchFault
breaks broken fault later = cond broken (Some fault) later

-- a jid comes twice, or is a member of the batch
abbrev pub has_repeated : Bytes → List MemberEntry → List Bytes → Bool
has_repeated bid members [] = false
has_repeated bid members (jid ∷ jids) = cond (is_member bid jid members) true (cond (list_any (λ other. bytes_eq other jid) jids) true (has_repeated bid members jids))

abbrev pub jids_fault : Bytes → List Bytes → Batched → Option BatchFault → Option BatchFault
jids_fault bid jids s later = breaks (has_repeated bid s.members jids) RepeatedJid later

-- of the batch that jobs are added to
abbrev pub batch_fault : Bytes → Batched → Option BatchFault → Option BatchFault
batch_fault bid s later = breaks (not (is_there bid s.batches)) NoBatch (breaks (is_settled s bid) Settled later)

abbrev pub add_fault : Bytes → List Bytes → Batched → Option BatchFault
add_fault bid jids s = batch_fault bid s (jids_fault bid jids s None)

-- of the bid and the parent of a new batch
abbrev pub bid_fault : Bytes → Option Bytes → Batched → Option BatchFault → Option BatchFault
bid_fault bid None s later = breaks (is_there bid s.batches) RepeatedBid later
bid_fault bid (Some parent) s later = breaks (not (is_there parent s.batches)) NoBatch (breaks (is_there bid s.batches) RepeatedBid (breaks (is_settled s parent) Settled later))

abbrev pub is_full : Batched → Bool
is_full s = nat_le s.most (length s.batches)

abbrev pub make_fault : Bytes → Option Bytes → List Bytes → Batched → Option BatchFault
make_fault bid parent jids s = bid_fault bid parent s (jids_fault bid jids s (breaks (is_full s) Full None))
