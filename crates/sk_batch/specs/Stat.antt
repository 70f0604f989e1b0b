-- The numbers of a batch.
use Rattle.std.specs.Prelude.{◌≤◌, not, ◌&&◌, List, [], ◌∷◌, Option, Some, None}
use Rattle.std.specs.List.{count_by}
use Rattle.sk_resp.specs.Spelling.{Bytes}
use Rattle.sk_undo.specs.Balance.{most}
use Rattle.sk_batch.specs.Batched.{Batched, BatchEntry, is_in}
use Rattle.sk_batch.specs.Ancestors.{ancestors}
use Rattle.sk_batch.specs.Open.{lacks}
use Rattle.sk_batch.specs.declared.batch_stat.BatchStat.{BatchStat}
use Rattle.sk_batch.specs.declared.member.Mark.TheVariants.{Returned}

-- it died where a member of it, or of a batch within it, was buried
abbrev pub numbers_of : Batched → BatchEntry → BatchStat
numbers_of s b = record {
  members = count_by (is_in b.1.bid) s.members;
  pending = count_by (λ m. is_in b.1.bid m && not m.0.returned) s.members;
  unreported = count_by (λ m. is_in b.1.bid m && not m.0.reported) s.members;
  died = b.0.death;
  pending_under = count_by (lacks Returned s.batches b.1.bid) s.members;
}

-- of the first of these, the batch itself
abbrev pub stat_of : Batched → List BatchEntry → Option BatchStat
stat_of s [] = None
stat_of s (b ∷ above) = Some (numbers_of s b)

-- of the batch, where it was made
abbrev pub stat : Bytes → Batched → Option BatchStat
stat bid s = stat_of s (ancestors s.batches bid)

-- each of the numbers is the length of a part of a list
pub record IsSmall (n : BatchStat) : Type 0 where
  pub members : n.members ≤ most
  pub pending : n.pending ≤ most
  pub unreported : n.unreported ≤ most
  pub pending_under : n.pending_under ≤ most
