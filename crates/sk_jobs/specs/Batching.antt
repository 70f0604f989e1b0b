-- What commands on batches come to.
use Rattle.std.specs.Prelude.{◌≡◌, List, Option, None, Result, Ok, Err, OnOk}
use Rattle.sk_resp.specs.Spelling.{Bytes}
use Rattle.sk_resp.specs.declared.say.Say.{Say}
use Rattle.sk_batch.specs.Faults.{add_fault, make_fault}
use Rattle.sk_batch.specs.declared.batch.Batch.{Batch}
use Rattle.sk_batch.specs.declared.batch_fault.BatchFault.{BatchFault}
use Rattle.sk_model.specs.Batches.{batch_of, jids_of, join, make, unless}
use Rattle.sk_model.specs.Outcome.{Outcome, tells}
use Rattle.sk_model.specs.World.{World}
use Rattle.sk_jobs.specs.declared.batches.BatchWords.{BatchWords}

-- where a rule was broken that is told, and else this is done
abbrev pub unless_err : {A : Type 0} → Result A Say → Outcome → Outcome
unless_err (Ok kept) o = o
unless_err (Err say) o = tells say

-- no rule of the batches was broken, or else what was is told
pub record IsTold {A : Type 0} (broken : Option BatchFault) (done : Result A Say) : Type 0 where
  pub told : (o : Outcome) → unless broken o ≡ unless_err done o
  pub kept : OnOk done (broken ≡ None)

-- the batch that the words of `SK.BPUSH` tell of
abbrev pub batch_in : BatchWords → Batch
batch_in words = batch_of words.bid words.parent words.complete words.success words.death

-- the batch is made with its jobs, where no rule of the batches is broken
abbrev pub try_make : Batch → List Bytes → World → Outcome
try_make batch texts w = unless (make_fault batch.bid batch.parent (jids_of texts) w.batches) (make batch texts)

-- a batch gets the jobs, where none is broken
abbrev pub try_join : Bytes → List Bytes → World → Outcome
try_join bid texts w = unless (add_fault bid (jids_of texts) w.batches) (join bid texts)
