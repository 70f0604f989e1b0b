-- The program `push`.
use Rattle.std.specs.Prelude.{◌≡◌, ◌++◌, ℕ, ℤ, true, List, Option, Some, None, Result, Ok, Err, codes}
use Rattle.sk_resp.specs.Spelling.{Bytes}
use Rattle.sk_client.specs.Push.{Accepted, Fails, Push}
use Rattle.sk_client.specs.Requests.{lpush, upush, zadd}
use Rattle.sk_client.specs.declared.client_fault.ClientFault.{ClientFault}
use Rattle.sk_client.specs.declared.client_fault.ClientFault.TheVariants as fault
use Rattle.sk_line.specs.Push.{IsPush}
use Rattle.sk_line.specs.declared.push_line.PushLine.{PushLine}
use Rattle.sk_link.specs.Asking.{answers}
use Rattle.sk_link.specs.Call.{Call}
use Rattle.sk_middle.specs.Identity.{KeepsIdentity}
use Rattle.sk_middle.specs.declared.chain.Through.{Through}
use Rattle.sk_middle.specs.declared.chain.Through.TheVariants as through
use Rattle.sk_payload.specs.Draft.{draft_fault}
use Rattle.sk_payload.specs.declared.draft.JobDraft.{JobDraft}
use Rattle.sk_payload.specs.declared.draft_fault.DraftFault.TheVariants as draft_
use Rattle.sk_payload.specs.declared.head.Lock.{Lock}
use Rattle.clap.specs.Words.{Text}
use Rattle.sk_app.specs.Ending.{ended}
use Rattle.sk_app.specs.Hindering.{IsSpoilt}
use Rattle.sk_app.specs.Jobs.{IsJob}
use Rattle.sk_app.specs.declared.failure.Failure.{Failure}
use Rattle.sk_app.specs.declared.job.PushJob.{PushJob}
use Rattle.sk_app.specs.declared.failure.Failure.TheVariants as failure

-- the request that pushes a job: under its lock, into the schedule, or to its queue
abbrev pub request_by : Option Lock → JobDraft → Option ℤ → Push
request_by (Some lock) draft at_ = upush draft at_
request_by None draft (Some at_) = zadd draft at_
request_by None draft None = lpush draft

abbrev pub request : PushJob → Push
request job = request_by job.draft.lock job.draft job.at

-- What the link carried, by what came of the push.
abbrev pub Sends : (List Call → Type 0) → Push → Result (Unit {0}) ClientFault → Type 0
Sends Carried push (Ok done) = Accepted Carried push
Sends Carried push (Err f) = Fails Carried push f

-- What `push` tells of it: the job's id; or `held` and the id of the job that holds the lock; or a failure.
abbrev pub outcome_of : Bytes → Result (Unit {0}) ClientFault → Result Bytes Failure
outcome_of jid (Ok done) = Ok (ended jid)
outcome_of jid (Err (fault.Held holder)) = Ok (ended (codes "held " ++ holder))
outcome_of jid (Err (fault.Refused r)) = Err (failure.Refused r)
outcome_of jid (Err (fault.Link f)) = Err (failure.Link f)
outcome_of jid (Err fault.Memory) = Err failure.Memory
outcome_of jid (Err (fault.Draft draft_.Memory)) = Err failure.Memory
outcome_of jid (Err (fault.Draft f)) = Err failure.Line

-- The job was pushed over the link, and the outcome tells what came of it.
pub record Pushes (Carried : List Call → Type 0) (job : PushJob) (outcome : Result Bytes Failure) : Type 0 where
  pub pushed : Result (Unit {0}) ClientFault
  pub sent : Sends Carried (request job) pushed
  pub told : outcome ≡ outcome_of job.draft.jid pushed

-- The request was lost for another cause than want of memory, or got another reply than it wants.
abbrev pub IsPushSpoilt : PushJob → (List Call → Type 0) → Type 0
IsPushSpoilt job Carried = IsSpoilt Carried (request job).words (λ r. answers (request job).wanted r ≡ true)

-- ## The chain

-- what the chain makes of the job: the same job by another draft, or none where it stops the draft
abbrev pub Passes : (JobDraft → Through → Type 0) → PushJob → Option PushJob → Type 0
Passes Applied job (Some next) = Applied job.draft (through.Push next.draft) × KeepsIdentity job.draft next.draft × (next ≡ record job { draft = next.draft })
Passes Applied job None = (place : ℕ) × Applied job.draft (through.Stopped place)

-- Only a job that goes to its queue now goes through the chain.
abbrev pub handed_by : Option Lock → Option ℤ → (JobDraft → Through → Type 0) → PushJob → Option PushJob → Type 0
handed_by (Some lock) at_ Applied job next = next ≡ Some job
handed_by None (Some at_) Applied job next = next ≡ Some job
handed_by None None Applied job next = Passes Applied job next

-- the job that is pushed for this one, or none
abbrev pub Hands : (JobDraft → Through → Type 0) → PushJob → Option PushJob → Type 0
Hands Applied job next = handed_by job.draft.lock job.at Applied job next

-- ## The program

-- what is told of a job that the chain stopped
abbrev pub stopped : Bytes
stopped = ended (codes "stopped")

-- the words' job, with the moment and the words that were drawn, and the job that is pushed for it
pub record Wanted (words : List Text) (Drawn : ℕ → ℕ → ℕ → Type 0) (Applied : JobDraft → Through → Type 0) (next : Option PushJob) : Type 0 where
  pub line : PushLine
  pub moment : ℕ
  pub first : ℕ
  pub second : ℕ
  pub job : PushJob
  pub is_line : IsPush words line
  pub drawn : Drawn moment first second
  pub is_job : IsJob line moment first second job
  pub handed : Hands Applied job next

-- The words are no line of `push`, or the job that is to be pushed can't be written, or the chain stopped it; then nothing was done. Or there was no
-- memory. Or it was spoken of.
pub data PushRun (words : List Text) (Untouched : Type 0) (Drawn : ℕ → ℕ → ℕ → Type 0) (Applied : JobDraft → Through → Type 0)
    (Speaks : PushJob → Result Bytes Failure → Type 0) : Result Bytes Failure → Type 0 where
  refused : ((line : PushLine) → IsPush words line → ⊥) → Untouched → PushRun words Untouched Drawn Applied Speaks (Err failure.Line)
  unwritten : (job : PushJob) → Wanted words Drawn Applied (Some job) → (draft_fault job.draft ≡ None → ⊥) → Untouched →
      PushRun words Untouched Drawn Applied Speaks (Err failure.Line)
  halted : Wanted words Drawn Applied None → Untouched → PushRun words Untouched Drawn Applied Speaks (Ok stopped)
  starved : PushRun words Untouched Drawn Applied Speaks (Err failure.Memory)
  spoke : (job : PushJob) (outcome : Result Bytes Failure) → Wanted words Drawn Applied (Some job) → Speaks job outcome →
      PushRun words Untouched Drawn Applied Speaks outcome
