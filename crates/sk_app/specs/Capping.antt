-- What the shipped program's chain makes of a draft.
use Rattle.std.specs.Prelude.{min}
use Rattle.sk_payload.specs.declared.draft.JobDraft.{JobDraft}
use Rattle.sk_payload.specs.declared.head.Retry.{Retry}
use Rattle.sk_payload.specs.declared.head.Retry.TheVariants.{Count}

-- a count of retries is at most 100
abbrev pub lowered : Retry → Retry
lowered (Count n) = Count (min n 100)
lowered retry = retry

abbrev pub capped : JobDraft → JobDraft
capped draft = record draft { retry = lowered draft.retry }
