-- What is kept of the head of a job's text.
use Rattle.std.specs.Prelude.{◌≡◌, Some, None}
use Rattle.sk_resp.specs.Spelling.{Bytes}
use Rattle.sk_payload.specs.Head.{head}
use Rattle.sk_payload.specs.Spans.{HasSpans}
use Rattle.sk_payload.specs.declared.job_text.KeptHead.{KeptHead}
use Rattle.sk_payload.specs.declared.job_text.KeptHead.TheVariants as kept

-- It is that of this text.
abbrev pub IsKept : KeptHead → Bytes → Type 0
IsKept kept.Nothing text = head text ≡ None
IsKept (kept.Spans s) text = HasSpans s text
IsKept (kept.Boxed b) text = head text ≡ Some b.value
