-- A head whose parts are found in its text, or stand by themselves.
use Rattle.std.specs.Prelude.{◌≡◌, List, [], Some, None, unwrap_or, true, false}
use Rattle.sk_resp.specs.Spelling.{Bytes}
use Rattle.sk_payload.specs.Head.{head}
use Rattle.sk_payload.specs.Spans.{HasSpans}
use Rattle.sk_payload.specs.declared.head.Head.{Head}
use Rattle.sk_payload.specs.declared.head.Retry.TheVariants.{Default}
use Rattle.sk_payload.specs.declared.job_head.Parts.{Parts}
use Rattle.sk_payload.specs.declared.job_head.Parts.TheVariants as parts

-- a head without a name
abbrev pub no_head : Head
no_head = record { jid = []; class = []; queue = []; args = []; retry = Default; retry_for = None; gen_ = 0; bid = None; lock = None; dead = true; created = 0; first_failed = None }

-- the head of a text that has one
abbrev pub head_in : Bytes → Head
head_in text = unwrap_or (head text) no_head

-- The text has a head, and these are its parts.
abbrev pub HasParts : Parts → Bytes → Type 0
HasParts (parts.Spans s) text = HasSpans s.now text
HasParts (parts.Head h) text = head text ≡ Some h.now
