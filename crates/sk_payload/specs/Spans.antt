-- The parts of a head, where they stand in its text.
use Rattle.std.specs.Prelude.{◌≡◌, Some}
use Rattle.sk_resp.specs.Spelling.{Bytes}
use Rattle.sk_payload.specs.Head.{head}
use Rattle.sk_payload.specs.Member.{lock_of}
use Rattle.sk_payload.specs.Span.{Stands, StandsIf}
use Rattle.sk_payload.specs.declared.head.Head.{Head}
use Rattle.sk_payload.specs.declared.head.Until.TheVariants.{Success}
use Rattle.sk_payload.specs.declared.spans.Spans.{Spans}

-- Each part of this head stands at its span of the text.
pub record AreSpans (s : Spans) (text : Bytes) (h : Head) : Type 0 where
  pub jid : Stands s.jid text h.jid
  pub class : Stands s.class text h.class
  pub queue : Stands s.queue text h.queue
  pub args : Stands s.args text h.args
  pub bid : StandsIf s.bid text h.bid
  pub generation : s.gen_ ≡ h.gen_
  pub lock : lock_of s.seconds Success ≡ h.lock

-- The text has a head, whose parts stand at these spans.
abbrev pub HasSpans : Spans → Bytes → Type 0
HasSpans s text = (h : Head) × (head text ≡ Some h) × AreSpans s text h
