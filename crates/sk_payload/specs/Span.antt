-- Parts of a text, by where they stand in it.
use Rattle.std.specs.Prelude.{◌≡◌, ◌≤◌, ◌-◌, Option, Some, None, length, take, drop}
use Rattle.sk_resp.specs.Spelling.{Bytes}
use Rattle.sk_payload.specs.declared.span.Span.{Span}

-- the bytes at a span of a text
abbrev pub part : Span → Bytes → Bytes
part s text = take (s.end - s.start) (drop s.start text)

-- The text has bytes for the whole of the span.
abbrev pub IsWithin : Span → Bytes → Type 0
IsWithin s text = (s.start ≤ s.end) × (s.end ≤ length text)

-- These bytes stand at the span of the text.
abbrev pub Stands : Span → Bytes → Bytes → Type 0
Stands s text bytes = IsWithin s text × (bytes ≡ part s text)

-- The same of bytes that may be absent.
abbrev pub StandsIf : Option Span → Bytes → Option Bytes → Type 0
StandsIf None text bytes = bytes ≡ None
StandsIf (Some s) text bytes = (bytes ≡ Some (part s text)) × IsWithin s text
