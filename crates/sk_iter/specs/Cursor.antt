-- The cursor that an answer to GET is.
use Rattle.std.specs.Prelude.{◌≡◌, ◌≤◌, ℕ, Option, Some, None}
use Rattle.std.specs.Fmt.{decimal}
use Rattle.sk_resp.specs.declared.reply.Reply.{Reply}
use Rattle.sk_resp.specs.declared.reply.Reply.TheVariants as reply

-- Null is 0, and a bulk string is the number, from 0 to so many, whose one spelling it is.
abbrev pub IsCursor : ℕ → Reply → ℕ → Type 0
IsCursor len reply.Null n = n ≡ 0
IsCursor len (reply.Bulk text) n = (n ≤ len) × (text ≡ decimal n)
IsCursor len r n = ⊥

-- the cursor, or that there is none
abbrev pub MatchCursor : ℕ → Reply → Option ℕ → Type 0
MatchCursor len r (Some n) = IsCursor len r n
MatchCursor len r None = (n : ℕ) → IsCursor len r n → ⊥
