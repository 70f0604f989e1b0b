-- What is compared of an ask, and its text.
use Rattle.std.specs.Prelude.{◌<◌, ◌^◌, ◌++◌, [], length, Option, Some, None, IfSome, IsSome, unwrap_or}
use Rattle.sk_resp.specs.Spelling.{Bytes}
use Rattle.sk_resp.specs.Request.{Command, array}
use Rattle.sk_desk.specs.declared.entry.Ask.{Ask}

-- a request and the text of its reply
pub record Exchange : Type 0 where
  pub request : Command
  pub reply : Option Bytes

abbrev pub exchange_of : Ask → Exchange
exchange_of ask = record { request = ask.request; reply = ask.reply }

-- the request as clients write it, and the reply behind it
abbrev pub text_of : Exchange → Bytes
text_of x = array x.request ++ unwrap_or x.reply []

-- the text of this, or an empty one where there is none
abbrev pub text_in : Option Exchange → Bytes
text_in None = []
text_in (Some x) = text_of x

-- A text in memory has fewer than 2^63 bytes.
abbrev pub FitsMemory : Bytes → Type 0
FitsMemory text = length text < 2 ^ 63

-- The ask has its reply, where there is one.
abbrev pub WasAnswered : Option Exchange → Type 0
WasAnswered x = IfSome x (λ y. IsSome y.reply)
