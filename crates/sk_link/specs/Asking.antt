-- Which replies are answers of a kind, and what it is to ask for one.
use Rattle.std.specs.Prelude.{◌≡◌, Bool, true, false, List, [], ◌∷◌, codes, bytes_eq, is_some, Result, Ok, Err}
use Rattle.sk_base.specs.Name.{is_name}
use Rattle.sk_base.specs.declared.limits.TheConstants.{LONGEST_ID}
use Rattle.sk_resp.specs.Spelling.{Bytes}
use Rattle.sk_resp.specs.declared.reply.Reply.{Reply}
use Rattle.sk_resp.specs.declared.reply.Reply.TheVariants as reply
use Rattle.sk_resp.specs.declared.say.Say.TheVariants as say
use Rattle.sk_link.specs.Call.{Call, answered, lost}
use Rattle.sk_link.specs.Report.{report_of}
use Rattle.sk_link.specs.declared.asking.Answer.{Answer}
use Rattle.sk_link.specs.declared.asking.Answer.TheVariants as answer
use Rattle.sk_link.specs.declared.asking.AskFault.{AskFault}
use Rattle.sk_link.specs.declared.asking.AskFault.TheVariants as fault

-- ## Kinds of answers

-- `+OK`
abbrev pub is_okay : Reply → Bool
is_okay (reply.Say say.Ok) = true
is_okay (reply.Simple text) = bytes_eq text (codes "OK")
is_okay r = false

-- `+OK` or null
abbrev pub is_okay_or_null : Reply → Bool
is_okay_or_null reply.Null = true
is_okay_or_null r = is_okay r

-- an integer
abbrev pub is_number : Reply → Bool
is_number (reply.Int n) = true
is_number r = false

-- an array
abbrev pub is_list : Reply → Bool
is_list (reply.Array texts) = true
is_list r = false

-- an element of a list, or none
abbrev pub is_popped : Reply → Bool
is_popped reply.Null = true
is_popped (reply.Bulk bytes) = true
is_popped r = false

-- `+OK`, or a name of at most 64 bytes
abbrev pub is_unique : Reply → Bool
is_unique (reply.Bulk bytes) = is_name LONGEST_ID bytes
is_unique r = is_okay r

-- The reply is of this kind.
abbrev pub answers : Answer → Reply → Bool
answers answer.Okay r = is_okay r
answers answer.OkayOrNull r = is_okay_or_null r
answers answer.Number r = is_number r
answers answer.List r = is_list r
answers answer.Popped r = is_popped r
answers answer.Unique r = is_unique r
answers answer.Report r = is_some (report_of r)

-- ## Requests

-- What came of a request over a link: an answer; a reply that is none; or it was lost by a fault of the link.
abbrev pub Asked : (List Call → Type 0) → List Bytes → Answer → Result Reply AskFault → Type 0
Asked Carried request wanted (Ok r) = Carried (answered request r ∷ []) × (answers wanted r ≡ true)
Asked Carried request wanted (Err (fault.Refused r)) = Carried (answered request r ∷ []) × (answers wanted r ≡ false)
Asked Carried request wanted (Err (fault.Link f)) = Carried (lost request f ∷ [])
