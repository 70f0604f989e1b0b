-- What a command on plain keys answers: a reply, or why it is refused.
use Rattle.std.specs.Prelude.{◌≡◌, ◌≢◌, ℕ, pos, Bool, cond, List, map, Option, Some, None, Result, Ok, Err, MatchResult}
use Rattle.sk_resp.specs.Spelling.{Bytes, bulk}
use Rattle.sk_resp.specs.declared.reply.Reply.{Reply}
use Rattle.sk_resp.specs.declared.reply.Reply.TheVariants as reply
use Rattle.sk_resp.specs.declared.say.Say.{Say}
use Rattle.sk_resp.specs.declared.say.Say.TheVariants as say
use Rattle.sk_value.specs.declared.keys_fault.KeysFault.{KeysFault}
use Rattle.sk_value.specs.declared.keys_fault.KeysFault.TheVariants as fault

abbrev pub Answer : Type 0
Answer = Result Reply KeysFault

-- an answer, and what stands afterwards
abbrev pub AndThen : Type 0 → Type 0
AndThen A = Result (Reply × A) KeysFault

-- ## Replies

abbrev pub counted : ℕ → Reply
counted n = reply.Int (pos n)

abbrev pub one_if : Bool → Reply
one_if b = counted (cond b 1 0)

abbrev pub texts : List Bytes → Reply
texts list = reply.Array (map bulk list)

abbrev pub text_or_null : Option Bytes → Reply
text_or_null None = reply.Null
text_or_null (Some text) = reply.Bulk text

-- ## Refusals

-- the text that tells a client of the fault
abbrev pub fault_say : KeysFault → Say
fault_say fault.WrongType = say.WrongType
fault_say fault.NotInt = say.NotInt
fault_say fault.Overflow = say.Overflow
fault_say fault.BadExpire = say.BadExpire
fault_say fault.Memory = say.Oom

-- A call gave this answer, or found no memory.
abbrev pub AnswersWith : Answer → Answer → Type 0
AnswersWith answer result = MatchResult result (λ r. answer ≡ Ok r) (λ f. f ≢ fault.Memory → answer ≡ Err f)

-- A call gave this answer and left this behind, or found no memory.
abbrev pub UpdatesTo : {A : Type 0} → AndThen A → Answer → A → Type 0
UpdatesTo due result after = MatchResult result (λ r. due ≡ Ok (r, after)) (λ f. f ≢ fault.Memory → due ≡ Err f)
