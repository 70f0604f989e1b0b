-- What comes of the requests of a limiter, one after another.
use Rattle.std.specs.Prelude.{◌≡◌, ◌++◌, ℤ, pos, true, false, List, [], ◌∷◌, Result, Ok, Err}
use Rattle.sk_resp.specs.Spelling.{Bytes}
use Rattle.sk_resp.specs.declared.reply.Reply.{Reply}
use Rattle.sk_resp.specs.declared.reply.Reply.TheVariants as reply
use Rattle.sk_link.specs.Asking.{answers}
use Rattle.sk_link.specs.Call.{Call, answered, lost}
use Rattle.sk_link.specs.declared.asking.Answer.{Answer}
use Rattle.sk_limit.specs.declared.limit_fault.LimitFault.{LimitFault}
use Rattle.sk_limit.specs.declared.limit_fault.LimitFault.TheVariants as fault

-- What ends a call of a limiter behind the calls that were answered. The next request was lost by that fault of the link; or that is its reply, which
-- isn't of the kind wanted; or there was no memory for it, and nothing more was sent.
abbrev pub Stops : (List Call → Type 0) → List Call → List Bytes → Answer → LimitFault → Type 0
Stops Carried calls next wanted fault.Name = ⊥
Stops Carried calls next wanted (fault.Link f) = Carried (calls ++ lost next f ∷ [])
Stops Carried calls next wanted (fault.Refused r) = Carried (calls ++ answered next r ∷ []) × (answers wanted r ≡ false)
Stops Carried calls next wanted fault.Memory = Carried calls

-- the number that a reply is; 0 for a reply of another kind
abbrev pub number_in : Reply → ℤ
number_in (reply.Int n) = n
number_in r = pos 0

-- One request is answered, or ends the call.
abbrev pub Comes : (List Call → Type 0) → List Bytes → Answer → Result Reply LimitFault → Type 0
Comes Carried request wanted (Ok r) = Carried (answered request r ∷ []) × (answers wanted r ≡ true)
Comes Carried request wanted (Err f) = Stops Carried [] request wanted f
