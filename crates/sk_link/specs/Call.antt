-- What a link carries: calls, each a request and what came of it.
use Rattle.std.specs.Prelude.{Bool, false, ◌||◌, List, [], ◌∷◌, Result, Ok, Err}
use Rattle.std.specs.Result.{is_err}
use Rattle.sk_resp.specs.Spelling.{Bytes}
use Rattle.sk_resp.specs.declared.reply.Reply.{Reply}
use Rattle.sk_link.specs.declared.link.LinkFault.{LinkFault}

pub record Call : Type 0 where
  -- the words of the request
  pub request : List Bytes
  -- the reply to it, or the fault by which it was lost
  pub reply : Result Reply LinkFault

-- a request that was answered by this reply
abbrev pub answered : List Bytes → Reply → Call
answered request r = record { request = request; reply = Ok r }

-- a request that was lost by this fault. The store may have taken it all the same.
abbrev pub lost : List Bytes → LinkFault → Call
lost request f = record { request = request; reply = Err f }

-- One of them was lost.
abbrev pub has_lost : List Call → Bool
has_lost [] = false
has_lost (call ∷ calls) = is_err call.reply || has_lost calls
