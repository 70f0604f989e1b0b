-- What a link over a connection carried, told of the first state and the last alone.
use Rattle.std.specs.Prelude.{◌≡◌, ◌≤◌, ◌++◌, ◌||◌, true, List, [], ◌∷◌, Option, Some, None, Result, Ok, Err, IfSome}
use Rattle.sk_base.specs.Outside.{Rose, Takes, Gives, IsFront}
use Rattle.sk_resp.specs.Spelling.{Bytes}
use Rattle.sk_resp.specs.Reply.{wire}
use Rattle.sk_resp.specs.Request.{array}
use Rattle.sk_resp.specs.declared.reply.Reply.{Reply}
use Rattle.sk_link.specs.Call.{Call, has_lost}
use Rattle.sk_link.specs.Fault.{IsUnreadable}
use Rattle.sk_link.specs.Wire.{WireTells}
use Rattle.sk_link.specs.declared.link.LinkFault.{LinkFault}
use Rattle.sk_link.specs.declared.link.LinkFault.TheVariants.{Failed, Unreadable, Ended, Memory}

abbrev pub request_text : List Bytes → Result Reply LinkFault → Bytes
request_text request (Ok reply) = array request
request_text request (Err fault) = []

abbrev pub reply_text : Result Reply LinkFault → Bytes
reply_text (Ok reply) = wire reply
reply_text (Err fault) = []

-- the requests that were answered, one behind another
abbrev pub requests_text : List Call → Bytes
requests_text [] = []
requests_text (call ∷ calls) = request_text call.request call.reply ++ requests_text calls

-- the replies to them
abbrev pub replies_text : List Call → Bytes
replies_text [] = []
replies_text (call ∷ calls) = reply_text call.reply ++ replies_text calls

abbrev pub lost_or : List Bytes → Result Reply LinkFault → Bytes → Bytes
lost_or request (Ok reply) later = later
lost_or request (Err fault) later = array request

-- the first request that was lost; nothing where none was
abbrev pub lost_text : List Call → Bytes
lost_text [] = []
lost_text (call ∷ calls) = lost_or call.request call.reply (lost_text calls)

abbrev pub fault_or : Result Reply LinkFault → Option LinkFault → Option LinkFault
fault_or (Ok reply) later = later
fault_or (Err fault) later = Some fault

-- the fault by which it was lost
abbrev pub first_fault : List Call → Option LinkFault
first_fault [] = None
first_fault (call ∷ calls) = fault_or call.reply (first_fault calls)

-- its cause
abbrev pub IsFirstCause : WireTells → WireTells → LinkFault → Type 0
IsFirstCause before after Failed = Rose before.faults after.faults
IsFirstCause before after (Unreadable kept) = IfSome after.unread (IsUnreadable kept)
IsFirstCause before after Ended = before.ended ≡ true
IsFirstCause before after Memory = after.faults ≡ before.faults

-- The connection took the requests that were answered, each whole, and behind them a front of the one that was lost; it gave the replies to those
-- that were answered; and the first fault has its cause.
pub record CarriesAll (before after : WireTells) (calls : List Call) : Type 0 where
  pub front : Bytes
  pub of_lost : IsFront front (lost_text calls)
  pub sent : Takes before.taken (requests_text calls ++ front) after.taken
  pub given : Gives before.unread (replies_text calls) after.unread
  pub later : before.faults ≤ after.faults
  pub cause : IfSome (first_fault calls) (IsFirstCause before after)
  pub ended : after.ended ≡ (before.ended || has_lost calls)
