-- What a story keeps of the calls at a desk, and what seats tell of their desks' calls.
use Rattle.std.specs.Prelude.{◌≡◌, ℕ, List, [], ◌∷◌, ◌++◌, map, codes, bytes_eq, Option, Some, None, IfSome, Bool, true, false, if◌then◌else◌, Result, Ok, Err}
use Rattle.std.specs.List.{filter_map}
use Rattle.std.specs.Option.{option_map_or}
use Rattle.sk_resp.specs.Reply.{wire}
use Rattle.sk_resp.specs.Spelling.{Bytes, line}
use Rattle.sk_resp.specs.declared.reply.Reply.{Reply}
use Rattle.sk_payload.specs.Head.{head}
use Rattle.sk_payload.specs.declared.head.Head.{Head}
use Rattle.sk_link.specs.Call.{Call as LinkCall}
use Rattle.sk_link.specs.declared.link.LinkFault.{LinkFault}
use Rattle.sk_desk.specs.declared.call.Call.{Call}
use Rattle.sk_desk.specs.declared.entry.Ask.{Ask}
use Rattle.sk_lane.specs.declared.past_seat.PastSeat.{PastSeat}

-- ## Asks

-- a request at this moment, with the text of its reply
abbrev pub answered_ask : ℕ → List Bytes → Reply → Ask
answered_ask now request answer = record { now = now; request = request; reply = Some (wire answer) }

abbrev pub with_ask : ℕ → List Bytes → Result Reply LinkFault → List Ask → List Ask
with_ask now request (Ok answer) later = answered_ask now request answer ∷ later
with_ask now request (Err f) later = later

-- The calls of a link that were answered, all at this moment. A request that was lost is none.
abbrev pub asks_at : ℕ → List LinkCall → List Ask
asks_at now [] = []
asks_at now (call ∷ calls) = with_ask now call.request call.reply (asks_at now calls)

-- a desk's call, as a story keeps it
abbrev pub ask_of : Call → Ask
ask_of call = record { now = call.now; request = call.request; reply = Some call.reply }

-- The asks are the desk's calls, each with its reply, where the desk tells them.
abbrev pub AreCalls : Option (List Call) → List Ask → Type 0
AreCalls calls asks = IfSome calls (λ cs. asks ≡ map ask_of cs)

-- the text `+OK`, or `-OOM want of memory`
abbrev pub is_ok_text : Bytes → Bool
is_ok_text text = bytes_eq text (line (codes "+OK"))

abbrev pub is_oom_text : Bytes → Bool
is_oom_text text = bytes_eq text (line (codes "-OOM want of memory"))

-- the reply is `-OOM want of memory`
abbrev pub is_oom : Reply → Bool
is_oom answer = is_oom_text (wire answer)

-- ## Starts

abbrev pub start_head : List Bytes → Option Head
start_head (name ∷ payload ∷ []) = if bytes_eq name (codes "SK.START") then head payload else None
start_head request = None

-- the head of the payload in an SK.START that was answered `+OK`
abbrev pub started : Ask → Option Head
started ask = if option_map_or is_ok_text ask.reply false then start_head ask.request else None

-- the heads of the jobs that were started, in order
abbrev pub starts : List Ask → List Head
starts asks = filter_map started asks

-- ## Seats that have ended

-- These seats have ended behind the others, where that is still told.
abbrev pub AddsPast : Option (List PastSeat) → List PastSeat → Option (List PastSeat) → Type 0
AddsPast before more None = Unit {0}
AddsPast before more (Some after) = (told : List PastSeat) × (before ≡ Some told) × (after ≡ told ++ more)

-- lost: there was no memory for one
abbrev pub past_in : Bool → List PastSeat → Option (List PastSeat)
past_in true seats_ended = None
past_in false seats_ended = Some seats_ended
