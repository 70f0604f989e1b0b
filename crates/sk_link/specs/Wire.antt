-- A link over a connection: what contracts see of it, and what it carries.
use Rattle.std.specs.Prelude.{◌≡◌, ◌≤◌, ◌+◌, ◌++◌, ℕ, Bool, true, false, List, Option, Some, None, Result, Ok, Err, IfSome, refl}
use Rattle.std.specs.Result.{is_err}
use Rattle.std.specs.Coded.{Coded, code_by, coded×, coded_ℕ, coded_bool, coded_list}
use Rattle.sk_base.specs.Outside.{Rose, Takes, TakesFront, Gives}
use Rattle.sk_resp.specs.Spelling.{Bytes}
use Rattle.sk_resp.specs.Reply.{wire}
use Rattle.sk_resp.specs.ReplyStream.{IsReplyText}
use Rattle.sk_resp.specs.Request.{array}
use Rattle.sk_resp.specs.declared.reply.Reply.{Reply}
use Rattle.sk_link.specs.Call.{Call}
use Rattle.sk_link.specs.Fault.{IsUnreadable, is_ended}
use Rattle.sk_link.specs.Walk.{Walk}
use Rattle.sk_link.specs.declared.link.LinkFault.{LinkFault}
use Rattle.sk_link.specs.declared.link.LinkFault.TheVariants.{Failed, Unreadable, Ended, Memory}

-- ## The link

pub record WireState (C : Type 0) : Type 0 where
  pub conn : C
  -- the bytes that it read behind the last whole reply
  pub pending : Bytes
  -- an earlier call had a fault
  pub ended : Bool

abbrev pub state_code : {C : Type 0} → Coded C → Coded (WireState C)
state_code {C} c = code_by (C × (Bytes × Bool)) (coded× c (coded× (coded_list coded_ℕ) coded_bool)) (λ s. (s.conn, (s.pending, s.ended))) (λ p. record { conn = p.0; pending = p.1.0; ended = p.1.1 }) (λ _. refl)

-- the bytes behind the last whole reply: those that were read, and those that the connection has left
abbrev pub unread_of : Bytes → Option Bytes → Option Bytes
unread_of pending None = None
unread_of pending (Some left) = Some (pending ++ left)

-- what a link over a connection tells
pub record WireTells : Type 0 where
  pub ended : Bool
  -- how often a read or a write of the connection failed
  pub faults : ℕ
  -- the bytes that the connection took
  pub taken : Option Bytes
  -- the bytes behind the last whole reply
  pub unread : Option Bytes

-- The same by what its connection tells: the bytes that it took and those that it has left, and how often a read and a write failed.
abbrev pub wire_tells : {C : Type 0} → (C → Option Bytes) → (C → Option Bytes) → (C → ℕ) → (C → ℕ) → WireState C → WireTells
wire_tells taken left reads writes link = record {
  ended = link.ended;
  faults = reads link.conn + writes link.conn;
  taken = taken link.conn;
  unread = unread_of link.pending (left link.conn);
}

-- ## A call

-- A request was answered: the connection took exactly its text, and gave exactly the reply's, a whole one. Nothing failed, and
-- the link hadn't ended, and hasn't.
pub record IsAnswered (before after : WireTells) (request : List Bytes) (reply : Reply) : Type 0 where
  pub was : before.ended ≡ false
  pub is : after.ended ≡ false
  pub same : after.faults ≡ before.faults
  pub sent : Takes before.taken (array request) after.taken
  pub given : Gives before.unread (wire reply) after.unread
  pub text : IsReplyText (wire reply)

-- There was no memory, and no read or write failed: for the request, of which nothing was written; or for the reply, when all of it was.
pub data WantsMemory (before after : WireTells) (request : List Bytes) : Type 0 where
  for_request : after.faults ≡ before.faults → after.taken ≡ before.taken → WantsMemory before after request
  for_reply : after.faults ≡ before.faults → Takes before.taken (array request) after.taken → WantsMemory before after request

-- Why a request was lost: a read or a write failed; what is unread is no reply; the link had ended, and stays as it was; or there was no memory.
abbrev pub IsLossCause : WireTells → WireTells → List Bytes → LinkFault → Type 0
IsLossCause before after request Failed = Rose before.faults after.faults
IsLossCause before after request (Unreadable kept) = IfSome after.unread (IsUnreadable kept)
IsLossCause before after request Ended = after ≡ before
IsLossCause before after request Memory = WantsMemory before after request

-- A request was lost: the connection took at most its text, from the front, and nothing was taken off what is unread. The link has ended.
pub record IsLost (before after : WireTells) (request : List Bytes) (fault : LinkFault) : Type 0 where
  pub was : before.ended ≡ is_ended fault
  pub is : after.ended ≡ true
  pub later : before.faults ≤ after.faults
  pub sent : TakesFront before.taken (array request) after.taken
  pub kept : after.unread ≡ before.unread
  pub cause : IsLossCause before after request fault

-- what came of a request
abbrev pub Comes : WireTells → List Bytes → Result Reply LinkFault → WireTells → Type 0
Comes before request (Ok reply) after = IsAnswered before after request reply
Comes before request (Err fault) after = IsLost before after request fault

-- what comes of a request once its link ends at a fault
abbrev pub ComesThen : WireTells → List Bytes → Result Reply LinkFault → WireTells → Type 0
ComesThen before request result after = Comes before request result (record after { ended = is_err result })

-- The same of two states of a link, by what its connection tells.
abbrev pub WireComes : {C : Type 0} → (C → Option Bytes) → (C → Option Bytes) → (C → ℕ) → (C → ℕ)
    → WireState C → List Bytes → Result Reply LinkFault → WireState C → Type 0
WireComes taken left reads writes before request result after =
    ComesThen (wire_tells taken left reads writes before) request result (wire_tells taken left reads writes after)

-- ## What it carries

abbrev pub CarriesCall : WireTells → Call → WireTells → Type 0
CarriesCall before call after = Comes before call.request call.reply after

-- The calls lead from the one state to the other.
abbrev pub Carries : WireTells → WireTells → List Call → Type 0
Carries before after calls = Walk CarriesCall before calls after

-- The same of two states of a link, by what its connection tells.
abbrev pub WireCarries : {C : Type 0} → (C → Option Bytes) → (C → Option Bytes) → (C → ℕ) → (C → ℕ)
    → WireState C → WireState C → List Call → Type 0
WireCarries taken left reads writes before after calls =
    Carries (wire_tells taken left reads writes before) (wire_tells taken left reads writes after) calls
