-- What a link over a desk carries.
use Rattle.std.specs.Prelude.{◌≡◌, ◌++◌, ℕ, List, [], ◌∷◌, Option, Result, Ok, Err}
use Rattle.sk_base.specs.Yields.{Yields, YieldsAll}
use Rattle.sk_base.specs.declared.clock.Clock as a_clock
use Rattle.sk_resp.specs.Spelling.{Bytes}
use Rattle.sk_resp.specs.declared.reply.Reply.{Reply}
use Rattle.sk_link.specs.Call.{Call as LinkCall}
use Rattle.sk_link.specs.Walk.{Walk}
use Rattle.sk_link.specs.declared.link.LinkFault.{LinkFault}
use Rattle.sk_link.specs.declared.link.LinkFault.TheVariants.{Memory}
use Rattle.sk_desk.specs.Calls.{AddsCall, call_of}
use Rattle.sk_desk.specs.declared.call.Call.{Call}
use Rattle.sk_desk.specs.declared.desk.Desk as a_desk
use Rattle.sk_desk.specs.declared.entry.Ask.{Ask}
use Rattle.sk_lane.specs.Asks.{AreCalls, answered_ask}
use Rattle.sk_lane.specs.Drawing.{DrawsCall}
use Rattle.sk_lane.specs.declared.crashes.Drawing.{Drawing}
use Rattle.sk_lane.specs.declared.seat_link.SeatLink.{SeatLink}

-- what a link keeps, the moments that its clock is going to give, the calls that its desk tells, and where its crashes stand
pub record LinkState : Type 0 where
  pub asks : List Ask
  pub moments : Option (ℕ → ℕ)
  pub calls : Option (List Call)
  pub drawing : Drawing

-- The clock was read once, the desk was called at that moment, and the request is kept with its reply.
pub record Asked (request : List Bytes) (answer : Reply) (asks after : List Ask) (moments later : Option (ℕ → ℕ)) (calls calls_now : Option (List Call)) : Type 0 where
  pub now : ℕ
  pub at : Yields moments now later
  pub kept : after ≡ asks ++ answered_ask now request answer ∷ []
  pub told : AddsCall calls (call_of request now answer) calls_now

-- The same, by what a clock and a desk tell.
abbrev pub AskedOf : {D C : Type 0} → a_desk.Ghosts D → a_clock.Ghosts C → List Bytes → Reply → List Ask → C → D → List Ask → C → D → Type 0
AskedOf OfDesk OfClock request answer asks clock desk after clock_now desk_now =
    Asked request answer asks after (OfClock.moments clock) (OfClock.moments clock_now) (OfDesk.calls desk) (OfDesk.calls desk_now)

-- The clock was read, or it wasn't.
abbrev pub ReadsAtMost : Option (ℕ → ℕ) → Option (ℕ → ℕ) → Type 0
ReadsAtMost moments later = (read : List ℕ) × YieldsAll moments read later

-- A request that was answered is kept. Of one that was lost nothing is kept; only where there was no memory, the desk may have been called.
abbrev pub KeepsAsk : LinkState → List Bytes → Result Reply LinkFault → LinkState → Type 0
KeepsAsk a request (Ok answer) b = Asked request answer a.asks b.asks a.moments b.moments a.calls b.calls
KeepsAsk a request (Err Memory) b = ReadsAtMost a.moments b.moments × (b.asks ≡ a.asks)
KeepsAsk a request (Err f) b = (b.moments ≡ a.moments) × (b.asks ≡ a.asks) × (b.calls ≡ a.calls)

pub record CarriesCall (a : LinkState) (call : LinkCall) (b : LinkState) : Type 0 where
  pub drawn : DrawsCall a.drawing call b.drawing
  pub kept : KeepsAsk a call.request call.reply b

-- It carried these calls, one after another.
abbrev pub Carries : LinkState → LinkState → List LinkCall → Type 0
Carries a b calls = Walk CarriesCall a calls b

-- the state of a link, by what its desk and its clock tell
abbrev pub state_of : {D C : Type 0} → a_desk.Ghosts D → a_clock.Ghosts C → SeatLink D C → LinkState
state_of OfDesk OfClock link =
    record { asks = link.asks.items; moments = OfClock.moments link.clock; calls = OfDesk.calls link.desk; drawing = link.drawing }

-- Where the asks were the desk's calls, they are so still.
abbrev pub KeepsCalls : {D C : Type 0} → a_desk.Ghosts D → SeatLink D C → SeatLink D C → Type 0
KeepsCalls OfDesk link link_now = AreCalls (OfDesk.calls link.desk) link.asks.items → AreCalls (OfDesk.calls link_now.desk) link_now.asks.items
