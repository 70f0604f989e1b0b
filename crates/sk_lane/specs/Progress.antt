-- How far a worker's thread has come: what its requests, its turns and its stories add to what it did before.
use denote.Param.Members.{Mut}
use Rattle.std.specs.Prelude.{◌≡◌, ◌+◌, ◌++◌, ℕ, Bool, true, false, List, [], ◌∷◌, length, Option, Some, Result}
use Rattle.sk_resp.specs.Spelling.{Bytes}
use Rattle.sk_resp.specs.declared.reply.Reply.{Reply}
use Rattle.sk_link.specs.Asking.{is_okay}
use Rattle.sk_worker.specs.Event.{Event, Choice, calls, runs}
use Rattle.sk_worker.specs.Run.{Run}
use Rattle.sk_worker.specs.Stage.{Settings}
use Rattle.sk_worker.specs.declared.registry.Registry.{Registry}
use Rattle.sk_worker.specs.declared.turn.Turn.{Turn}
use Rattle.sk_worker.specs.declared.turn.WorkFault.{WorkFault}
use Rattle.sk_worker.specs.declared.turn.WorkFault.TheVariants as fault
use Rattle.sk_worker.specs.declared.worker.Worker.{Worker}
use Rattle.sk_desk.specs.declared.entry.Ask.{Ask}
use Rattle.sk_lane.specs.Asks.{AddsPast, AreCalls, answered_ask, is_oom}
use Rattle.sk_lane.specs.Carrying.{Carries, LinkState}
use Rattle.sk_lane.specs.Story.{Sitting, Stories}
use Rattle.sk_lane.specs.Turns.{TurnTaken, Turns, asks_of, marks_of, moment, runs_of}
use Rattle.sk_lane.specs.declared.crashes.Crashes.{Crashes}
use Rattle.sk_lane.specs.declared.crashes.Drawing.{Drawing}
use Rattle.sk_lane.specs.declared.past_seat.PastSeat.{PastSeat}
use Rattle.sk_lane.specs.declared.story.Story.{Story}

-- The clock stands at the lane's moment.
pub record Stands (told : Option (ℕ → ℕ)) : Type 0 where
  pub next : ℕ → ℕ
  pub tells : told ≡ Some next
  pub at : (n : ℕ) → next n ≡ moment

-- ## Requests outside of turns

-- The request was answered, by `+OK` or otherwise, and kept. No word was drawn for it.
pub record Said (request : List Bytes) (a b : LinkState) (okay : Bool) : Type 0 where
  pub answer : Reply
  pub kept : b.asks ≡ a.asks ++ answered_ask moment request answer ∷ []
  pub is : is_okay answer ≡ okay
  pub served : is_oom answer ≡ false
  pub undrawn : b.drawing ≡ a.drawing
  pub stands : Stands b.moments
  pub same : AreCalls a.calls a.asks → AreCalls b.calls b.asks

-- ## Turns

abbrev pub is_memory : WorkFault → Bool
is_memory fault.Memory = true
is_memory f = false

-- A turn at a seat, by its events.
pub record SeatTurn (w : Settings) (OfRules : List Choice → Type 0) (OfJobs : List Run → Type 0) (a : LinkState) (before : List Bytes)
    (b : LinkState) (after : List Bytes) (result : Result Turn WorkFault) : Type 0 where
  pub events : List Event
  pub carried : Carries a b (calls events)
  pub ran : OfJobs (runs events)
  pub taken : TurnTaken w OfRules before events after result

-- Turns that were taken at a seat, behind these asks and marks.
pub record TurnsTold (w : Settings) (OfRules : List Choice → Type 0) (OfJobs : List Run → Type 0) (a : Drawing) (todo : ℕ) (held : List Bytes)
    (asks asks_now : List Ask) (marks marks_now : List ℕ) (b : Drawing) (left : ℕ) : Type 0 where
  pub turns : List (List Event)
  pub asked : asks_now ≡ asks ++ asks_of turns
  pub marked : marks_now ≡ marks ++ marks_of (length asks) turns
  pub ran : OfJobs (runs_of turns)
  pub taken : Turns w OfRules a todo held turns b left

-- The same of turns so far: whatever turns come behind come behind these.
pub record TurnsSoFar (w : Settings) (OfRules : List Choice → Type 0) (OfJobs : List Run → Type 0) (a : Drawing) (todo : ℕ) (held : List Bytes)
    (asks asks_now : List Ask) (marks marks_now : List ℕ) (b : Drawing) (left : ℕ) (held_now : List Bytes) : Type 0 where
  pub turns : List (List Event)
  pub asked : asks_now ≡ asks ++ asks_of turns
  pub marked : marks_now ≡ marks ++ marks_of (length asks) turns
  pub ran : OfJobs (runs_of turns)
  pub on : (rest : List (List Event)) (c : Drawing) (end : ℕ) → Turns w OfRules b left held_now rest c end → Turns w OfRules a todo held (turns ++ rest) c end

-- ## Stories

-- A lane so far: whatever stories come behind come behind these.
pub record LaneSoFar (thread : ℕ) (w : Settings) (OfRules : List Choice → Type 0) (OfJobs : List Run → Type 0) (c : Crashes) (todo : ℕ)
    (seats seats_now : Sitting) (stories : List Story) (now : Crashes) (left : ℕ) : Type 0 where
  pub runs : List Run
  pub seats_ended : List PastSeat
  pub ran : OfJobs runs
  pub past_is : AddsPast seats.past seats_ended seats_now.past
  pub left_is : seats_now.left + length stories ≡ seats.left
  pub on : (rest : List Story) (more : List Run) (later : List PastSeat) → Stories thread w OfRules now left seats_now.last rest more later →
      Stories thread w OfRules c todo seats.last (stories ++ rest) (runs ++ more) (seats_ended ++ later)

-- ## A worker with its jobs

module _ {Rule : Type 0} {OfRule : Rule → Type 0} {Delays : Mut ((rule : Rule) × OfRule rule) (ℕ × Unit {0}) ℕ} where
  -- the same worker
  pub record KeepsWorker (a b : Worker Rule OfRule Delays) : Type 0 where
    pub ident : b.ident ≡ a.ident
    pub order : b.order ≡ a.order
    pub plain : b.plain ≡ a.plain
    pub prefetch : b.prefetch ≡ a.prefetch

module _ {Rule Job : Type 0} {OfRule : Rule → Type 0} {OfJob : Job → Type 0} {Delays : Mut ((rule : Rule) × OfRule rule) (ℕ × Unit {0}) ℕ} where
  -- the same classes with the same delay rules
  pub record KeepsRules (a b : Registry Job Rule OfJob OfRule Delays) : Type 0 where
    pub classes : b.classes ≡ a.classes
    pub rules : b.rules ≡ a.rules
