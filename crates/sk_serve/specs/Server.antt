-- What the accept loops of a server did, and what came of all its connections.
use Rattle.std.specs.Prelude.{◌≡◌, ◌≢◌, ◌⊎◌, ℕ, ◌+◌, ◌-◌, ◌*◌, ◌/◌, ◌^◌, ◌<◌, ◌≤◌, All, List, [], length, map, Option, Some, None, Result, Ok, Err, IfOk, Bool, true, false}
use Rattle.std.specs.List.{AllZip, Any, sum_by}
use Rattle.sk_base.specs.Outside.{Rose}
use Rattle.sk_base.specs.declared.clock.Clock as a_clock
use Rattle.sk_base.specs.declared.sink.Sink as a_sink
use Rattle.sk_base.specs.declared.source.Source as a_source
use Rattle.sk_held.specs.declared.settler.Settler as a_settler
use Rattle.sk_desk.specs.declared.hub.HubFault.{HubFault}
use Rattle.sk_desk.specs.declared.hub.HubFault.TheVariants as hub_fault
use Rattle.sk_desk.specs.Pass.{PassView}
use Rattle.sk_desk.specs.State.{IsBalanced}
use Rattle.sk_edge.specs.Collected.{Collected, Keeps, MakesRoom}
use Rattle.sk_edge.specs.Doors.{IsNudged, Listens}
use Rattle.sk_edge.specs.declared.door.Door as a_door
use Rattle.sk_edge.specs.declared.door.Ear as an_ear
use Rattle.sk_serve.specs.Visits.{Among, AreVisits, EndsUnserved, HasShutdown, HasUnsettled, Standing, Visit, acknowledged_in, served_in, standing}
use Rattle.sk_serve.specs.declared.attend.Ending.{Ending}
use Rattle.sk_serve.specs.Attending.{Attending, Attends}
use Rattle.sk_serve.specs.declared.accept_loop.LoopEnd.{LoopEnd}
use Rattle.sk_serve.specs.declared.accept_loop.LoopEnd.TheVariants as loop_end
use Rattle.sk_serve.specs.declared.serve_end.ServeEnd.{ServeEnd}
use Rattle.sk_serve.specs.declared.serve_end.ServeEnd.TheVariants as serve_end
use Rattle.sk_serve.specs.declared.serve_end.ServeFault.{ServeFault}
use Rattle.sk_serve.specs.declared.serve_end.ServeFault.TheVariants as fault
use Rattle.sk_serve.specs.declared.serve_end.Served.{Served}

-- A number of the pass was given, and the connection's session on its seat came to this; its amount is the pass's now.
abbrev pub ServesOne : {C K : Type 0} → Attending C K → PassView → K → C → Ending → PassView → K → C → Type 0
ServesOne Attended old clock conn how new clock' conn' = (new.count + 1 ≡ old.count)
    × ((added : ℕ) × Attended (record { acknowledged = added; how = how }) clock conn clock' conn' × (new.amount ≡ old.amount + added))

-- ## Loops

-- the ear, the clock and the pass, how many numbers that had at first, how many connections were served, whether a session ended by SHUTDOWN, and how the
-- loop ended
pub record LoopView (E K : Type 0) : Type 0 where
  pub ear : E
  pub clock : K
  pub pass : PassView
  pub numbers : ℕ
  pub served : ℕ
  pub shut : Bool
  pub end : LoopEnd

pub record IsLoop (pass : PassView) (numbers served : ℕ) (how : LoopEnd) : Type 0 where
  -- each desk gave its part back
  pub parts : pass.parts ≡ 2 * numbers
  -- a connection served is a number used
  pub left : pass.count + served ≡ numbers
  pub spent : how ≡ loop_end.Spent → pass.count ≡ 0

-- a loop that hasn't run
pub record IsFresh {E K : Type 0} (numbers : ℕ) (l : LoopView E K) : Type 0 where
  pub numbers_are : l.numbers ≡ numbers
  pub served_are : l.served ≡ 0
  pub amount_is : l.pass.amount ≡ 0
  pub end_is : l.end ≡ loop_end.Done
  pub shut_is : l.shut ≡ false

-- how often the ear of a loop is nudged that ended so, beside so many others: once for each of them, where the loop ended by a cause of its own
abbrev pub nudges_at : LoopEnd → ℕ → ℕ
nudges_at loop_end.Done others = 0
nudges_at other others = others

abbrev pub stands : {E C K : Type 0} → an_ear.Ghosts E C → LoopView E K → Standing C K
stands Ear l = standing Ear l.ear l.clock

module _ {E C K : Type 0} (Ear : an_ear.Ghosts E C) (Attended : Attending C K) where
  -- A loop ran, beside so many others: these connections came, and it counts those that it served and what they acknowledged. It ended as one whose ear
  -- failed only where the ear's count rose; as one whose numbers were used up only where one more connection had come; and as unsettled only where a
  -- session was. Where one was it ended for that, or because waking the others failed; and it ended too where a session ended by SHUTDOWN. Where it ended
  -- by a cause of its own, as SHUTDOWN is one, it woke each other loop once, and else none; and it doesn't run again.
  pub record Runs (others : ℕ) (old new : LoopView E K) : Type 0 where
    pub visits : List (Visit C)
    pub came : AreVisits Attended (stands Ear old) visits (stands Ear new)
    pub served : new.served ≡ old.served + served_in visits
    pub amount : new.pass.amount ≡ old.pass.amount + acknowledged_in visits
    pub numbers_same : new.numbers ≡ old.numbers
    pub later : Ear.ear_faults old.ear ≤ Ear.ear_faults new.ear
    pub failed : new.end ≡ loop_end.Failed → (old.end ≡ loop_end.Failed) ⊎ Rose (Ear.ear_faults old.ear) (Ear.ear_faults new.ear)
    pub spent : new.end ≡ loop_end.Spent → (old.end ≡ loop_end.Spent) ⊎ EndsUnserved visits
    pub unsettled : new.end ≡ loop_end.Unsettled → (old.end ≡ loop_end.Unsettled) ⊎ HasUnsettled visits
    pub ends : HasUnsettled visits → (new.end ≡ loop_end.Unsettled) ⊎ (new.end ≡ loop_end.Failed)
    pub ends_shut : HasShutdown visits → new.end ≢ loop_end.Done
    pub woke : old.end ≡ loop_end.Done → IsNudged (Ear.nudged old.ear) (nudges_at new.end others) (Ear.nudged new.ear)
    pub over : old.end ≢ loop_end.Done → (new ≡ old) × (visits ≡ [])
    pub quit : new.shut ≡ true → (old.shut ≡ true) ⊎ (HasShutdown visits × (new.end ≢ loop_end.Done))

-- There is a bound, and each loop served as many connections; or a session of one of them ended by SHUTDOWN.
abbrev pub IsSettled : {E K : Type 0} → ℕ → List (LoopView E K) → Type 0
IsSettled sessions loops = ((0 < sessions) × All (λ it. it.served ≡ sessions) loops) ⊎ Any (λ it. it.shut ≡ true) loops

-- The loop's numbers were used up.
abbrev pub IsUsed : {E K : Type 0} → LoopView E K → Type 0
IsUsed l = (l.end ≡ loop_end.Spent) × (l.served ≡ l.numbers)

-- how a loop ends that had no seat for a connection
abbrev pub end_of : HubFault → LoopEnd
end_of hub_fault.Spent = loop_end.Spent
end_of hub_fault.Memory = loop_end.Memory

-- None of the loops ended so.
abbrev pub NoneAt : {E K : Type 0} → LoopEnd → List (LoopView E K) → Type 0
NoneAt how loops = All (λ l. l.end ≢ how) loops

-- The loops' gravest fault: that an ear failed; else that numbers were used up; else that there was no memory; else that a session was unsettled. None where
-- no loop ended by one of these.
abbrev pub IsGravest : {E K : Type 0} → List (LoopView E K) → Option ServeFault → Type 0
IsGravest loops (Some fault.Failed) = Any (λ l. l.end ≡ loop_end.Failed) loops
IsGravest loops (Some fault.Spent) = NoneAt loop_end.Failed loops × Any IsUsed loops
IsGravest loops (Some fault.Memory) = NoneAt loop_end.Failed loops × (NoneAt loop_end.Spent loops × Any (λ l. l.end ≡ loop_end.Memory) loops)
IsGravest loops (Some fault.Unsettled) =
    NoneAt loop_end.Failed loops × (NoneAt loop_end.Spent loops × (NoneAt loop_end.Memory loops × Any (λ l. l.end ≡ loop_end.Unsettled) loops))
IsGravest loops None = NoneAt loop_end.Failed loops × (NoneAt loop_end.Spent loops × (NoneAt loop_end.Memory loops × NoneAt loop_end.Unsettled loops))

-- ## What is said of a loop's calls

-- A connection had its session, with this desk's pass and clock; or there was no seat for it.
abbrev pub ServedBy : {C K W : Type 0} → Bool → Bool → a_source.Ghosts C → a_sink.Ghosts C → a_clock.Ghosts K → a_settler.Ghosts W → PassView → K → C → PassView → K → C × Result Ending HubFault → Type 0
ServedBy holds_back wants_words Source Sink Clock Settler pass clock conn pass' clock' result =
    IfOk result.1 (λ how. ServesOne (Attends holds_back wants_words Source Sink Clock Settler) pass clock conn how pass' clock' result.0)

-- The loops ran.
abbrev pub LoopsRun : {E C K W : Type 0} → Bool → Bool → an_ear.Ghosts E C → a_source.Ghosts C → a_sink.Ghosts C → a_clock.Ghosts K → a_settler.Ghosts W → ℕ → List (LoopView E K) → List (LoopView E K) → Type 0
LoopsRun holds_back wants_words Ear Source Sink Clock Settler others old new = AllZip (Runs Ear (Attends holds_back wants_words Source Sink Clock Settler) others) old new

-- ## Ears

-- an ear and the clock beside it, at first and at the end, and the connections that came in between
pub record Account (E C K : Type 0) : Type 0 where
  pub ear : E
  pub ear' : E
  pub clock : K
  pub clock' : K
  pub visits : List (Visit C)

module _ {E C K : Type 0} (Ear : an_ear.Ghosts E C) (Attended : Attending C K) where
  -- The ear gave these connections, in order, and each was left to it: as its session left it, or as it came where it had none.
  abbrev pub IsAccount : Account E C K → Type 0
  IsAccount a = AreVisits Attended (standing Ear a.ear a.clock) a.visits (standing Ear a.ear' a.clock')

  -- This came of these ears, in order, and of that this holds.
  pub record Became (ears ears' : List E) (P : List (Account E C K) → Type 0) : Type 0 where
    pub accounts : List (Account E C K)
    pub at_first : map (λ a. a.ear) accounts ≡ ears
    pub at_last : map (λ a. a.ear') accounts ≡ ears'
    pub each : All IsAccount accounts
    pub holds : P accounts

-- A session of it was unsettled.
abbrev pub EndsUnsettled : {E C K : Type 0} → Account E C K → Type 0
EndsUnsettled a = HasUnsettled a.visits

-- As many connections were served as there were numbers of seats, and one more came.
abbrev pub IsUsedUp : {E C K : Type 0} → ℕ → Account E C K → Type 0
IsUsedUp numbers a = (served_in a.visits ≡ numbers) × EndsUnserved a.visits

-- There is a bound, and each ear had as many served.
abbrev pub IsFull : {E C K : Type 0} → ℕ → List (Account E C K) → Type 0
IsFull bound accounts = (0 < bound) × All (λ a. served_in a.visits ≡ bound) accounts

module _ {E C K : Type 0} (Ear : an_ear.Ghosts E C) where
  -- The ear failed: its count rose.
  abbrev pub EarFailed : Account E C K → Type 0
  EarFailed a = Rose (Ear.ear_faults a.ear) (Ear.ear_faults a.ear')

  -- A session ended by SHUTDOWN, and each of so many other loops was woken once.
  abbrev pub IsShut : ℕ → Account E C K → Type 0
  IsShut others a = HasShutdown a.visits × IsNudged (Ear.nudged a.ear) others (Ear.nudged a.ear')

  -- What the loops did: so many sessions are those of the connections, and what they acknowledged adds up to so many rows. Each ear had as many connections
  -- served as it was to, or a session ended by SHUTDOWN; and none was unsettled.
  pub record HaveRun (bound loops sessions rows : ℕ) (accounts : List (Account E C K)) : Type 0 where
    pub sessions_are : sessions ≡ sum_by (λ a. served_in a.visits) accounts
    pub rows_are : rows ≡ sum_by (λ a. acknowledged_in a.visits) accounts
    pub done : IsFull bound accounts ⊎ Among (IsShut (loops - 1)) accounts
    pub settled : Among EndsUnsettled accounts → ⊥

  -- What a server did: its loops ran, and what its sessions acknowledged is what the store counts from outside.
  pub record IsServed (bound loops : ℕ) (s : Served) (accounts : List (Account E C K)) : Type 0 where
    pub ran : HaveRun bound loops s.sessions s.acknowledged accounts
    pub outside : s.acknowledged ≡ s.tally.outside
    pub balanced : IsBalanced s.tally

module _ {E C K : Type 0} (Ear : an_ear.Ghosts E C) (Attended : Attending C K) where
  -- The loops over these ears ended at this fault. Nothing says when there is no memory.
  abbrev pub EndedAt : ℕ → List E → List E → ServeFault → Type 0
  EndedAt loops ears ears' fault.Failed = Became Ear Attended ears ears' (Among (EarFailed Ear))
  EndedAt loops ears ears' fault.Spent = Became Ear Attended ears ears' (Among (IsUsedUp ((2 ^ 32 - 2) / loops)))
  EndedAt loops ears ears' fault.Unsettled = Became Ear Attended ears ears' (Among EndsUnsettled)
  EndedAt loops ears ears' fault.Memory = Unit {0}

  -- They ended so, after so many sessions, whose replies acknowledged so many rows.
  abbrev pub LoopsEnded : (bound loops rows : ℕ) → List E → List E → Result ℕ ServeFault → Type 0
  LoopsEnded bound loops rows ears ears' (Ok sessions) = Became Ear Attended ears ears' (HaveRun Ear bound loops sessions rows)
  LoopsEnded bound loops rows ears ears' (Err f) = EndedAt loops ears ears' f

  -- A server over them ended so.
  abbrev pub HaveEnded : (bound loops : ℕ) → List E → List E → Result Served ServeFault → Type 0
  HaveEnded bound loops ears ears' (Ok s) = Became Ear Attended ears ears' (IsServed Ear bound loops s)
  HaveEnded bound loops ears ears' (Err f) = EndedAt loops ears ears' f

-- ## A server

module _ {N E C K : Type 0} (Door : a_door.Ghosts N C E) (Ear : an_ear.Ghosts E C) (Attended : Attending C K) where
  -- The door gave so many ears, which hear what it told, and gathered them again; and this holds of what came of them.
  pub record Serves (loops : ℕ) (old new : N) (P : List (Account E C K) → Type 0) : Type 0 where
    pub ears : List E
    pub ears' : List E
    pub room : Option (Collected E)
    pub many : length ears ≡ loops
    pub hears : Listens Ear.heard Ear.kept Ear.nudged (Door.heard old) ears (Door.heard new)
    pub made : MakesRoom (Door.gathered old) loops room
    pub gathers : Keeps room ears' (Door.gathered new)
    pub became : Became Ear Attended ears ears' P

  -- The door's own count rose, or that of one of its ears.
  abbrev pub HasFailed : ℕ → N → N → Type 0
  HasFailed loops old new = Rose (Door.door_faults old) (Door.door_faults new) ⊎ Serves loops old new (Among (EarFailed Ear))

  -- An ear gave a connection for which there was no number left.
  abbrev pub HasSpent : ℕ → ℕ → N → N → Type 0
  HasSpent numbers loops old new = Serves loops old new (Among (IsUsedUp numbers))

  -- The server came to this.
  abbrev pub HasServed : ℕ → ℕ → N → N → Served → Type 0
  HasServed bound loops old new s = Serves loops old new (IsServed Ear bound loops s)

  -- The server ended so. Nothing says when there is no memory.
  abbrev pub HasEnded : ℕ → ℕ → N → N → ServeEnd → Type 0
  HasEnded bound loops old new (serve_end.Served s) = HasServed bound loops old new s
  HasEnded bound loops old new serve_end.Failed = HasFailed loops old new
  HasEnded bound loops old new serve_end.Spent = HasSpent ((2 ^ 32 - 2) / loops) loops old new
  HasEnded bound loops old new serve_end.Memory = Unit {0}
