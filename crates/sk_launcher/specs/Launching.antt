-- What a launcher did: the poller's turns, each worker's turns between its joining and its leaving, and which answer came of them.
use Rattle.std.specs.Prelude.{◌≡◌, ◌+◌, ◌<◌, ◌≤◌, ◌++◌, ℕ, false, List, [], ◌∷◌, length, map, Option, Some, None, option_map, option_to_list, Result, Ok, Err, IfOk, if◌then◌else◌, nat_le}
use Rattle.std.specs.Bool.{MatchBool}
use Rattle.std.specs.List.{AllByRecursion, AllZip}
use Rattle.std.specs.Result.{is_err}
use Rattle.rand_pcg.specs.Lcg.{Lcg}
use Rattle.sk_resp.specs.Spelling.{Bytes}
use Rattle.sk_launcher.specs.declared.work_settings.WorkSettings.{WorkSettings}
use Rattle.sk_link.specs.Call.{Call}
use Rattle.sk_link.specs.Wire.{WireState}
use Rattle.sk_worker.specs.Leaving.{Leaves as GivesBack, leaving}
use Rattle.sk_worker.specs.Saying.{Joins}
use Rattle.sk_worker.specs.Stage.{Settings}
use Rattle.sk_worker.specs.declared.turn.WorkFault.{WorkFault}
use Rattle.sk_launcher.specs.Connections.{DoorTells, Each, Gives, Keeping}
use Rattle.sk_launcher.specs.Counting.{TallyView, no_turns, total_from}
use Rattle.sk_launcher.specs.Faults.{by_poll, by_work, status_of}
use Rattle.sk_launcher.specs.Polling.{PollState, PollerTurn}
use Rattle.sk_launcher.specs.Seeding.{SeedsAll}
use Rattle.sk_launcher.specs.Teams.{AreDone, Team}
use Rattle.sk_launcher.specs.Turning.{WentOn}
use Rattle.sk_launcher.specs.Working.{WorkState, WorkerTurn, own_team, worker_settings}
use Rattle.sk_launcher.specs.declared.counts.Counts.{Counts}
use Rattle.sk_launcher.specs.declared.launch_fault.LaunchFault.{LaunchFault}
use Rattle.sk_launcher.specs.declared.launch_fault.LaunchFault.TheVariants as fault

-- ## Joining and leaving

-- the fault that a worker keeps
abbrev pub kept_fault : {A : Type 0} → Option WorkFault → Result A WorkFault → Option WorkFault
kept_fault before (Ok a) = before
kept_fault before (Err f) = Some f

-- A worker joined, or met a fault there.
pub record HasJoined {Link Delay Dice : Type 0} (Carried : Link → Link → List Call → Type 0) (a b : WorkState Link Delay Dice) : Type 0 where
  pub result : Result (Unit {0}) WorkFault
  pub says : Joins (Carried a.link b.link) a.settings.ident result
  pub becomes : b ≡ record a { link = b.link; ended = is_err result; fault = kept_fault a.fault result }

-- A worker gave back what it held, or met a fault there.
pub record HasLeft {Link Delay Dice : Type 0} (Carried : Link → Link → List Call → Type 0) (a b : WorkState Link Delay Dice) : Type 0 where
  pub result : Result ℕ WorkFault
  pub told : GivesBack (Carried a.link b.link) a.settings.ident (leaving a.held 0) b.held result
  pub becomes : b ≡ record a { link = b.link; held = b.held; ended = is_err result; fault = kept_fault a.fault result }

-- A worker that had a fault does nothing more, and another one left.
abbrev pub Leaves : {Link Delay Dice : Type 0} → (Link → Link → List Call → Type 0) → WorkState Link Delay Dice → WorkState Link Delay Dice → Type 0
Leaves Carried a b = MatchBool a.ended (b ≡ a) (HasLeft Carried a b)

-- ## Hiring

-- a worker before it joined, and then
pub record Hire (Link Delay Dice : Type 0) : Type 0 where
  pub fresh : WorkState Link Delay Dice
  pub joined : WorkState Link Delay Dice

-- a door, and the teams, plain rules and dice that no worker has yet
pub record Office (Conn Delay Dice : Type 0) : Type 0 where
  pub door : DoorTells Conn
  pub teams : List (Team Delay)
  pub rules : List Delay
  pub dice : List Dice

abbrev pub office : {Conn Delay Dice : Type 0} → DoorTells Conn → List (Team Delay) → List Delay → List Dice → Office Conn Delay Dice
office door teams rules dice = record { door = door; teams = teams; rules = rules; dice = dice }

-- A worker began over a link to this connection, with the settings of its classes, and joined.
pub record IsStarted {Conn Delay Dice : Type 0} (Carried : WireState Conn → WireState Conn → List Call → Type 0)
    (conn : Conn) (own : List Bytes → Settings) (h : Hire (WireState Conn) Delay Dice) : Type 0 where
  pub link : h.fresh.link ≡ record { conn = conn; pending = []; ended = false }
  pub settings_are : h.fresh.settings ≡ own h.fresh.settings.classes
  pub held : h.fresh.held ≡ []
  pub whole : h.fresh.ended ≡ false
  pub fault : h.fresh.fault ≡ None
  pub tally : h.fresh.tally ≡ record { taken = 0; counts = no_turns }
  pub joins : HasJoined Carried h.fresh h.joined

-- The first team got a worker, with the first plain rule, the first dice and a link to a new connection, and it joined.
pub record Hires {Conn Delay Dice : Type 0} (Carried : WireState Conn → WireState Conn → List Call → Type 0) (own : List Bytes → Settings)
    (a : Office Conn Delay Dice) (h : Hire (WireState Conn) Delay Dice) (b : Office Conn Delay Dice) : Type 0 where
  pub conn : Conn
  pub gives : Gives a.door conn b.door
  pub next_team : a.teams ≡ own_team h.fresh ∷ b.teams
  pub next_rule : a.rules ≡ h.fresh.plain ∷ b.rules
  pub next_dice : a.dice ≡ h.fresh.dice ∷ b.dice
  pub starts : IsStarted Carried conn own h

-- A worker was hired, and this is it once it joined.
abbrev pub HiresOne : {Conn Delay Dice : Type 0} → (WireState Conn → WireState Conn → List Call → Type 0) → (List Bytes → Settings) →
    Office Conn Delay Dice → WorkState (WireState Conn) Delay Dice → Office Conn Delay Dice → Type 0
HiresOne Carried own a worker b = (h : Hire _ _ _) × Hires Carried own a h b × (worker ≡ h.joined)

-- Workers were hired in order, and these are they once they joined.
abbrev pub HiresAll : {Conn Delay Dice : Type 0} → (WireState Conn → WireState Conn → List Call → Type 0) → (List Bytes → Settings) →
    Office Conn Delay Dice → List (WorkState (WireState Conn) Delay Dice) → Office Conn Delay Dice → Type 0
HiresAll Carried own a workers b = (hires : List (Hire _ _ _)) × Each (Hires Carried own) a hires b × (workers ≡ map (λ h. h.joined) hires)

-- ## The poller

-- A poller with these settings that hasn't taken a turn, over a link to this connection and with this dice.
pub record IsFreshPoller {Conn Dice : Type 0} (conn : Conn) (settings : WorkSettings) (dice : Dice)
    (p : PollState (WireState Conn) Dice) : Type 0 where
  pub link : p.link ≡ record { conn = conn; pending = []; ended = false }
  pub watch_is : p.watch ≡ record { ident = settings.ident; loops = settings.loops.items; offset = settings.offset }
  pub dice_is : p.dice ≡ dice
  pub taken : p.taken ≡ 0
  pub whole : p.fault ≡ None

-- ## Turns in threads

-- The poller took turns, and so did each worker.
pub record InThreads {Link Delay Dice : Type 0} (Carried : Link → Link → List Call → Type 0) (Answers : Delay → ℕ → ℕ → Type 0)
    (poller poller' : PollState Link Dice) (workers workers' : List (WorkState Link Delay Dice)) : Type 0 where
  pub polled : WentOn (PollerTurn Carried) poller poller'
  pub worked : AllZip (WentOn (WorkerTurn Carried Answers)) workers workers'

-- None of them met a fault.
abbrev pub AreWhole : {Link Delay Dice : Type 0} → PollState Link Dice → List (WorkState Link Delay Dice) → Type 0
AreWhole poller workers = (poller.fault ≡ None) × AllByRecursion (λ w. w.ended ≡ false) workers

-- They took at most so many turns.
abbrev pub HaveAtMost : {Link Delay Dice : Type 0} → ℕ → ℕ → PollState Link Dice → List (WorkState Link Delay Dice) → Type 0
HaveAtMost polls turns poller workers = (poller.taken ≤ polls) × AllByRecursion (λ w. w.tally.taken ≤ turns) workers

-- They took exactly so many.
abbrev pub HaveTaken : {Link Delay Dice : Type 0} → ℕ → ℕ → PollState Link Dice → List (WorkState Link Delay Dice) → Type 0
HaveTaken polls turns poller workers = (poller.taken ≡ polls) × AllByRecursion (λ w. w.tally.taken ≡ turns) workers

-- ## The answer

abbrev pub work_faults : {Link Delay Dice : Type 0} → List (WorkState Link Delay Dice) → List LaunchFault
work_faults [] = []
work_faults (w ∷ workers) = option_to_list (option_map by_work w.fault) ++ work_faults workers

-- what workers gave back: their teams, their plain rules, their tallies, and their faults
pub record Returns (Delay : Type 0) : Type 0 where
  pub teams : List (Team Delay)
  pub rules : List Delay
  pub tallies : List TallyView
  pub faults : List LaunchFault

abbrev pub returned : {Delay : Type 0} → List (Team Delay) → List Delay → List TallyView → List LaunchFault → Returns Delay
returned teams rules tallies faults = record { teams = teams; rules = rules; tallies = tallies; faults = faults }

-- This worker gave back what it had.
pub record Returned {Link Delay Dice : Type 0} (gone : WorkState Link Delay Dice) (before after : Returns Delay) : Type 0 where
  pub teams : after.teams ≡ before.teams ++ own_team gone ∷ []
  pub rules : after.rules ≡ before.rules ++ gone.plain ∷ []
  pub tallies : after.tallies ≡ before.tallies ++ gone.tally ∷ []
  pub faults : after.faults ≡ before.faults ++ option_to_list (option_map by_work gone.fault)

-- So did all of these.
pub record AllReturned {Link Delay Dice : Type 0} (gone : List (WorkState Link Delay Dice)) (before after : Returns Delay) : Type 0 where
  pub teams : after.teams ≡ before.teams ++ map own_team gone
  pub rules : after.rules ≡ before.rules ++ map (λ w. w.plain) gone
  pub tallies : after.tallies ≡ before.tallies ++ map (λ w. w.tally) gone
  pub faults : after.faults ≡ before.faults ++ work_faults gone

-- one of these, and none has a lesser status
pub record IsLeast (f : LaunchFault) (faults : List LaunchFault) : Type 0 where
  pub front : List LaunchFault
  pub rest : List LaunchFault
  pub are : faults ≡ front ++ f ∷ rest
  pub least : AllByRecursion (λ other. status_of f ≤ status_of other) faults

abbrev pub IsLeastOf : List LaunchFault → Option LaunchFault → Type 0
IsLeastOf faults None = faults ≡ []
IsLeastOf faults (Some f) = IsLeast f faults

-- the first of these faults, or the second, where its status is less
abbrev pub lesser : Option LaunchFault → LaunchFault → LaunchFault
lesser None f = f
lesser (Some least) f = if nat_le (status_of least) (status_of f) then least else f

abbrev pub hindrance_of : Result (Unit {0}) LaunchFault → List LaunchFault
hindrance_of (Ok done) = []
hindrance_of (Err f) = f ∷ []

-- What kept a launcher from having all its workers: nothing; or the door gave no connection; or there was no memory.
abbrev pub Hindered : Type 0 → List LaunchFault → Type 0
Hindered DoorFailed [] = Unit {0}
Hindered DoorFailed (fault.Door ∷ []) = DoorFailed
Hindered DoorFailed (fault.Memory ∷ []) = Unit {0}
Hindered DoorFailed other = ⊥

-- The counts of all workers, where there is no fault; and else one of the faults with the least status.
abbrev pub IsAnswer : List LaunchFault → List Counts → Result Counts LaunchFault → Type 0
IsAnswer faults counts (Ok sum) = (faults ≡ []) × (sum ≡ total_from no_turns counts)
IsAnswer faults counts (Err f) = IsLeast f faults

-- There are so many workers, each took so many turns, which isn't 0, and the poller one more.
pub record AllWorked {Link Delay Dice : Type 0} (threads turns : ℕ) (poller : PollState Link Dice)
    (workers : List (WorkState Link Delay Dice)) : Type 0 where
  pub some : 0 < turns
  pub all : length workers ≡ threads
  pub taken : HaveTaken (turns + 1) turns poller workers

-- ## A launch

-- Workers were hired, and they and the poller took turns. These are they afterwards.
pub record Employs {Conn Delay Dice : Type 0} (Carried : WireState Conn → WireState Conn → List Call → Type 0) (Answers : Delay → ℕ → ℕ → Type 0)
    (own : List Bytes → Settings) (poller done : PollState (WireState Conn) Dice) (before after : Office Conn Delay Dice)
    (worked : List (WorkState (WireState Conn) Delay Dice)) : Type 0 where
  pub hired : List (WorkState (WireState Conn) Delay Dice)
  pub hiring : HiresAll Carried own before hired after
  pub working : InThreads Carried Answers poller done hired worked

-- What a process did once its poller had taken its first turn. Workers were hired; all took their turns, side by side; the workers left; and the
-- connections were left to the door, the poller's first. It says which faults there were, and the counts of each worker.
pub record Process {Conn Delay Dice : Type 0} (Carried : WireState Conn → WireState Conn → List Call → Type 0) (Answers : Delay → ℕ → ℕ → Type 0)
    (DoorFailed : Type 0) (own : List Bytes → Settings) (threads turns : ℕ) (poller : PollState (WireState Conn) Dice)
    (before : Office Conn Delay Dice) (after : DoorTells Conn) (faults : List LaunchFault) (counts : List Counts) : Type 0 where
  pub office_then : Office Conn Delay Dice
  pub done : PollState (WireState Conn) Dice
  pub worked : List (WorkState (WireState Conn) Delay Dice)
  pub gone : List (WorkState (WireState Conn) Delay Dice)
  pub door_then : DoorTells Conn
  pub hindrance : List LaunchFault
  pub employed : Employs Carried Answers own poller done before office_then worked
  pub leaving_them : AllZip (Leaves Carried) worked gone
  pub kept_first : Keeping office_then.door done.link.conn door_then
  pub kept_others : Each (λ a w b. Keeping a w.link.conn b) door_then gone after
  pub hindered : Hindered DoorFailed hindrance
  pub faults_are : faults ≡ option_to_list (option_map by_poll done.fault) ++ (work_faults gone ++ hindrance)
  pub counts_are : counts ≡ map (λ w. w.tally.counts) gone
  pub all : 0 < turns → faults ≡ [] → AllWorked threads turns done gone

-- what a launcher is given: a door, teams, and a dice, by the words that it is going to give
pub record Given (Conn Delay : Type 0) : Type 0 where
  pub door : DoorTells Conn
  pub teams : List (Team Delay)
  pub words : Option (ℕ → ℕ)

abbrev pub given : {Conn Delay : Type 0} → DoorTells Conn → List (Team Delay) → Option (ℕ → ℕ) → Given Conn Delay
given door teams words = record { door = door; teams = teams; words = words }

-- The poller and each worker got a dice of its own, started by words of the dice. The poller got the first connection, and took one turn or met a
-- fault there. The process went on, in which the i-th worker had the i-th of the teams and of the plain rules. Its answer is the counts of all workers,
-- where there was no fault, and else a fault with the least status. Where the settings have no number of turns there are no counts. The jobs that were
-- done are the runs that the teams told and that returned.
pub record Launch {Conn Delay : Type 0} (Carried : WireState Conn → WireState Conn → List Call → Type 0) (Answers : Delay → ℕ → ℕ → Type 0)
    (DoorFailed : Type 0) (settings : WorkSettings) (rules : List Delay) (before after : Given Conn Delay)
    (result : Result Counts LaunchFault) : Type 0 where
  pub conn : Conn
  pub door_first : DoorTells Conn
  pub own : Lcg
  pub others : List Lcg
  pub fresh : PollState (WireState Conn) Lcg
  pub begun : PollState (WireState Conn) Lcg
  pub faults : List LaunchFault
  pub counts : List Counts
  pub seeded : SeedsAll before.words own others after.words
  pub gives : Gives before.door conn door_first
  pub is_fresh : IsFreshPoller conn settings own fresh
  pub polled : WentOn (PollerTurn Carried) fresh begun
  pub once : begun.fault ≡ None → begun.taken ≡ 1
  pub process : Process Carried Answers DoorFailed (worker_settings settings.ident settings.order settings.prefetch) settings.threads
      settings.turns begun (office door_first before.teams rules others) after.door faults counts
  pub answered : IsAnswer faults counts result
  pub some : IfOk result (λ _. 0 < settings.turns)
  pub done : IfOk result (λ counts. AreDone before.teams after.teams counts.done)

-- What a launcher did with the settings, the plain rules and what it was given, as that was before and after, and what it answered. There was no
-- connection for the poller, or no memory; or it went on.
pub data Launched {Conn Delay : Type 0} (Carried : WireState Conn → WireState Conn → List Call → Type 0) (Answers : Delay → ℕ → ℕ → Type 0)
    (DoorFailed : Type 0) (settings : WorkSettings) (rules : List Delay) (before after : Given Conn Delay) : Result Counts LaunchFault → Type 0 where
  closed : DoorFailed → after.door ≡ before.door → Launched Carried Answers DoorFailed settings rules before after (Err fault.Door)
  starved : after.door ≡ before.door → Launched Carried Answers DoorFailed settings rules before after (Err fault.Memory)
  launched : (result : Result Counts LaunchFault) → Launch Carried Answers DoorFailed settings rules before after result →
      Launched Carried Answers DoorFailed settings rules before after result
