-- What the functions of a launcher promise, by the traits of the door, of its connections, of the clock and of the dice.
use denote.Param.Members.{Mut}
use Rattle.std.specs.Prelude.{◌≡◌, ◌+◌, ◌<◌, ◌≤◌, ℕ, false, All, List, [], Option, None, Result, length, map, vec_capacity}
use Rattle.std.specs.List.{AllZip}
use Rattle.std.specs.declared.alloc.Global.{Global}
use Rattle.std.specs.declared.vec.Vec.{Vec}
use Rattle.rand_pcg.specs.Lcg.{Lcg}
use Rattle.sk_base.specs.Outside.{Rose}
use Rattle.sk_base.specs.declared.clock.Clock as a_clock
use Rattle.sk_base.specs.declared.dice.Dice as a_dice
use Rattle.sk_base.specs.declared.sink.Sink as a_sink
use Rattle.sk_base.specs.declared.source.Source as a_source
use Rattle.sk_edge.specs.declared.door.Door as a_door
use Rattle.sk_resp.specs.Spelling.{Bytes}
use Rattle.sk_launcher.specs.declared.work_settings.WorkSettings.{WorkSettings}
use Rattle.sk_link.specs.Call.{Call}
use Rattle.sk_link.specs.Wire.{WireCarries, WireState}
use Rattle.sk_policy.specs.declared.delay.DelayRule.{DelayRule}
use Rattle.sk_poller.specs.Stage.{Watch}
use Rattle.sk_worker.specs.Promises.{Answers}
use Rattle.sk_worker.specs.Run.{Run}
use Rattle.sk_worker.specs.Stage.{Settings}
use Rattle.sk_worker.specs.declared.registry.Registry.{Registry}
use Rattle.sk_launcher.specs.Connections.{DoorTells, Each, Keeping, door_tells}
use Rattle.sk_launcher.specs.Launching.{AllReturned, AllWorked, AreWhole, Employs, HaveAtMost, HaveTaken, Hire, HiresAll, HiresOne, InThreads, IsStarted, Launched, Leaves, Office, Process, Returned, given, office, returned}
use Rattle.sk_launcher.specs.Launching.{Returns as GivenBack}
use Rattle.sk_launcher.specs.Patience.{IsSettingsAt, LaunchEnded, Outlasts}
use Rattle.sk_launcher.specs.Polling.{PollState, PollerTurn, own_poller}
use Rattle.sk_launcher.specs.Teams.{HaveReturned, done_in, team_of, teams_of}
use Rattle.sk_launcher.specs.Turning.{WentOn}
use Rattle.sk_launcher.specs.Working.{WorkState, WorkerAdvances, hired_worker, hired_workers, own_team, worker_settings}
use Rattle.sk_launcher.specs.declared.counts.Counts.{Counts}
use Rattle.sk_launcher.specs.declared.dismiss.Returns.{Returns}
use Rattle.sk_launcher.specs.declared.hire.Outfit.{Outfit}
use Rattle.sk_launcher.specs.declared.launch_end.LaunchEnd.{LaunchEnd}
use Rattle.sk_launcher.specs.declared.launch_fault.LaunchFault.{LaunchFault}
use Rattle.sk_launcher.specs.declared.poller_thread.PollerThread.{PollerThread}
use Rattle.sk_launcher.specs.declared.worker_thread.WorkerThread.{WorkerThread}

-- ## The door and its connections

-- what a door tells of its connections
abbrev pub told_by : {N Conn Ear : Type 0} → a_door.Ghosts N Conn Ear → N → DoorTells Conn
told_by Door net = door_tells (Door.dialled net) (Door.kept net)

-- The door's count of faults rose.
abbrev pub Failed : {N Conn Ear : Type 0} → a_door.Ghosts N Conn Ear → N → N → Type 0
Failed Door net net_after = Rose (Door.door_faults net) (Door.door_faults net_after)

-- A link over a connection carried these calls.
abbrev pub Wire : {Conn : Type 0} → a_source.Ghosts Conn → a_sink.Ghosts Conn → WireState Conn → WireState Conn → List Call → Type 0
Wire Source Sink = WireCarries Sink.taken Source.left Source.read_faults Sink.write_faults

-- ## The poller

-- A poller with this watch and this dice began over a link to this connection, and went on to where it is.
abbrev pub Begins : {Conn Dice : Type 0} → (WireState Conn → WireState Conn → List Call → Type 0) → Conn → Watch → Dice →
    PollState (WireState Conn) Dice → Type 0
Begins Carried conn watch dice poller = (fresh : PollState (WireState _) _) × (fresh.link ≡ record { conn = conn; pending = []; ended = false })
    × (fresh.watch ≡ watch) × (fresh.dice ≡ dice) × (fresh.taken ≡ 0) × (fresh.fault ≡ None) × WentOn (PollerTurn Carried) fresh poller

-- ## Workers

-- each worker's own settings, by its classes
abbrev pub own_settings : WorkSettings → List Bytes → Settings
own_settings settings = worker_settings settings.ident settings.order settings.prefetch

module _ {Rule Job : Type 0} {OfRule : Rule → Type 0} {OfJob : Job → Type 0} {Delays : Mut ((rule : Rule) × OfRule rule) (ℕ × Unit {0}) ℕ} where
  -- A worker with this team, this plain rule and this dice began over a link to this connection and joined, and this is it then.
  abbrev pub Starts : {Conn C D : Type 0} → (WireState Conn → WireState Conn → List Call → Type 0) → a_clock.Ghosts C →
      ((job : Job) × OfJob job → Option (List Run)) → Conn → (List Bytes → Settings) → Registry Job Rule OfJob OfRule Delays →
      DelayRule Rule OfRule Delays → D → WorkerThread (WireState Conn) C D Rule Job OfRule OfJob Delays → Type 0
  Starts Carried Clock runs conn own registry plain dice worker = (h : Hire (WireState _) _ _) × IsStarted Carried conn own h
      × (own_team h.fresh ≡ team_of runs registry) × (h.fresh.plain ≡ plain) × (h.fresh.dice ≡ dice)
      × (hired_worker Clock.moments runs worker ≡ h.joined)

  -- There are so many teams, rules and dice.
  abbrev pub HasOutfits : ℕ → Outfit Job Rule OfJob OfRule Delays → Type 0
  HasOutfits n outfit = (n ≤ length outfit.teams.items) × (n ≤ length outfit.rules.items) × (n ≤ length outfit.dice.items)

  -- a door, and the teams, plain rules and dice that no worker has yet
  abbrev pub office_of : {N Conn Ear : Type 0} → a_door.Ghosts N Conn Ear → ((job : Job) × OfJob job → Option (List Run)) →
      N → Outfit Job Rule OfJob OfRule Delays → Office Conn (DelayRule Rule OfRule Delays) Lcg
  office_of Door runs net outfit = office (told_by Door net) (teams_of runs outfit.teams.items) outfit.rules.items outfit.dice.items

  -- The next worker was hired, with these settings and over a connection of the door, and this is it once it joined.
  abbrev pub HiresNext : {N Conn Ear C : Type 0} → a_door.Ghosts N Conn Ear → a_source.Ghosts Conn → a_sink.Ghosts Conn → a_clock.Ghosts C →
      ((job : Job) × OfJob job → Option (List Run)) → WorkSettings → N → Outfit Job Rule OfJob OfRule Delays →
      WorkerThread (WireState Conn) C Lcg Rule Job OfRule OfJob Delays → N → Outfit Job Rule OfJob OfRule Delays → Type 0
  HiresNext Door Source Sink Clock runs settings net outfit worker net_after outfit_after = HiresOne (Wire Source Sink) (own_settings settings)
      (office_of Door runs net outfit) (hired_worker Clock.moments runs worker) (office_of Door runs net_after outfit_after)

  -- Workers were hired in order, with these settings, and these are they once they joined.
  abbrev pub HiresStaff : {N Conn Ear C : Type 0} → a_door.Ghosts N Conn Ear → a_source.Ghosts Conn → a_sink.Ghosts Conn → a_clock.Ghosts C →
      ((job : Job) × OfJob job → Option (List Run)) → WorkSettings → N → Outfit Job Rule OfJob OfRule Delays →
      Vec (WorkerThread (WireState Conn) C Lcg Rule Job OfRule OfJob Delays) Global → N → Outfit Job Rule OfJob OfRule Delays → Type 0
  HiresStaff Door Source Sink Clock runs settings net outfit staff net_after outfit_after = HiresAll (Wire Source Sink) (own_settings settings)
      (office_of Door runs net outfit) (hired_workers Clock.moments runs staff.items) (office_of Door runs net_after outfit_after)

  -- ## Turns in threads

  -- The workers went on with their turns, and each took no more than so many in all.
  abbrev pub StaffAdvances : {L C D : Type 0} → (L → L → List Call → Type 0) → a_clock.Ghosts C → ((job : Job) × OfJob job → Option (List Run)) →
      ℕ → List (WorkerThread L C D Rule Job OfRule OfJob Delays) → List (WorkerThread L C D Rule Job OfRule OfJob Delays) → Type 0
  StaffAdvances Carried Clock runs turns staff staff_after =
      AllZip (WorkerAdvances Carried Answers turns) (hired_workers Clock.moments runs staff) (hired_workers Clock.moments runs staff_after)

  -- Where none of them met a fault, the poller and the workers took at least so many turns.
  abbrev pub TookAll : {L C D E F G : Type 0} → ℕ → ℕ → PollerThread L C D → List (WorkerThread E F G Rule Job OfRule OfJob Delays) → Type 0
  TookAll polls turns poller staff = poller.fault ≡ None → All (λ w. w.processor.worker.ended ≡ false) staff →
      (polls ≤ poller.taken) × All (λ w. turns ≤ w.processor.tally.taken) staff

  -- The poller took turns, and so did each worker.
  abbrev pub Works : {L C D : Type 0} → (L → L → List Call → Type 0) → a_clock.Ghosts C → ((job : Job) × OfJob job → Option (List Run)) →
      PollerThread L C D → Vec (WorkerThread L C D Rule Job OfRule OfJob Delays) Global →
      PollerThread L C D → Vec (WorkerThread L C D Rule Job OfRule OfJob Delays) Global → Type 0
  Works Carried Clock runs poller staff poller_after staff_after = InThreads Carried Answers (own_poller Clock.moments poller)
      (own_poller Clock.moments poller_after) (hired_workers Clock.moments runs staff.items) (hired_workers Clock.moments runs staff_after.items)

  -- Where they had taken no more than so many turns, and none met a fault, they have taken exactly so many.
  abbrev pub Fills : {L C D : Type 0} → ℕ → ℕ → a_clock.Ghosts C → ((job : Job) × OfJob job → Option (List Run)) →
      PollerThread L C D → Vec (WorkerThread L C D Rule Job OfRule OfJob Delays) Global →
      PollerThread L C D → Vec (WorkerThread L C D Rule Job OfRule OfJob Delays) Global → Type 0
  Fills polls turns Clock runs poller staff poller_after staff_after =
      HaveAtMost polls turns (own_poller Clock.moments poller) (hired_workers Clock.moments runs staff.items) →
      AreWhole (own_poller Clock.moments poller_after) (hired_workers Clock.moments runs staff_after.items) →
      HaveTaken polls turns (own_poller Clock.moments poller_after) (hired_workers Clock.moments runs staff_after.items)

  -- The same from their beginning, where the settings have a number of turns: the workers take so many, and the poller one more.
  abbrev pub FillsSettings : {L C D : Type 0} → WorkSettings → a_clock.Ghosts C → ((job : Job) × OfJob job → Option (List Run)) →
      PollerThread L C D → Vec (WorkerThread L C D Rule Job OfRule OfJob Delays) Global →
      PollerThread L C D → Vec (WorkerThread L C D Rule Job OfRule OfJob Delays) Global → Type 0
  FillsSettings settings Clock runs poller staff poller_after staff_after = 0 < settings.turns →
      HaveAtMost 1 0 (own_poller Clock.moments poller) (hired_workers Clock.moments runs staff.items) →
      AreWhole (own_poller Clock.moments poller_after) (hired_workers Clock.moments runs staff_after.items) →
      HaveTaken (settings.turns + 1) settings.turns (own_poller Clock.moments poller_after) (hired_workers Clock.moments runs staff_after.items)

  -- Workers were hired with these settings, and they and the poller took turns. These are they afterwards.
  abbrev pub Employ : {N Conn Ear C : Type 0} → a_door.Ghosts N Conn Ear → a_source.Ghosts Conn → a_sink.Ghosts Conn → a_clock.Ghosts C →
      ((job : Job) × OfJob job → Option (List Run)) → WorkSettings → PollerThread (WireState Conn) C Lcg → PollerThread (WireState Conn) C Lcg →
      N → Outfit Job Rule OfJob OfRule Delays → N → Outfit Job Rule OfJob OfRule Delays →
      Vec (WorkerThread (WireState Conn) C Lcg Rule Job OfRule OfJob Delays) Global → Type 0
  Employ Door Source Sink Clock runs settings poller poller_after net outfit net_after outfit_after staff =
      Employs (Wire Source Sink) Answers (own_settings settings) (own_poller Clock.moments poller) (own_poller Clock.moments poller_after)
      (office_of Door runs net outfit) (office_of Door runs net_after outfit_after) (hired_workers Clock.moments runs staff.items)

  -- Where the settings have a number of turns, and none of them met a fault, there are as many workers as they say, and all took their turns.
  abbrev pub WorksThrough : {L C D : Type 0} → WorkSettings → a_clock.Ghosts C → ((job : Job) × OfJob job → Option (List Run)) →
      PollerThread L C D → Vec (WorkerThread L C D Rule Job OfRule OfJob Delays) Global → Type 0
  WorksThrough settings Clock runs poller staff = 0 < settings.turns →
      AreWhole (own_poller Clock.moments poller) (hired_workers Clock.moments runs staff.items) →
      AllWorked settings.threads settings.turns (own_poller Clock.moments poller) (hired_workers Clock.moments runs staff.items)

  -- ## What comes back

  -- Nothing came back yet.
  abbrev pub IsEmpty : Returns Job Rule OfJob OfRule Delays → Type 0
  IsEmpty returns = (returns.teams.items ≡ []) × (returns.tallies.items ≡ []) × (returns.faults.items ≡ []) × (returns.rules.items ≡ [])

  -- There is room for so many teams with their plain rules, and for what so many workers, the poller and the launcher give back.
  abbrev pub HasRoom : ℕ → ℕ → Returns Job Rule OfJob OfRule Delays → Type 0
  HasRoom teams workers returns = (teams ≤ vec_capacity returns.teams) × (workers ≤ vec_capacity returns.tallies)
      × (workers + 2 ≤ vec_capacity returns.faults) × (teams ≤ vec_capacity returns.rules)

  -- There is as much room as before.
  abbrev pub KeepsRoom : Returns Job Rule OfJob OfRule Delays → Returns Job Rule OfJob OfRule Delays → Type 0
  KeepsRoom returns returns_after = (vec_capacity returns_after.teams ≡ vec_capacity returns.teams)
      × (vec_capacity returns_after.tallies ≡ vec_capacity returns.tallies) × (vec_capacity returns_after.faults ≡ vec_capacity returns.faults)
      × (vec_capacity returns_after.rules ≡ vec_capacity returns.rules)

  -- what came back, the teams by what their jobs tell
  abbrev pub returned_in : ((job : Job) × OfJob job → Option (List Run)) → Returns Job Rule OfJob OfRule Delays →
      GivenBack (DelayRule Rule OfRule Delays)
  returned_in runs returns = returned (teams_of runs returns.teams.items) returns.rules.items returns.tallies.items returns.faults.items

  -- the counts of each worker
  abbrev pub counts_in : Returns Job Rule OfJob OfRule Delays → List Counts
  counts_in returns = map (λ t. t.counts) returns.tallies.items

  -- The worker left, its connection was left to the door, and it gave back what it had.
  abbrev pub Dismisses : {N Conn Ear C D : Type 0} → a_door.Ghosts N Conn Ear → a_source.Ghosts Conn → a_sink.Ghosts Conn → a_clock.Ghosts C →
      ((job : Job) × OfJob job → Option (List Run)) → WorkerThread (WireState Conn) C D Rule Job OfRule OfJob Delays →
      N → Returns Job Rule OfJob OfRule Delays → N → Returns Job Rule OfJob OfRule Delays → Type 0
  Dismisses Door Source Sink Clock runs worker net returns net_after returns_after = (gone : WorkState (WireState _) _ _)
      × Leaves (Wire Source Sink) (hired_worker Clock.moments runs worker) gone
      × Keeping (told_by Door net) gone.link.conn (told_by Door net_after)
      × Returned gone (returned_in runs returns) (returned_in runs returns_after)

  -- So did all of these, in their order.
  abbrev pub DismissesAll : {N Conn Ear C D : Type 0} → a_door.Ghosts N Conn Ear → a_source.Ghosts Conn → a_sink.Ghosts Conn → a_clock.Ghosts C →
      ((job : Job) × OfJob job → Option (List Run)) → Vec (WorkerThread (WireState Conn) C D Rule Job OfRule OfJob Delays) Global →
      N → Returns Job Rule OfJob OfRule Delays → N → Returns Job Rule OfJob OfRule Delays → Type 0
  DismissesAll Door Source Sink Clock runs staff net returns net_after returns_after = (gone : List (WorkState (WireState _) _ _))
      × AllZip (λ w gone. Leaves (Wire Source Sink) (hired_worker Clock.moments runs w) gone) staff.items gone
      × Each (λ a gone b. Keeping a gone.link.conn b) (told_by Door net) gone (told_by Door net_after)
      × AllReturned gone (returned_in runs returns) (returned_in runs returns_after)

  -- ## A process, and a launch

  -- What a process did by these settings once its poller had taken its first turn.
  abbrev pub RunsProcess : {N Conn Ear C : Type 0} → a_door.Ghosts N Conn Ear → a_source.Ghosts Conn → a_sink.Ghosts Conn → a_clock.Ghosts C →
      ((job : Job) × OfJob job → Option (List Run)) → WorkSettings → PollerThread (WireState Conn) C Lcg →
      N → Outfit Job Rule OfJob OfRule Delays → N → Returns Job Rule OfJob OfRule Delays → Type 0
  RunsProcess Door Source Sink Clock runs settings poller net outfit net_after returns =
      Process (Wire Source Sink) Answers (Failed Door net net_after) (own_settings settings) settings.threads settings.turns
      (own_poller Clock.moments poller) (office_of Door runs net outfit) (told_by Door net_after) returns.faults.items (counts_in returns)

  -- Where there was no fault, the jobs that were done are the runs that the teams told and that returned.
  abbrev pub DoneByTeams : ((job : Job) × OfJob job → Option (List Run)) → Outfit Job Rule OfJob OfRule Delays → Returns Job Rule OfJob OfRule Delays → Type 0
  DoneByTeams runs outfit returns = returns.faults.items ≡ [] →
      HaveReturned (teams_of runs outfit.teams.items) (teams_of runs returns.teams.items) (done_in (counts_in returns))

  -- What one launch did with a door and teams, as they were before and after, by these settings and plain rules, and what it answered. Its dice was
  -- going to give the first words, and then the others.
  abbrev pub LaunchesBy : {N Conn Ear : Type 0} → a_door.Ghosts N Conn Ear → a_source.Ghosts Conn → a_sink.Ghosts Conn →
      ((job : Job) × OfJob job → Option (List Run)) → Option (ℕ → ℕ) → Option (ℕ → ℕ) → Vec (DelayRule Rule OfRule Delays) Global →
      N → Vec (Registry Job Rule OfJob OfRule Delays) Global → N → Vec (Registry Job Rule OfJob OfRule Delays) Global →
      WorkSettings → Result Counts LaunchFault → Type 0
  LaunchesBy Door Source Sink runs words words_after rules net teams net_after teams_after settings result =
      Launched (Wire Source Sink) Answers (Failed Door net net_after) settings rules.items
      (given (told_by Door net) (teams_of runs teams.items) words) (given (told_by Door net_after) (teams_of runs teams_after.items) words_after) result

  -- A launch with these settings ended so, with a door, the words that a dice was going to give, and teams, as they were before and after, where so many
  -- turns had been counted before it.
  abbrev pub EndedBy : {N Conn Ear : Type 0} → a_door.Ghosts N Conn Ear → a_source.Ghosts Conn → a_sink.Ghosts Conn →
      ((job : Job) × OfJob job → Option (List Run)) → List (DelayRule Rule OfRule Delays) → WorkSettings → Counts →
      N × Option (ℕ → ℕ) × Vec (Registry Job Rule OfJob OfRule Delays) Global → LaunchEnd →
      N × Option (ℕ → ℕ) × Vec (Registry Job Rule OfJob OfRule Delays) Global → Type 0
  EndedBy Door Source Sink runs rules settings sum (net, words, teams) end (net_after, words_after, teams_after) =
      LaunchEnded (Wire Source Sink) Answers (Failed Door net net_after) settings rules
      (given (told_by Door net) (teams_of runs teams.items) words) (given (told_by Door net_after) (teams_of runs teams_after.items) words_after) sum end

  -- The same, with this dice.
  abbrev pub Ended : {N Conn Ear D : Type 0} → a_door.Ghosts N Conn Ear → a_source.Ghosts Conn → a_sink.Ghosts Conn → a_dice.Ghosts D →
      ((job : Job) × OfJob job → Option (List Run)) → Vec (DelayRule Rule OfRule Delays) Global → WorkSettings → Counts →
      N → D → Vec (Registry Job Rule OfJob OfRule Delays) Global → LaunchEnd → N → D → Vec (Registry Job Rule OfJob OfRule Delays) Global → Type 0
  Ended Door Source Sink Dice runs rules settings sum net dice teams end net_after dice_after teams_after =
      EndedBy Door Source Sink runs rules.items settings sum (net, Dice.words dice, teams) end (net_after, Dice.words dice_after, teams_after)

  -- ## Launches one after another

  -- The n-th of the launches with these settings ended so.
  abbrev pub EndedAt : {N Conn Ear : Type 0} → a_door.Ghosts N Conn Ear → a_source.Ghosts Conn → a_sink.Ghosts Conn →
      ((job : Job) × OfJob job → Option (List Run)) → List (DelayRule Rule OfRule Delays) → WorkSettings → ℕ → Counts →
      N × Option (ℕ → ℕ) × Vec (Registry Job Rule OfJob OfRule Delays) Global → LaunchEnd →
      N × Option (ℕ → ℕ) × Vec (Registry Job Rule OfJob OfRule Delays) Global → Type 0
  EndedAt Door Source Sink runs rules settings n sum before end after =
      (own : WorkSettings) × IsSettingsAt settings n own × EndedBy Door Source Sink runs rules own sum before end after

  -- Launches with these settings and plain rules were made one after another, with a door and teams, as they were before and after, and this came of
  -- it; without patience it was one. The dice was going to give the first words, and then the others.
  abbrev pub LaunchesAll : {N Conn Ear : Type 0} → a_door.Ghosts N Conn Ear → a_source.Ghosts Conn → a_sink.Ghosts Conn →
      ((job : Job) × OfJob job → Option (List Run)) → Option (ℕ → ℕ) → Option (ℕ → ℕ) → Vec (DelayRule Rule OfRule Delays) Global →
      N → Vec (Registry Job Rule OfJob OfRule Delays) Global → N → Vec (Registry Job Rule OfJob OfRule Delays) Global →
      WorkSettings → Result Counts LaunchFault → Type 0
  LaunchesAll Door Source Sink runs words words_after rules net teams net_after teams_after settings result =
      Outlasts (EndedAt Door Source Sink runs rules.items settings) settings.patience (net, words, teams) (net_after, words_after, teams_after) result
      × (settings.patience ≡ 0 → LaunchesBy Door Source Sink runs words words_after rules net teams net_after teams_after settings result)

  -- The same, with this dice.
  abbrev pub Launches : {N Conn Ear D : Type 0} → a_door.Ghosts N Conn Ear → a_source.Ghosts Conn → a_sink.Ghosts Conn → a_dice.Ghosts D →
      ((job : Job) × OfJob job → Option (List Run)) → Vec (DelayRule Rule OfRule Delays) Global →
      N → D → Vec (Registry Job Rule OfJob OfRule Delays) Global → N → D → Vec (Registry Job Rule OfJob OfRule Delays) Global →
      WorkSettings → Result Counts LaunchFault → Type 0
  Launches Door Source Sink Dice runs rules net dice teams net_after dice_after teams_after settings result =
      LaunchesAll Door Source Sink runs (Dice.words dice) (Dice.words dice_after) rules net teams net_after teams_after settings result
