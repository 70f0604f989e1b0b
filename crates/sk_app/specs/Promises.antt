-- What the programs promise, by the traits of the sink, of the door and its connections, of the clock and of the dice.
use denote.Param.Members.{Mut}
use Rattle.std.specs.Prelude.{◌≡◌, ◌≢◌, ◌⊎◌, ◌∷◌, [], ℕ, List, Option, Some, Result, IfOk, map, string_bytes, vec_len}
use Rattle.std.specs.declared.alloc.Global.{Global}
use Rattle.std.specs.declared.string.String.{String}
use Rattle.std.specs.declared.vec.Vec.{Vec}
use Rattle.sk_base.specs.Outside.{Rose}
use Rattle.sk_base.specs.Yields.{Yields, YieldsAll}
use Rattle.sk_base.specs.declared.clock.Clock as a_clock
use Rattle.sk_base.specs.declared.dice.Dice as a_dice
use Rattle.sk_base.specs.declared.sink.Sink as a_sink
use Rattle.sk_base.specs.declared.source.Source as a_source
use Rattle.sk_disk.specs.declared.disk.Disk as a_disk
use Rattle.sk_disk.specs.declared.shelf.Shelf as a_shelf
use Rattle.sk_edge.specs.declared.door.Door as a_door
use Rattle.sk_edge.specs.declared.door.Ear as an_ear
use Rattle.sk_resp.specs.Spelling.{Bytes}
use Rattle.sk_link.specs.Call.{Call}
use Rattle.sk_launcher.specs.Promises.{LaunchesAll}
use Rattle.sk_launcher.specs.declared.counts.Counts.{Counts}
use Rattle.sk_launcher.specs.declared.launch_fault.LaunchFault.{LaunchFault}
use Rattle.sk_launcher.specs.declared.work_settings.WorkSettings.{WorkSettings}
use Rattle.sk_line.specs.Drill.{IsDrill}
use Rattle.sk_line.specs.Iterate.{IsIterate}
use Rattle.sk_line.specs.Limit.{IsLimit}
use Rattle.sk_line.specs.Lines.{IsServe, IsStatus}
use Rattle.sk_line.specs.Work.{IsWork}
use Rattle.sk_line.specs.declared.drill_line.DrillLine.{DrillLine}
use Rattle.sk_line.specs.declared.limit_line.LimitLine.{LimitLine}
use Rattle.sk_line.specs.declared.push_line.PushLine.{PushLine}
use Rattle.sk_line.specs.declared.serve_line.ServeLine.{ServeLine}
use Rattle.sk_line.specs.declared.status_line.StatusLine.{StatusLine}
use Rattle.sk_middle.specs.declared.chain.Through.{Through}
use Rattle.sk_payload.specs.declared.draft.JobDraft.{JobDraft}
use Rattle.sk_pipe.specs.Run.{Completes, IsPiped, shipped, status_of}
use Rattle.sk_pipe.specs.declared.pipe_end.PipeEnd.{PipeEnd}
use Rattle.sk_policy.specs.declared.delay.DelayRule.{DelayRule}
use Rattle.sk_serve.specs.Attending.{IsAtOnce}
use Rattle.sk_serve.specs.Server.{HasEnded}
use Rattle.sk_serve.specs.declared.serve_end.ServeEnd.{ServeEnd}
use Rattle.sk_worker.specs.Run.{Run}
use Rattle.sk_worker.specs.declared.registry.Registry.{Registry}
use Rattle.sk_app.specs.Completing.{Breaks, DoneOr, PushHindered, ServeHindered, StatusHindered, WorkHindered}
use Rattle.sk_app.specs.Dialogue.{Dials}
use Rattle.sk_app.specs.Ending.{Ends}
use Rattle.sk_app.specs.Jobs.{Draws, IsJob}
use Rattle.sk_app.specs.Hindering.{FailsOver}
use Rattle.sk_app.specs.Iterating.{Runs}
use Rattle.sk_app.specs.Limiting.{LimitRun, Limits}
use Rattle.sk_app.specs.LogServing.{LogServeEnds}
use Rattle.sk_app.specs.Logging.{LogCauses, LogDone, LogEnds}
use Rattle.sk_app.specs.Paging.{Asks}
use Rattle.sk_app.specs.Programs.{program_of}
use Rattle.sk_app.specs.Pushing.{PushRun, Pushes}
use Rattle.sk_app.specs.Questions.{QuestionRun}
use Rattle.sk_app.specs.Serving.{ServeRun}
use Rattle.sk_app.specs.Working.{WorkRun}
use Rattle.sk_app.specs.declared.failure.Failure.{Failure}
use Rattle.sk_app.specs.declared.job.PushJob.{PushJob}
use Rattle.sk_app.specs.declared.limit.Asked.{Asked}
use Rattle.sk_app.specs.declared.program.Program.{Program}
use Rattle.sk_app.specs.declared.program.Program.TheVariants.{Limit, LogPipe, LogServe, Serve, Work}

-- ## The words of a command line

abbrev pub texts : {A : Type 0} → List (String A) → List Bytes
texts words = map string_bytes words

-- The first word names the program.
abbrev pub Names : {A : Type 0} → List (String A) → Program → Type 0
Names words program = program_of (texts words) ≡ Some program

-- ## pipe

-- The source was piped to the sink, and the status tells how that ended.
abbrev pub Pipes : {S K : Type 0} → a_source.Ghosts S → a_sink.Ghosts K → S → K → S → K → ℕ → Type 0
Pipes Source Sink source sink source_after sink_after status = (end : PipeEnd) × (status ≡ status_of end)
    × IsPiped shipped Source.left Source.read_faults Sink.taken Sink.write_faults source source_after sink sink_after end

-- Input that is commands end to end is done to its end, or to a QUIT or SHUTDOWN, where neither count of faults rises.
abbrev pub PipeDone : {S K : Type 0} → a_source.Ghosts S → a_sink.Ghosts K → S → K → S → K → ℕ → Type 0
PipeDone Source Sink source sink source_after sink_after status = Completes (Source.left source)
    (Rose (Source.read_faults source) (Source.read_faults source_after) ⊎ Rose (Sink.write_faults sink) (Sink.write_faults sink_after)) status

-- ## pipe --log

module _ {S K H D A : Type 0} (Source : a_source.Ghosts S) (Sink : a_sink.Ghosts K) (Shelf : a_shelf.Ghosts H D) (Disk : a_disk.Ghosts D)
    (words : List (String A)) (source : S) (sink : K) (shelf : H) (source_after : S) (sink_after : K) (shelf_after : H) (status : ℕ) where
  -- Where the words name it, a pipe over the file of its line ended so.
  abbrev pub Logs : Type 0
  Logs = Names words LogPipe → LogEnds Source Sink Shelf Disk (texts words) source sink shelf source_after sink_after shelf_after status

  -- Its input is done, where neither count of faults rises and the file doesn't hinder it.
  abbrev pub LogsDone : Type 0
  LogsDone = Names words LogPipe → LogDone Source Sink Shelf Disk (texts words) source sink shelf source_after sink_after shelf_after status

  -- A status above 9 has its cause.
  abbrev pub LogsCaused : Type 0
  LogsCaused = Names words LogPipe → LogCauses Source Sink Shelf Disk source sink shelf source_after sink_after shelf_after status

-- ## serve

module _ {N Conn Ear C : Type 0} (Door : a_door.Ghosts N Conn Ear) (OfEar : an_ear.Ghosts Ear Conn) (Source : a_source.Ghosts Conn) (Sink : a_sink.Ghosts Conn)
    (Clock : a_clock.Ghosts C) where
  -- A server by the line ended so.
  abbrev pub ServerEnds : N → N → ServeLine → ServeEnd → Type 0
  ServerEnds net net_after line how = HasEnded Door OfEar (IsAtOnce Source Sink Clock) line.sessions line.loops net net_after how

  -- What `serve` did for these words, and came to.
  abbrev pub DoServe : {A : Type 0} → List (String A) → N → N → Result Bytes Failure → Type 0
  DoServe words net net_after outcome = ServeRun (texts words) (net_after ≡ net) (ServerEnds net net_after) outcome

  -- A line of `serve` is done, unless the door or an ear fails or seats are used up, where the sink takes the summary.
  abbrev pub ServeDone : {A : Type 0} → List (String A) → N → N → ℕ → Type 0
  ServeDone words net net_after status = (line : ServeLine) → IsServe (texts words) line → status ≢ 4 →
      DoneOr (ServeHindered (texts words) (ServerEnds net net_after)) status

-- Where the words name `serve`, it did that, and so the program ended.
abbrev pub Served : {K N Conn Ear C A : Type 0} → a_sink.Ghosts K → a_door.Ghosts N Conn Ear → an_ear.Ghosts Ear Conn → a_source.Ghosts Conn →
    a_sink.Ghosts Conn → a_clock.Ghosts C → List (String A) → K → N → K → N → ℕ → Type 0
Served OfSink Door OfEar Source Sink Clock words sink net sink_after net_after status =
    Names words Serve → Ends OfSink sink sink_after status (DoServe Door OfEar Source Sink Clock words net net_after)

-- ## serve --log

module _ {N Conn Ear C D H A : Type 0} (Door : a_door.Ghosts N Conn Ear) (OfEar : an_ear.Ghosts Ear Conn) (Source : a_source.Ghosts Conn)
    (OfConn : a_sink.Ghosts Conn) (Clock : a_clock.Ghosts C) (Disk : a_disk.Ghosts D) (Shelf : a_shelf.Ghosts H D) where
  -- Where the words name it, a server over the file of its line ended so.
  abbrev pub LogServes : {K : Type 0} → a_sink.Ghosts K → List (String A) → K → N → H → K → N → H → ℕ → Type 0
  LogServes Sink words sink net shelf sink_after net_after shelf_after status = Names words LogServe →
      LogServeEnds Door OfEar Source OfConn Clock Disk Shelf Sink words sink net shelf sink_after net_after shelf_after status

-- ## work

module _ {Rule Job : Type 0} {OfRule : Rule → Type 0} {OfJob : Job → Type 0} {Delays : Mut ((rule : Rule) × OfRule rule) (ℕ × Unit {0}) ℕ} where
  -- What launches did with a door and teams, by these settings and plain rules, whatever words their dice was going to give.
  abbrev pub LaunchesTeams : {N Conn Ear : Type 0} → a_door.Ghosts N Conn Ear → a_source.Ghosts Conn → a_sink.Ghosts Conn →
      ((job : Job) × OfJob job → Option (List Run)) → Vec (DelayRule Rule OfRule Delays) Global →
      N → Vec (Registry Job Rule OfJob OfRule Delays) Global → N → Vec (Registry Job Rule OfJob OfRule Delays) Global →
      WorkSettings → Result Counts LaunchFault → Type 0
  LaunchesTeams Door Source Sink runs rules net teams net_after teams_after settings how = (words words_after : Option (ℕ → ℕ))
      × LaunchesAll Door Source Sink runs words words_after rules net teams net_after teams_after settings how

  -- What `work` did for these words with a door and teams, and with these plain rules, and came to.
  abbrev pub DoWork : {N Conn Ear A : Type 0} → a_door.Ghosts N Conn Ear → a_source.Ghosts Conn → a_sink.Ghosts Conn →
      ((job : Job) × OfJob job → Option (List Run)) → List (String A) → Vec (DelayRule Rule OfRule Delays) Global →
      N → Vec (Registry Job Rule OfJob OfRule Delays) Global → N → Vec (Registry Job Rule OfJob OfRule Delays) Global → Result Bytes Failure → Type 0
  DoWork Door Source Sink runs words rules net teams net_after teams_after outcome =
      WorkRun (vec_len teams) (texts words) ((net_after ≡ net) × (teams_after ≡ teams))
      (λ settings how. LaunchesTeams Door Source Sink runs rules net teams net_after teams_after settings how) outcome

  -- It did that, and so the program ended.
  abbrev pub WorkEnds : {N Conn Ear K A : Type 0} → a_sink.Ghosts K → a_door.Ghosts N Conn Ear → a_source.Ghosts Conn → a_sink.Ghosts Conn →
      ((job : Job) × OfJob job → Option (List Run)) → List (String A) → Vec (DelayRule Rule OfRule Delays) Global →
      K → N → Vec (Registry Job Rule OfJob OfRule Delays) Global → K → N → Vec (Registry Job Rule OfJob OfRule Delays) Global → ℕ → Type 0
  WorkEnds OfSink Door Source Sink runs words rules sink net teams sink_after net_after teams_after status =
      Ends OfSink sink sink_after status (DoWork Door Source Sink runs words rules net teams net_after teams_after)

  -- Where the words name `work`, it ended so.
  abbrev pub Worked : {N Conn Ear K A : Type 0} → a_sink.Ghosts K → a_door.Ghosts N Conn Ear → a_source.Ghosts Conn → a_sink.Ghosts Conn →
      ((job : Job) × OfJob job → Option (List Run)) → List (String A) → Vec (DelayRule Rule OfRule Delays) Global →
      K → N → Vec (Registry Job Rule OfJob OfRule Delays) Global → K → N → Vec (Registry Job Rule OfJob OfRule Delays) Global → ℕ → Type 0
  Worked OfSink Door Source Sink runs words rules sink net teams sink_after net_after teams_after status =
      Names words Work → WorkEnds OfSink Door Source Sink runs words rules sink net teams sink_after net_after teams_after status

  -- A line of `work` is done, unless a fault ends its turns, where the sink takes the counts.
  abbrev pub WorkDone : {N Conn Ear A : Type 0} → a_door.Ghosts N Conn Ear → a_source.Ghosts Conn → a_sink.Ghosts Conn →
      ((job : Job) × OfJob job → Option (List Run)) → List (String A) → N → Vec (Registry Job Rule OfJob OfRule Delays) Global →
      N → Vec (Registry Job Rule OfJob OfRule Delays) Global → ℕ → Type 0
  WorkDone Door Source Sink runs words net teams net_after teams_after status = (settings : WorkSettings) →
      IsWork (vec_len teams) (texts words) settings → status ≢ 4 → DoneOr (WorkHindered (vec_len teams) (texts words)
      (λ settings how. (rules : _) × LaunchesTeams Door Source Sink runs rules net teams net_after teams_after settings how)) status

-- ## push

-- The clock and the dice gave what the line's job is made of.
abbrev pub MakesJob : {C D E : Type 0} → a_clock.Ghosts C → a_dice.Ghosts D → C → D → C → D → PushLine → Result PushJob E → Type 0
MakesJob Clock Dice clock dice clock_after dice_after line made = (now_ first second : ℕ)
    × Yields (Clock.moments clock) now_ (Clock.moments clock_after)
    × YieldsAll (Dice.words dice) (first ∷ second ∷ []) (Dice.words dice_after) × IfOk made (IsJob line now_ first second)

-- What `push` did for these words by a chain, and came to.
abbrev pub DoPush : {N Conn Ear C D A : Type 0} → a_door.Ghosts N Conn Ear → a_source.Ghosts Conn → a_sink.Ghosts Conn → a_clock.Ghosts C → a_dice.Ghosts D →
    List (String A) → (JobDraft → Through → Type 0) → N → C → D → N → C → D → Result Bytes Failure → Type 0
DoPush Door Source Sink Clock Dice words Applied net clock dice net_after clock_after dice_after outcome = PushRun (texts words) (net_after ≡ net)
    (Draws Clock Dice clock dice clock_after dice_after) Applied
    (λ job outcome. Dials Door Source Sink net net_after (λ carried. Pushes carried job) outcome) outcome

-- A job is pushed, held or stopped, unless the door fails or its request isn't answered, where the sink takes what is told.
abbrev pub PushDone : {N Conn Ear : Type 0} → a_door.Ghosts N Conn Ear → a_source.Ghosts Conn → a_sink.Ghosts Conn → N → N → ℕ → Type 0
PushDone Door Source Sink net net_after status = status ≢ 2 → status ≢ 4 → DoneOr (PushHindered Door Source Sink net net_after) status

-- ## Programs that ask a store one thing

module _ {N Conn Ear Line : Type 0} (Door : a_door.Ghosts N Conn Ear) (Source : a_source.Ghosts Conn) (Sink : a_sink.Ghosts Conn) (IsLine : Line → Type 0) where
  -- What such a program did, and came to.
  abbrev pub DoAsk : (Line → (List Call → Type 0) → Result Bytes Failure → Type 0) → N → N → Result Bytes Failure → Type 0
  DoAsk Asks net net_after outcome = QuestionRun IsLine (net_after ≡ net) (λ line outcome. Dials Door Source Sink net net_after (Asks line) outcome) outcome

  -- A line of it is done, unless the door fails or its question does, where the sink takes what is told.
  abbrev pub AskDone : (Line → (List Call → Type 0) → Result Bytes Failure → Type 0) → N → N → ℕ → Type 0
  AskDone Asks net net_after status = (line : Line) → IsLine line → status ≢ 4 →
      DoneOr ((asked : Line) × IsLine asked × Breaks Door Source Sink net net_after (FailsOver (Asks asked))) status

-- What `status` did for these words, and came to.
abbrev pub DoStatus : {N Conn Ear A : Type 0} → a_door.Ghosts N Conn Ear → a_source.Ghosts Conn → a_sink.Ghosts Conn → List (String A) → N → N →
    Result Bytes Failure → Type 0
DoStatus Door Source Sink words net net_after outcome = DoAsk Door Source Sink (IsStatus (texts words)) (λ line. Asks) net net_after outcome

-- A line of `status` is done, unless the door fails or its request gets no page, where the sink takes the page.
abbrev pub StatusDone : {N Conn Ear A : Type 0} → a_door.Ghosts N Conn Ear → a_source.Ghosts Conn → a_sink.Ghosts Conn → List (String A) → N → N →
    ℕ → Type 0
StatusDone Door Source Sink words net net_after status = (line : StatusLine) → IsStatus (texts words) line → status ≢ 4 →
    DoneOr (StatusHindered Door Source Sink net net_after) status

-- ## limit

-- The dice gave these two words.
abbrev pub DrawsTwo : {D : Type 0} → a_dice.Ghosts D → D → D → ℕ → ℕ → Type 0
DrawsTwo Dice dice dice_after first second = YieldsAll (Dice.words dice) (first ∷ second ∷ []) (Dice.words dice_after)

-- What `limit` did for these words, and came to.
abbrev pub DoLimit : {N Conn Ear D A : Type 0} → a_door.Ghosts N Conn Ear → a_source.Ghosts Conn → a_sink.Ghosts Conn → a_dice.Ghosts D →
    List (String A) → N → D → N → D → Result Bytes Failure → Type 0
DoLimit Door Source Sink Dice words net dice net_after dice_after outcome = LimitRun (texts words) (net_after ≡ net) (DrawsTwo Dice dice dice_after)
    (λ asked outcome. Dials Door Source Sink net net_after (Limits asked) outcome) outcome

-- It did that, and so the program ended.
abbrev pub LimitEnds : {K N Conn Ear D A : Type 0} → a_sink.Ghosts K → a_door.Ghosts N Conn Ear → a_source.Ghosts Conn → a_sink.Ghosts Conn →
    a_dice.Ghosts D → List (String A) → K → N → D → K → N → D → ℕ → Type 0
LimitEnds OfSink Door Source Sink Dice words sink net dice sink_after net_after dice_after status =
    Ends OfSink sink sink_after status (DoLimit Door Source Sink Dice words net dice net_after dice_after)

-- Where the words name `limit`, it ended so.
abbrev pub Limited : {K N Conn Ear D A : Type 0} → a_sink.Ghosts K → a_door.Ghosts N Conn Ear → a_source.Ghosts Conn → a_sink.Ghosts Conn →
    a_dice.Ghosts D → List (String A) → K → N → D → K → N → D → ℕ → Type 0
Limited OfSink Door Source Sink Dice words sink net dice sink_after net_after dice_after status =
    Names words Limit → LimitEnds OfSink Door Source Sink Dice words sink net dice sink_after net_after dice_after status

-- A line of `limit` is done, unless the door fails or one of its requests does, where the sink takes what is told.
abbrev pub LimitDone : {N Conn Ear A : Type 0} → a_door.Ghosts N Conn Ear → a_source.Ghosts Conn → a_sink.Ghosts Conn → List (String A) → N → N →
    ℕ → Type 0
LimitDone Door Source Sink words net net_after status = (line : LimitLine) → IsLimit (texts words) line → status ≢ 4 →
    DoneOr ((asked : Asked) × IsLimit (texts words) asked.line × Breaks Door Source Sink net net_after (FailsOver (Limits asked))) status

-- ## iterate

-- What `iterate` did for these words, and came to.
abbrev pub DoIterate : {N Conn Ear A : Type 0} → a_door.Ghosts N Conn Ear → a_source.Ghosts Conn → a_sink.Ghosts Conn → List (String A) → N → N →
    Result Bytes Failure → Type 0
DoIterate Door Source Sink words net net_after outcome = DoAsk Door Source Sink (IsIterate (texts words)) Runs net net_after outcome

-- A line of `iterate` is done, unless the door fails, a request is spoilt, or the cursor is no number of an item, where the sink takes what is told.
abbrev pub IterateDone : {N Conn Ear A : Type 0} → a_door.Ghosts N Conn Ear → a_source.Ghosts Conn → a_sink.Ghosts Conn → List (String A) → N → N →
    ℕ → Type 0
IterateDone Door Source Sink words net net_after status = AskDone Door Source Sink (IsIterate (texts words)) Runs net net_after status

-- ## drill

-- A line of `drill` is done, where the sink takes the summary, or its threads' stories and the journal differ.
abbrev pub DrillDone : {A : Type 0} → ℕ → List (String A) → ℕ → Type 0
DrillDone teams words status = (line : DrillLine) → IsDrill teams (texts words) line → status ≢ 4 → DoneOr (status ≡ 8) status
