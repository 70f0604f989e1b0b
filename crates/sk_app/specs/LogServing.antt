-- The program `serve --log`.
use Rattle.std.specs.Prelude.{◌≡◌, ◌⊎◌, ◌≤◌, ℕ, List, Option, Some, None, Result, Ok, Err, IfSome, IsSomeAnd, map, string_bytes}
use Rattle.std.specs.declared.string.String.{String}
use Rattle.clap.specs.Words.{Text}
use Rattle.sk_aof.specs.Accepted.{Refuses, Runs}
use Rattle.sk_aof.specs.Piping.{IsNoLog, IsReady, StopsBefore}
use Rattle.sk_base.specs.Outside.{Rose}
use Rattle.sk_base.specs.declared.clock.Clock as a_clock
use Rattle.sk_base.specs.declared.sink.Sink as a_sink
use Rattle.sk_base.specs.declared.source.Source as a_source
use Rattle.sk_disk.specs.Shelves.{Gives}
use Rattle.sk_disk.specs.declared.disk.Disk as a_disk
use Rattle.sk_disk.specs.declared.shelf.Shelf as a_shelf
use Rattle.sk_durable.specs.Serving.{KeptServerEnds, OutlivesCrashes, Waited, is_always}
use Rattle.sk_durable.specs.declared.server.KeptFault.{KeptFault}
use Rattle.sk_durable.specs.declared.server.KeptFault.TheVariants as kept
use Rattle.sk_edge.specs.declared.door.Door as a_door
use Rattle.sk_edge.specs.declared.door.Ear as an_ear
use Rattle.sk_line.specs.LogServe.{IsLogServe}
use Rattle.sk_line.specs.declared.log_serve_line.LogServeLine.{LogServeLine}
use Rattle.sk_log.specs.File.{IsAt}
use Rattle.sk_log.specs.Reading.{IsDamaged}
use Rattle.sk_log.specs.declared.fault.LogFault.{LogFault}
use Rattle.sk_log.specs.declared.fault.LogFault.TheVariants as fault
use Rattle.sk_model.specs.World.{World, first}
use Rattle.sk_pipe.specs.Run.{shipped}
use Rattle.sk_resp.specs.Spelling.{Bytes}
use Rattle.sk_serve.specs.declared.serve_end.Served.{Served}
use Rattle.sk_app.specs.LogOutcomes.{fault_line_of}
use Rattle.sk_app.specs.LogServeOutcomes.{LogServeOutcome, Tells}
use Rattle.sk_app.specs.Serving.{summary_text}
use Rattle.sk_app.specs.declared.unserved.Unserved.TheVariants as unserved

-- The words are no line of `serve --log`, or there was no memory to read them; then nothing was done. Or the shelf gave no file for the line; or it gave
-- one, and this came of it.
pub data LogServeRun (words : List Text) (Untouched Closed : Type 0) (Opened : LogServeLine → LogServeOutcome → Type 0) : LogServeOutcome → Type 0 where
  refused : ((line : LogServeLine) → IsLogServe words line → ⊥) → Untouched → LogServeRun words Untouched Closed Opened (Err unserved.Line)
  starved : Untouched → LogServeRun words Untouched Closed Opened (Err unserved.Memory)
  closed : (line : LogServeLine) → IsLogServe words line → Closed → LogServeRun words Untouched Closed Opened (Err unserved.Shelf)
  opened : (line : LogServeLine) (outcome : LogServeOutcome) → IsLogServe words line → Opened line outcome → LogServeRun words Untouched Closed Opened outcome

-- a status of it
abbrev pub IsOneOf : ℕ → Type 0
IsOneOf status = (status ≡ 0) ⊎ (status ≡ 2) ⊎ (status ≡ 4) ⊎ (status ≡ 5) ⊎ (status ≡ 6) ⊎ (status ≡ 10) ⊎ (status ≡ 11) ⊎ (status ≡ 12)

-- The words are no line of it.
abbrev pub IsNoLine : {A : Type 0} → List (String A) → Type 0
IsNoLine words = (line : LogServeLine) → IsLogServe (map string_bytes words) line → ⊥

-- ## The file

module _ {H D : Type 0} (Shelf : a_shelf.Ghosts H D) where
  -- The file that was given back stands on the shelf; where none was, nothing was left on it.
  abbrev pub Leaves : H → Option D → H → Type 0
  Leaves without None shelf' = shelf' ≡ without
  Leaves without (Some disk) shelf' = IfSome (Shelf.stands shelf') (λ it. it ≡ Some disk)

  -- The shelf gave the file, and was left what was given back of it.
  pub record LendsFile (shelf shelf' : H) (disk : D) (back : Option D) : Type 0 where
    pub without : H
    pub given : Gives (Shelf.stands shelf) disk (Shelf.stands without)
    pub left : Leaves without back shelf'
    pub whole : Shelf.shelf_faults shelf' ≡ Shelf.shelf_faults shelf

module _ {D : Type 0} (Disk : a_disk.Ghosts D) where
  -- No store could be made ready of the file.
  pub record IsUnready (disk disk' : D) (why : LogFault) : Type 0 where
    pub stops : StopsBefore Disk.reads Disk.may_leave Disk.moment Disk.left_since shipped disk disk' why
    pub not_a_log : why ≡ fault.NotALog → (c : List ℕ) → Disk.reads disk c → IsNoLog c
    pub damaged : (at : ℕ) → why ≡ fault.Damaged at → IsDamaged Runs Refuses (Disk.reads disk) at (first shipped)
    pub failed : why ≡ fault.Disk → Rose (Disk.disk_faults disk) (Disk.disk_faults disk')

module _ {H D : Type 0} (Shelf : a_shelf.Ghosts H D) (Disk : a_disk.Ghosts D) where
  -- No store could be made ready of the shelf's file, for this cause.
  abbrev pub StaysUnready : H → H → LogFault → Type 0
  StaysUnready shelf shelf' why = (disk disk' : D) × LendsFile Shelf shelf shelf' disk (Some disk') × IsUnready Disk disk disk' why

  -- The shelf's file failed: its count of faults rose, and it was given back.
  abbrev pub FileFails : H → H → Type 0
  FileFails shelf shelf' = (disk disk' : D) × LendsFile Shelf shelf shelf' disk (Some disk') × Rose (Disk.disk_faults disk) (Disk.disk_faults disk')

-- ## The server

module _ {N C E K D : Type 0} (Door : a_door.Ghosts N C E) (Ear : an_ear.Ghosts E C) (Source : a_source.Ghosts C) (Sink : a_sink.Ghosts C)
    (Clock : a_clock.Ghosts K) (Disk : a_disk.Ghosts D) where
  -- A server by the line, over the store that was made ready of the file, ended so, and gave this back. Its replies waited for a settler: where the line
  -- says always, until all that was logged was in the file. Whatever a crash meanwhile left is a log of what the file was and, behind that, of what a log
  -- keeps of a run of the store.
  pub record ServesFile (line : LogServeLine) (disk : D) (net net' : N) (back : Option D) (end : Result Served KeptFault) : Type 0 where
    pub store : ℕ × World
    pub begun : D
    pub ready : IsReady Disk.reads Disk.may_leave Disk.moment Disk.left_since shipped disk store begun
    pub ended : KeptServerEnds Disk.may_leave Disk.disk_faults Ear (Waited (is_always line.sync_every) store.1 Source Sink Clock)
        (λ events. IsAt events store.0 (Disk.may_leave begun)) store.1 (Disk.disk_faults begun) Door line.sessions line.loops net net' end back
    pub left : OutlivesCrashes Disk store.0 store.1 begun back
    pub later : Disk.disk_faults disk ≤ Disk.disk_faults begun

  -- What came of the file: the server ended, and this is its summary; or there was no memory for that; or it ended by a fault; or there was no server.
  abbrev pub OverFile : LogServeLine → D → N → N → Option D → LogServeOutcome → Type 0
  OverFile line disk net net' back (Ok summary) = (s : Served) × (summary ≡ summary_text s) × ServesFile line disk net net' back (Ok s)
  OverFile line disk net net' back (Err unserved.Memory) = (s : Served) × ServesFile line disk net net' back (Ok s)
  OverFile line disk net net' back (Err (unserved.Kept f)) = ServesFile line disk net net' back (Err f)
  OverFile line disk net net' back (Err (unserved.Log why)) = (net' ≡ net) × IsSomeAnd back (λ disk'. IsUnready Disk disk disk' why)
  OverFile line disk net net' back (Err other) = ⊥

  module _ {H : Type 0} (Shelf : a_shelf.Ghosts H D) where
    -- The shelf gave a file, and that came of it.
    pub record OpensFile (net : N) (shelf : H) (net' : N) (shelf' : H) (line : LogServeLine) (outcome : LogServeOutcome) : Type 0 where
      pub disk : D
      pub back : Option D
      pub lends : LendsFile Shelf shelf shelf' disk back
      pub over : OverFile line disk net net' back outcome

    -- It gave none.
    abbrev pub OpensNone : N → H → N → H → Type 0
    OpensNone net shelf net' shelf' = (net' ≡ net) × (Shelf.stands shelf' ≡ Shelf.stands shelf)
        × Rose (Shelf.shelf_faults shelf) (Shelf.shelf_faults shelf')

    -- ## The program

    -- What `serve --log` did for these words, and came to.
    abbrev pub DoLogServe : {A : Type 0} → List (String A) → N → H → N → H → LogServeOutcome → Type 0
    DoLogServe words net shelf net' shelf' outcome = LogServeRun (map string_bytes words) ((net' ≡ net) × (shelf' ≡ shelf))
        (OpensNone net shelf net' shelf') (OpensFile net shelf net' shelf') outcome

    -- ## Causes

    -- A server over the shelf's file ended by this fault.
    abbrev pub StopsServing : N → H → N → H → KeptFault → Type 0
    StopsServing net shelf net' shelf' f = (line : LogServeLine) × OpensFile net shelf net' shelf' line (Err (unserved.Kept f))

    -- The shelf gave no file, or its file failed, or nothing more could be logged.
    abbrev pub FailsToKeep : N → H → N → H → Type 0
    FailsToKeep net shelf net' shelf' = Rose (Shelf.shelf_faults shelf) (Shelf.shelf_faults shelf') ⊎ FileFails Shelf Disk shelf shelf'
        ⊎ StopsServing net shelf net' shelf' kept.Astray

    -- The file would have more than 2^50 bytes with the first cuts, or with what was logged.
    abbrev pub FillsFile : N → H → N → H → Type 0
    FillsFile net shelf net' shelf' = StaysUnready Shelf Disk shelf shelf' fault.Full ⊎ StopsServing net shelf net' shelf' kept.Full

    -- The door or an ear failed, or the numbers of a loop's seats were used up.
    abbrev pub StopsHearing : N → H → N → H → Type 0
    StopsHearing net shelf net' shelf' = StopsServing net shelf net' shelf' kept.Failed ⊎ StopsServing net shelf net' shelf' kept.Spent

    -- The file is no log, or is damaged; a line tells which.
    pub record IsUnreadable (shelf shelf' : H) : Type 0 where
      pub why : LogFault
      pub line : Bytes
      pub line_is : fault_line_of why ≡ Some line
      pub stays : StaysUnready Shelf Disk shelf shelf' why

    -- The status is one of these, and above 5 it has its cause. So a line of it is done, unless the sink fails, there is no memory, or this hinders it.
    pub record LogServeCauses (net : N) (shelf : H) (net' : N) (shelf' : H) (status : ℕ) : Type 0 where
      pub one : IsOneOf status
      pub unheard : status ≡ 6 → StopsHearing net shelf net' shelf'
      pub failed : status ≡ 10 → FailsToKeep net shelf net' shelf'
      pub unreadable : status ≡ 11 → IsUnreadable shelf shelf'
      pub full : status ≡ 12 → FillsFile net shelf net' shelf'

    -- ## The sink

    module _ {T : Type 0} (Told : a_sink.Ghosts T) where
      -- It came to an outcome, and with it to the status, and to what the sink has.
      abbrev pub LogServeEnds : {A : Type 0} → List (String A) → T → N → H → T → N → H → ℕ → Type 0
      LogServeEnds words sink net shelf sink' net' shelf' status = (outcome : LogServeOutcome)
          × Tells outcome status (Told.taken sink) (Told.taken sink') × DoLogServe words net shelf net' shelf' outcome
