-- The program `pipe --log`.
use Rattle.std.specs.Prelude.{◌≡◌, ◌≢◌, ◌⊎◌, ◌≤◌, ℕ, List, Some, Ok, Err, IfSome}
use Rattle.clap.specs.Words.{Text}
use Rattle.sk_aof.specs.Accepted.{Refuses, Runs}
use Rattle.sk_aof.specs.Piping.{FillsUp, IsNoLog, Pipes}
use Rattle.sk_aof.specs.declared.log_end.LogEnd.{LogEnd}
use Rattle.sk_aof.specs.declared.log_end.LogEnd.TheVariants.{Pipe, Fault}
use Rattle.sk_base.specs.Outside.{Rose, Takes}
use Rattle.sk_base.specs.declared.sink.Sink as a_sink
use Rattle.sk_base.specs.declared.source.Source as a_source
use Rattle.sk_disk.specs.Shelves.{Gives}
use Rattle.sk_disk.specs.declared.disk.Disk as a_disk
use Rattle.sk_disk.specs.declared.shelf.Shelf as a_shelf
use Rattle.sk_line.specs.Log.{IsLog}
use Rattle.sk_line.specs.declared.log_line.LogLine.{LogLine}
use Rattle.sk_log.specs.Reading.{IsDamaged}
use Rattle.sk_log.specs.declared.fault.LogFault.{LogFault}
use Rattle.sk_log.specs.declared.fault.LogFault.TheVariants as fault
use Rattle.sk_model.specs.World.{first}
use Rattle.sk_pipe.specs.Run.{Completes, shipped}
use Rattle.sk_pipe.specs.declared.pipe_end.PipeEnd.TheVariants as pipe_end
use Rattle.sk_resp.specs.Spelling.{Bytes}
use Rattle.sk_app.specs.Ending.{Reports, ended}
use Rattle.sk_app.specs.LogOutcomes.{LogOutcome, fault_line_of, line_of, status_of}
use Rattle.sk_app.specs.declared.log_outcome.Unopened.TheVariants as unopened

-- The words are no line of `pipe --log`, or there was no memory to read them; then nothing was done. Or the line's file was to be opened.
pub data LogRun (words : List Text) (Untouched : Type 0) (Opens : LogOutcome → Type 0) : LogOutcome → Type 0 where
  refused : ((line : LogLine) → IsLog words line → ⊥) → Untouched → LogRun words Untouched Opens (Err unopened.Line)
  starved : Untouched → LogRun words Untouched Opens (Err unopened.Memory)
  opened : (line : LogLine) (outcome : LogOutcome) → IsLog words line → Opens outcome → LogRun words Untouched Opens outcome

module _ {S K H D : Type 0} (Source : a_source.Ghosts S) (Sink : a_sink.Ghosts K) (Shelf : a_shelf.Ghosts H D) (Disk : a_disk.Ghosts D) where
  -- ## The file

  -- The shelf gave the file, and it was left on it again, as it was then.
  pub record Lends (shelf shelf' : H) (disk disk' : D) : Type 0 where
    pub without : H
    pub given : Gives (Shelf.stands shelf) disk (Shelf.stands without)
    pub kept : IfSome (Shelf.stands shelf') (λ it. it ≡ Some disk')
    pub whole : Shelf.shelf_faults shelf' ≡ Shelf.shelf_faults shelf

  -- A pipe over the log that the file is ended so.
  pub record LogPiped (source source' : S) (sink sink' : K) (disk disk' : D) (end : LogEnd) : Type 0 where
    pub pipes : Pipes Disk.reads Disk.may_leave Disk.moment Disk.left_since Source.left Sink.taken shipped source source' sink sink' disk disk' end
    pub not_a_log : end ≡ Fault fault.NotALog → (c : List ℕ) → Disk.reads disk c → IsNoLog c
    pub damaged : (at : ℕ) → end ≡ Fault (fault.Damaged at) → IsDamaged Runs Refuses (Disk.reads disk) at (first shipped)
    pub full : end ≡ Fault fault.Full → FillsUp Disk.reads Disk.may_leave Disk.moment Disk.left_since shipped disk
    -- a fault of the outside is the end only where its count rose
    pub disk_fault : end ≡ Fault fault.Disk → Rose (Disk.disk_faults disk) (Disk.disk_faults disk')
    pub read_fault : end ≡ Pipe pipe_end.ReadFault → Rose (Source.read_faults source) (Source.read_faults source')
    pub write_fault : end ≡ Pipe pipe_end.WriteFault → Rose (Sink.write_faults sink) (Sink.write_faults sink')
    -- the counts don't fall
    pub disk_count : Disk.disk_faults disk ≤ Disk.disk_faults disk'
    pub source_count : Source.read_faults source ≤ Source.read_faults source'
    pub sink_count : Sink.write_faults sink ≤ Sink.write_faults sink'

  -- So it ended over the shelf's file.
  pub record KeepsFile (source source' : S) (sink sink' : K) (shelf shelf' : H) (end : LogEnd) : Type 0 where
    pub disk : D
    pub disk' : D
    pub lends : Lends shelf shelf' disk disk'
    pub piped : LogPiped source source' sink sink' disk disk' end

  -- The shelf gave no file; or a pipe over its file ended so.
  abbrev pub OpensFile : S → K → H → S → K → H → LogOutcome → Type 0
  OpensFile source sink shelf source' sink' shelf' (Ok end) = KeepsFile source source' sink sink' shelf shelf' end
  OpensFile source sink shelf source' sink' shelf' (Err unopened.Shelf) = (source' ≡ source) × (sink' ≡ sink)
      × (Shelf.stands shelf' ≡ Shelf.stands shelf) × Rose (Shelf.shelf_faults shelf) (Shelf.shelf_faults shelf')
  OpensFile source sink shelf source' sink' shelf' (Err other) = ⊥

  -- ## The program

  -- What `pipe --log` did for these words, and came to.
  abbrev pub DoLog : List Text → S → K → H → S → K → H → LogOutcome → Type 0
  DoLog words source sink shelf source' sink' shelf' outcome =
      LogRun words ((source' ≡ source) × (sink' ≡ sink) × (shelf' ≡ shelf)) (OpensFile source sink shelf source' sink' shelf') outcome

  -- It came to an outcome, with what the sink had then, and with it to the status, and to what the sink has.
  abbrev pub LogEnds : List Text → S → K → H → S → K → H → ℕ → Type 0
  LogEnds words source sink shelf source' sink' shelf' status = (outcome : LogOutcome) × (told : K)
      × Reports (line_of outcome) (status_of outcome) status (Sink.taken told) (Sink.taken sink')
      × DoLog words source sink shelf source' told shelf' outcome

  -- ## Causes

  -- The pipe over the shelf's file ended at this fault of its log.
  abbrev pub StopsAt : S → K → H → S → H → LogFault → Type 0
  StopsAt source sink shelf source' shelf' f = (told : K) × KeepsFile source source' sink told shelf shelf' (Fault f)

  -- The shelf's file failed.
  abbrev pub FileFails : H → H → Type 0
  FileFails shelf shelf' = (disk disk' : D) × Lends shelf shelf' disk disk' × Rose (Disk.disk_faults disk) (Disk.disk_faults disk')

  -- The file is no log, or is damaged, and that line was written.
  pub record IsUnreadable (source : S) (sink : K) (shelf : H) (source' : S) (sink' : K) (shelf' : H) : Type 0 where
    pub why : LogFault
    pub line : Bytes
    pub line_is : fault_line_of why ≡ Some line
    pub told : K
    pub stops : KeepsFile source source' sink told shelf shelf' (Fault why)
    pub written : Takes (Sink.taken told) (ended line) (Sink.taken sink')

  -- What a status above 9 says.
  pub record LogCauses (source : S) (sink : K) (shelf : H) (source' : S) (sink' : K) (shelf' : H) (status : ℕ) : Type 0 where
    pub few : status ≤ 12
    pub failed : status ≡ 10 → Rose (Shelf.shelf_faults shelf) (Shelf.shelf_faults shelf') ⊎ FileFails shelf shelf'
    pub unreadable : status ≡ 11 → IsUnreadable source sink shelf source' sink' shelf'
    pub full : status ≡ 12 → StopsAt source sink shelf source' shelf' fault.Full

  -- ## Completeness

  -- The shelf gave no file, or the log couldn't be opened or go on, for another cause than want of memory.
  abbrev pub LogHindered : S → K → H → S → H → Type 0
  LogHindered source sink shelf source' shelf' = Rose (Shelf.shelf_faults shelf) (Shelf.shelf_faults shelf')
      ⊎ ((f : LogFault) × (f ≢ fault.Memory) × StopsAt source sink shelf source' shelf' f)

  -- By a line of it, input that is commands end to end is done to its end, or to a QUIT or SHUTDOWN, where neither count of faults rises and the file
  -- doesn't hinder it.
  abbrev pub LogDone : List Text → S → K → H → S → K → H → ℕ → Type 0
  LogDone words source sink shelf source' sink' shelf' status = (line : LogLine) → IsLog words line → Completes (Source.left source)
      (Rose (Source.read_faults source) (Source.read_faults source') ⊎ Rose (Sink.write_faults sink) (Sink.write_faults sink')
      ⊎ LogHindered source sink shelf source' shelf') status
