-- Runs of `pipe --log`.
use Rattle.std.proofs.Common.{◌≡◌, ◌⊎◌, ℕ, List, Some, Ok, Err, inl, inr, refl, arith, sym, subst}
use Rattle.std.specs.Result.{IsErrAnd}
use Rattle.clap.specs.Words.{Text}
use Rattle.sk_aof.specs.declared.log_end.LogEnd.TheVariants.{Pipe, Fault}
use Rattle.sk_base.specs.Outside.{Rose}
use Rattle.sk_base.specs.declared.sink.Sink as a_sink
use Rattle.sk_base.specs.declared.source.Source as a_source
use Rattle.sk_disk.specs.declared.disk.Disk as a_disk
use Rattle.sk_disk.specs.declared.shelf.Shelf as a_shelf
use Rattle.sk_line.specs.Lines.{Reads}
use Rattle.sk_line.specs.Log.{IsLog}
use Rattle.sk_line.specs.declared.fault.LineFault.{LineFault}
use Rattle.sk_line.specs.declared.fault.LineFault.TheVariants as line
use Rattle.sk_log.specs.declared.fault.LogFault.{LogFault}
use Rattle.sk_log.specs.declared.fault.LogFault.TheVariants as fault
use Rattle.sk_pipe.specs.declared.pipe_end.PipeEnd.TheVariants as pipe_end
use Rattle.sk_resp.specs.Spelling.{Bytes}
use Rattle.sk_app.specs.Ending.{Reports}
use Rattle.sk_app.specs.LogOutcomes.{LogOutcome, by_line, fault_line_of, fault_status_of, line_of, status_of}
use Rattle.sk_app.specs.Logging.{DoLog, FileFails, IsUnreadable, KeepsFile, LogCauses, LogRun, OpensFile, StopsAt}
use Rattle.sk_app.specs.Logging as logging
use Rattle.sk_app.specs.declared.log_outcome.Unopened.TheVariants as unopened
use Rattle.sk_app.proofs.LogStatuses.{own_high, pipe_low, reported, status_few}

pub no_line : (words : List Text) (Untouched : Type 0) (Opens : LogOutcome → Type 0) (f : LineFault) (r : LogOutcome) → IsErrAnd r (λ e. e ≡ by_line f) →
    Reads (IsLog words) (Err f) → Untouched → LogRun words Untouched Opens r
no_line words Untouched Opens f (Ok end) h none untouched = absurd h
no_line words Untouched Opens line.Refused (Err e) h none untouched = subst (λ x. LogRun words Untouched Opens (Err x)) (sym h) (logging.refused none untouched)
no_line words Untouched Opens line.Memory (Err e) h none untouched = subst (λ x. LogRun words Untouched Opens (Err x)) (sym h) (logging.starved untouched)

module _ {S K H D : Type 0} (Source : a_source.Ghosts S) (Sink : a_sink.Ghosts K) (Shelf : a_shelf.Ghosts H D) (Disk : a_disk.Ghosts D)
    (source : S) (sink : K) (shelf : H) (source' : S) (told : K) (shelf' : H) where
  -- ## Where nothing was opened

  pub untouched : (words : List Text) (outcome : LogOutcome) → DoLog Source Sink Shelf Disk words source sink shelf source' told shelf' outcome →
      outcome ≡ Err unopened.Line → (source' ≡ source) × (told ≡ sink) × (shelf' ≡ shelf)
  untouched words outcome (logging.refused none same) e = same
  untouched words outcome (logging.starved same) e = same
  untouched words outcome (logging.opened asked outcome0 is opens) e = absurd (subst (OpensFile Source Sink Shelf Disk source sink shelf source' told shelf') e opens)

  pub shelf_failed : (r : LogOutcome) → IsErrAnd r (λ e. e ≡ unopened.Shelf) → (source' ≡ source) × (told ≡ sink) × (Shelf.stands shelf' ≡ Shelf.stands shelf)
      × Rose (Shelf.shelf_faults shelf) (Shelf.shelf_faults shelf') → OpensFile Source Sink Shelf Disk source sink shelf source' told shelf' r
  shelf_failed (Ok end) h closed = absurd h
  shelf_failed (Err e) h closed = subst (λ x. OpensFile Source Sink Shelf Disk source sink shelf source' told shelf' (Err x)) (sym h) closed

  -- ## Causes

  fault_failed : (f : LogFault) → KeepsFile Source Sink Shelf Disk source source' sink told shelf shelf' (Fault f) → fault_status_of f ≡ 10 → FileFails Source Sink Shelf Disk shelf shelf'
  fault_failed fault.Disk keeps e = (keeps.disk, keeps.disk', keeps.lends, keeps.piped.disk_fault refl)
  fault_failed fault.NotALog keeps e = absurd (omega (arith, e))
  fault_failed (fault.Damaged at) keeps e = absurd (omega (arith, e))
  fault_failed fault.Full keeps e = absurd (omega (arith, e))
  fault_failed fault.Memory keeps e = absurd (omega (arith, e))

  open_failed : (outcome : LogOutcome) → OpensFile Source Sink Shelf Disk source sink shelf source' told shelf' outcome → status_of outcome ≡ 10 →
      Rose (Shelf.shelf_faults shelf) (Shelf.shelf_faults shelf') ⊎ FileFails Source Sink Shelf Disk shelf shelf'
  open_failed (Ok (Pipe end)) opens e = absurd (omega (arith, pipe_low end, e))
  open_failed (Ok (Fault f)) opens e = inr (fault_failed f opens e)
  open_failed (Err unopened.Line) opens e = absurd opens
  open_failed (Err unopened.Memory) opens e = absurd opens
  open_failed (Err unopened.Shelf) opens e = inl opens.3

  run_failed : (words : List Text) (outcome : LogOutcome) → DoLog Source Sink Shelf Disk words source sink shelf source' told shelf' outcome → status_of outcome ≡ 10 →
      Rose (Shelf.shelf_faults shelf) (Shelf.shelf_faults shelf') ⊎ FileFails Source Sink Shelf Disk shelf shelf'
  run_failed words outcome (logging.refused none same) e = absurd (omega (arith, e))
  run_failed words outcome (logging.starved same) e = absurd (omega (arith, e))
  run_failed words outcome (logging.opened asked outcome0 is opens) e = open_failed outcome opens e

  module _ (sink' : K) where
    told_fault : (f : LogFault) (line : Bytes) (status : ℕ) → fault_line_of f ≡ Some line → KeepsFile Source Sink Shelf Disk source source' sink told shelf shelf' (Fault f) →
        Reports (fault_line_of f) (fault_status_of f) status (Sink.taken told) (Sink.taken sink') → status ≡ 11 →
        IsUnreadable Source Sink Shelf Disk source sink shelf source' sink' shelf'
    told_fault f line status is keeps reports e = written (subst (λ l. Reports l (fault_status_of f) status (Sink.taken told) (Sink.taken sink')) is reports)
      where
        written : Reports (Some line) (fault_status_of f) status (Sink.taken told) (Sink.taken sink') → IsUnreadable Source Sink Shelf Disk source sink shelf source' sink' shelf'
        written (inl all) = record { why = f; line = line; line_is = is; told = told; stops = keeps; written = all.1 }
        written (inr (inl some)) = absurd (omega (arith, some.0, e))
        written (inr (inr none)) = absurd (omega (arith, none.0, e))

    fault_unreadable : (f : LogFault) (status : ℕ) → KeepsFile Source Sink Shelf Disk source source' sink told shelf shelf' (Fault f) →
        Reports (fault_line_of f) (fault_status_of f) status (Sink.taken told) (Sink.taken sink') → status ≡ 11 → fault_status_of f ≡ 11 →
        IsUnreadable Source Sink Shelf Disk source sink shelf source' sink' shelf'
    fault_unreadable fault.NotALog status keeps reports e own = told_fault fault.NotALog _ status refl keeps reports e
    fault_unreadable (fault.Damaged at) status keeps reports e own = told_fault (fault.Damaged at) _ status refl keeps reports e
    fault_unreadable fault.Disk status keeps reports e own = absurd (omega (arith, own))
    fault_unreadable fault.Full status keeps reports e own = absurd (omega (arith, own))
    fault_unreadable fault.Memory status keeps reports e own = absurd (omega (arith, own))

    open_unreadable : (outcome : LogOutcome) (status : ℕ) → OpensFile Source Sink Shelf Disk source sink shelf source' told shelf' outcome →
        Reports (line_of outcome) (status_of outcome) status (Sink.taken told) (Sink.taken sink') → status ≡ 11 → status_of outcome ≡ 11 →
        IsUnreadable Source Sink Shelf Disk source sink shelf source' sink' shelf'
    open_unreadable (Ok (Pipe end)) status opens reports e own = absurd (omega (arith, pipe_low end, own))
    open_unreadable (Ok (Fault f)) status opens reports e own = fault_unreadable f status opens reports e own
    open_unreadable (Err unopened.Line) status opens reports e own = absurd opens
    open_unreadable (Err unopened.Memory) status opens reports e own = absurd opens
    open_unreadable (Err unopened.Shelf) status opens reports e own = absurd (omega (arith, own))

    run_unreadable : (words : List Text) (outcome : LogOutcome) (status : ℕ) → DoLog Source Sink Shelf Disk words source sink shelf source' told shelf' outcome →
        Reports (line_of outcome) (status_of outcome) status (Sink.taken told) (Sink.taken sink') → status ≡ 11 → status_of outcome ≡ 11 →
        IsUnreadable Source Sink Shelf Disk source sink shelf source' sink' shelf'
    run_unreadable words outcome status (logging.refused none same) reports e own = absurd (omega (arith, own))
    run_unreadable words outcome status (logging.starved same) reports e own = absurd (omega (arith, own))
    run_unreadable words outcome status (logging.opened asked outcome0 is opens) reports e own = open_unreadable outcome status opens reports e own

  fault_full : (f : LogFault) → KeepsFile Source Sink Shelf Disk source source' sink told shelf shelf' (Fault f) → fault_status_of f ≡ 12 →
      StopsAt Source Sink Shelf Disk source sink shelf source' shelf' fault.Full
  fault_full fault.Full keeps e = (told, keeps)
  fault_full fault.NotALog keeps e = absurd (omega (arith, e))
  fault_full (fault.Damaged at) keeps e = absurd (omega (arith, e))
  fault_full fault.Disk keeps e = absurd (omega (arith, e))
  fault_full fault.Memory keeps e = absurd (omega (arith, e))

  open_full : (outcome : LogOutcome) → OpensFile Source Sink Shelf Disk source sink shelf source' told shelf' outcome → status_of outcome ≡ 12 →
      StopsAt Source Sink Shelf Disk source sink shelf source' shelf' fault.Full
  open_full (Ok (Pipe end)) opens e = absurd (omega (arith, pipe_low end, e))
  open_full (Ok (Fault f)) opens e = fault_full f opens e
  open_full (Err unopened.Line) opens e = absurd opens
  open_full (Err unopened.Memory) opens e = absurd opens
  open_full (Err unopened.Shelf) opens e = absurd (omega (arith, e))

  run_full : (words : List Text) (outcome : LogOutcome) → DoLog Source Sink Shelf Disk words source sink shelf source' told shelf' outcome → status_of outcome ≡ 12 →
      StopsAt Source Sink Shelf Disk source sink shelf source' shelf' fault.Full
  run_full words outcome (logging.refused none same) e = absurd (omega (arith, e))
  run_full words outcome (logging.starved same) e = absurd (omega (arith, e))
  run_full words outcome (logging.opened asked outcome0 is opens) e = open_full outcome opens e

  pub log_causes : (words : List Text) (outcome : LogOutcome) (sink' : K) (status : ℕ) → DoLog Source Sink Shelf Disk words source sink shelf source' told shelf' outcome →
      Reports (line_of outcome) (status_of outcome) status (Sink.taken told) (Sink.taken sink') → LogCauses Source Sink Shelf Disk source sink shelf source' sink' shelf' status
  log_causes words outcome sink' status ran reports =
      let own = reported (line_of outcome) (status_of outcome) status (Sink.taken told) (Sink.taken sink') reports in
      record {
        few = status_few outcome status (Sink.taken told) (Sink.taken sink') reports;
        failed = λ e. run_failed words outcome ran (own_high (status_of outcome) status 10 (omega arith) own e);
        unreadable = λ e. run_unreadable sink' words outcome status ran reports e (own_high (status_of outcome) status 11 (omega arith) own e);
        full = λ e. run_full words outcome ran (own_high (status_of outcome) status 12 (omega arith) own e);
      }

  -- ## The sink

  -- a pipe over the file met a fault of the sink only where its count rose
  pub write_failed : (words : List Text) (outcome : LogOutcome) → DoLog Source Sink Shelf Disk words source sink shelf source' told shelf' outcome →
      outcome ≡ Ok (Pipe pipe_end.WriteFault) → Rose (Sink.write_faults sink) (Sink.write_faults told)
  write_failed words outcome (logging.refused none same) e = absurd (cc e)
  write_failed words outcome (logging.starved same) e = absurd (cc e)
  write_failed words outcome (logging.opened asked outcome0 is opens) e =
      (subst (OpensFile Source Sink Shelf Disk source sink shelf source' told shelf') e opens).piped.write_fault refl
