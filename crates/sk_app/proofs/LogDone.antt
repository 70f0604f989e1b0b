-- That `pipe --log` does input that is commands end to end, where nothing hinders it.
use Rattle.std.proofs.Common.{◌≡◌, ◌≢◌, ◌⊎◌, ◌<◌, ◌^◌, ◌++◌, ℕ, List, [], Option, Some, None, Ok, Err, inl, inr, refl, sym, subst, ap, ◌∙◌, arith, length, append-nil, length-append}
use Rattle.clap.specs.Words.{Text}
use Rattle.sk_aof.specs.Talking.{IsEnd}
use Rattle.sk_aof.specs.declared.log_end.LogEnd.TheVariants.{Pipe, Fault}
use Rattle.sk_base.specs.Outside.{Gives, Rose}
use Rattle.sk_base.specs.declared.sink.Sink as a_sink
use Rattle.sk_base.specs.declared.source.Source as a_source
use Rattle.sk_disk.specs.declared.disk.Disk as a_disk
use Rattle.sk_disk.specs.declared.shelf.Shelf as a_shelf
use Rattle.sk_line.specs.Log.{IsLog}
use Rattle.sk_line.specs.declared.log_line.LogLine.{LogLine}
use Rattle.sk_log.specs.declared.fault.LogFault.{LogFault}
use Rattle.sk_log.specs.declared.fault.LogFault.TheVariants as fault
use Rattle.sk_pipe.proofs.Completing.{status_done}
use Rattle.sk_pipe.specs.Pipe.{pipe_end}
use Rattle.sk_pipe.specs.declared.pipe_end.PipeEnd.{PipeEnd}
use Rattle.sk_pipe.specs.declared.pipe_end.PipeEnd.TheVariants.{Done, Memory, ReadFault, WriteFault}
use Rattle.sk_resp.proofs.Readings.{faulty_stays, never_both, reads-once}
use Rattle.sk_resp.specs.Request.{Command}
use Rattle.sk_resp.specs.Spelling.{Bytes}
use Rattle.sk_resp.specs.Stream.{Faulty, Reads}
use Rattle.sk_resp.specs.declared.reply.Reply.{Reply}
use Rattle.sk_talk.specs.Talk.{Ends}
use Rattle.sk_talk.specs.declared.talk_end.Stop.{Stop}
use Rattle.sk_talk.specs.declared.talk_end.TalkEnd.{TalkEnd}
use Rattle.sk_talk.specs.declared.talk_end.TalkEnd.TheVariants as end
use Rattle.sk_app.specs.Ending.{Reports}
use Rattle.sk_app.specs.LogOutcomes.{LogOutcome, fault_line_of, fault_status_of, line_of, status_of}
use Rattle.sk_app.specs.Logging.{DoLog, KeepsFile, LogDone, LogHindered, LogPiped, OpensFile}
use Rattle.sk_app.specs.Logging as logging
use Rattle.sk_app.specs.declared.log_outcome.Unopened.TheVariants as unopened

-- ## A talk

-- the end of a talk that took the front of these bytes, of which this is left
module _ {P : Type 0} (Answers : P → List Command → List Reply → P → Option Stop → Type 0) where
  ended : (old new : P) (how : TalkEnd) (bytes taken rest written : Bytes) (commands : List Command) → bytes ≡ taken ++ rest → length bytes < 2 ^ 40 →
      Reads bytes commands [] → Ends Answers old how taken (Some rest) new written → pipe_end how ≢ ReadFault → pipe_end how ≢ WriteFault →
      (pipe_end how ≡ Done) ⊎ (pipe_end how ≡ Memory)
  ended old new end.Ended bytes taken rest written commands is small reads ends no_read no_write = inl refl
  ended old new end.Quit bytes taken rest written commands is small reads ends no_read no_write = inl refl
  ended old new end.Shutdown bytes taken rest written commands is small reads ends no_read no_write = inl refl
  ended old new end.Memory bytes taken rest written commands is small reads ends no_read no_write = inr refl
  ended old new end.Lost bytes taken rest written commands is small reads ends no_read no_write = inr refl
  ended old new end.Cut bytes taken rest written commands is small reads ends no_read no_write =
      let whole : bytes ≡ taken = is ∙ ap (λ z. taken ++ z) ends.1.4 ∙ append-nil taken in
      absurd (ends.1.1 (reads-once bytes ends.0 commands ends.1.0 [] (subst (λ z. Reads z ends.0 ends.1.0) (sym whole) ends.1.2) reads).1)
  ended old new end.Wire bytes taken rest written commands is small reads ends no_read no_write =
      absurd (never_both bytes commands ends.0 [] ends.1.0 reads (subst (λ z. Faulty z ends.0 ends.1.0) (sym is) (faulty_stays taken rest ends.0 ends.1.0 ends.1.1)))
  ended old new end.ReadFault bytes taken rest written commands is small reads ends no_read no_write = absurd (no_read refl)
  ended old new end.WriteFault bytes taken rest written commands is small reads ends no_read no_write = absurd (no_write refl)
  ended old new end.Budget bytes taken rest written commands is small reads ends no_read no_write = absurd (omega (arith, ends.1.3, ap length is, length-append taken rest))

  talk_done : (old new : P) (how : TalkEnd) (left left' : Option Bytes) (bytes taken written : Bytes) (commands : List Command) → left ≡ Some bytes → length bytes < 2 ^ 40 →
      Reads bytes commands [] → Gives left taken left' → Ends Answers old how taken left' new written → pipe_end how ≢ ReadFault → pipe_end how ≢ WriteFault →
      (pipe_end how ≡ Done) ⊎ (pipe_end how ≡ Memory)
  talk_done old new how None left' bytes taken written commands is small reads gives ends no_read no_write = absurd (cc is)
  talk_done old new how (Some before) left' bytes taken written commands is small reads gives ends no_read no_write =
      let same : before ≡ bytes = cc is in
      ended old new how bytes taken gives.0 written commands (sym same ∙ gives.1) small reads (subst (λ l. Ends Answers old how taken l new written) gives.2 ends) no_read no_write

-- what ends as a pipe does, ends as its talk does
ended_as : (how : TalkEnd) (f : Option LogFault) (e : PipeEnd) → IsEnd how f (Pipe e) → e ≡ pipe_end how
ended_as end.Ended f e is = cc is
ended_as end.Quit f e is = cc is
ended_as end.Shutdown f e is = cc is
ended_as end.Memory f e is = cc is
ended_as end.Lost f e is = absurd (cc is)
ended_as end.Cut f e is = cc is
ended_as end.Wire f e is = cc is
ended_as end.ReadFault f e is = cc is
ended_as end.WriteFault f e is = cc is
ended_as end.Budget f e is = cc is

-- ## A run

module _ {S K H D : Type 0} (Source : a_source.Ghosts S) (Sink : a_sink.Ghosts K) (Shelf : a_shelf.Ghosts H D) (Disk : a_disk.Ghosts D)
    (source : S) (sink : K) (shelf : H) (source' : S) (told : K) (shelf' : H) (sink' : K) (bytes : Bytes) (commands : List Command)
    (is : Source.left source ≡ Some bytes) (small : length bytes < 2 ^ 40) (reads : Reads bytes commands [])
    (none : Rose (Source.read_faults source) (Source.read_faults source') ⊎ Rose (Sink.write_faults sink) (Sink.write_faults sink')
    ⊎ LogHindered Source Sink Shelf Disk source sink shelf source' shelf' → ⊥) where
  piped_done : (disk disk' : D) (e : PipeEnd) → LogPiped Source Sink Shelf Disk source source' sink told disk disk' (Pipe e) → e ≢ ReadFault → e ≢ WriteFault →
      (e ≡ Done) ⊎ (e ≡ Memory)
  piped_done disk disk' e piped no_read no_write = elim piped.pipes [
    | inl over ↦
        let same : e ≡ pipe_end over.talked.how = ended_as over.talked.how over.talked.new.fault e over.talked.is_end in
        let talks = over.talked.talks in
        subst (λ x. (x ≡ Done) ⊎ (x ≡ Memory)) (sym same)
        (talk_done _ _ over.talked.new over.talked.how _ _ bytes talks.bytes talks.written commands is small reads talks.moves.gave talks.ends
        (λ z. no_read (same ∙ z)) (λ z. no_write (same ∙ z)))
    | inr never ↦ absurd (cc never.is_end)
  ]

  pipe_done : (e : PipeEnd) (status : ℕ) → KeepsFile Source Sink Shelf Disk source source' sink told shelf shelf' (Pipe e) →
      Reports (line_of (Ok (Pipe e))) (status_of (Ok (Pipe e))) status (Sink.taken told) (Sink.taken sink') → sink' ≡ told → (status ≡ 0) ⊎ (status ≡ 5)
  pipe_done e status keeps reports quiet =
      status_done e status (piped_done keeps.disk keeps.disk' e keeps.piped (λ z. none (inl (keeps.piped.read_fault (ap Pipe z))))
      (λ z. none (inr (inl (subst (λ k. Rose (Sink.write_faults sink) (Sink.write_faults k)) (sym quiet) (keeps.piped.write_fault (ap Pipe z)))))))
      reports.0

  fault_done : (f : LogFault) (status : ℕ) → KeepsFile Source Sink Shelf Disk source source' sink told shelf shelf' (Fault f) →
      Reports (fault_line_of f) (fault_status_of f) status (Sink.taken told) (Sink.taken sink') → (status ≡ 0) ⊎ (status ≡ 5)
  fault_done fault.Memory status keeps reports = inr reports.0
  fault_done fault.Disk status keeps reports = absurd (none (inr (inr (inr (fault.Disk, (λ e. absurd (cc e)), (told, keeps))))))
  fault_done fault.NotALog status keeps reports = absurd (none (inr (inr (inr (fault.NotALog, (λ e. absurd (cc e)), (told, keeps))))))
  fault_done (fault.Damaged at) status keeps reports = absurd (none (inr (inr (inr (fault.Damaged at, (λ e. absurd (cc e)), (told, keeps))))))
  fault_done fault.Full status keeps reports = absurd (none (inr (inr (inr (fault.Full, (λ e. absurd (cc e)), (told, keeps))))))

  open_done : (outcome : LogOutcome) (status : ℕ) → OpensFile Source Sink Shelf Disk source sink shelf source' told shelf' outcome →
      Reports (line_of outcome) (status_of outcome) status (Sink.taken told) (Sink.taken sink') → (line_of outcome ≡ None → sink' ≡ told) → (status ≡ 0) ⊎ (status ≡ 5)
  open_done (Ok (Pipe e)) status opens reports quiet = pipe_done e status opens reports (quiet refl)
  open_done (Ok (Fault f)) status opens reports quiet = fault_done f status opens reports
  open_done (Err unopened.Line) status opens reports quiet = absurd opens
  open_done (Err unopened.Memory) status opens reports quiet = absurd opens
  open_done (Err unopened.Shelf) status opens reports quiet = absurd (none (inr (inr (inl opens.3))))

  run_done : (words : List Text) (asked : LogLine) (outcome : LogOutcome) (status : ℕ) → IsLog words asked →
      DoLog Source Sink Shelf Disk words source sink shelf source' told shelf' outcome →
      Reports (line_of outcome) (status_of outcome) status (Sink.taken told) (Sink.taken sink') → (line_of outcome ≡ None → sink' ≡ told) → (status ≡ 0) ⊎ (status ≡ 5)
  run_done words asked outcome status line (logging.refused unread same) reports quiet = absurd (unread asked line)
  run_done words asked outcome status line (logging.starved same) reports quiet = inr reports.0
  run_done words asked outcome status line (logging.opened asked0 outcome0 is0 opens) reports quiet = open_done outcome status opens reports quiet

pub log_completes : {S K H D : Type 0} (Source : a_source.Ghosts S) (Sink : a_sink.Ghosts K) (Shelf : a_shelf.Ghosts H D) (Disk : a_disk.Ghosts D)
    (source : S) (sink : K) (shelf : H) (source' : S) (told : K) (shelf' : H) (sink' : K) (words : List Text) (outcome : LogOutcome) (status : ℕ) →
    DoLog Source Sink Shelf Disk words source sink shelf source' told shelf' outcome →
    Reports (line_of outcome) (status_of outcome) status (Sink.taken told) (Sink.taken sink') → (line_of outcome ≡ None → sink' ≡ told) →
    LogDone Source Sink Shelf Disk words source sink shelf source' sink' shelf' status
log_completes Source Sink Shelf Disk source sink shelf source' told shelf' sink' words outcome status ran reports quiet =
    λ asked line bytes commands is small reads none.
    run_done Source Sink Shelf Disk source sink shelf source' told shelf' sink' bytes commands is small reads none words asked outcome status line ran reports quiet
