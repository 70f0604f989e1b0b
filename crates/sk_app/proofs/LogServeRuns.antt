-- Runs of `serve --log`.
use Rattle.std.proofs.Common.{◌≡◌, ◌≤◌, ℕ, List, Option, Some, None, Result, Ok, Err, inl, inr, refl, arith, sym, subst}
use Rattle.std.specs.Option.{IsSomeAnd}
use Rattle.std.specs.Result.{IsErrAnd}
use Rattle.std.specs.declared.string.String.{String}
use Rattle.clap.specs.Words.{Text}
use Rattle.sk_base.specs.Outside.{Rose}
use Rattle.sk_base.specs.declared.clock.Clock as a_clock
use Rattle.sk_base.specs.declared.sink.Sink as a_sink
use Rattle.sk_base.specs.declared.source.Source as a_source
use Rattle.sk_disk.specs.declared.disk.Disk as a_disk
use Rattle.sk_disk.specs.declared.shelf.Shelf as a_shelf
use Rattle.sk_durable.specs.declared.server.KeptFault.{KeptFault}
use Rattle.sk_durable.specs.declared.server.KeptFault.TheVariants as kept
use Rattle.sk_edge.specs.declared.door.Door as a_door
use Rattle.sk_edge.specs.declared.door.Ear as an_ear
use Rattle.sk_line.specs.LogServe.{IsLogServe}
use Rattle.sk_line.specs.Lines.{Reads}
use Rattle.sk_line.specs.declared.fault.LineFault.{LineFault}
use Rattle.sk_line.specs.declared.fault.LineFault.TheVariants as line
use Rattle.sk_line.specs.declared.log_serve_line.LogServeLine.{LogServeLine}
use Rattle.sk_log.specs.declared.fault.LogFault.{LogFault}
use Rattle.sk_log.specs.declared.fault.LogFault.TheVariants as fault
use Rattle.sk_resp.specs.Spelling.{Bytes}
use Rattle.sk_serve.specs.declared.serve_end.Served.{Served}
use Rattle.sk_app.specs.LogOutcomes.{fault_status_of}
use Rattle.sk_app.specs.LogServeOutcomes.{IsOutcomeOf, LogServeOutcome, Tells, by_line, kept_status_of}
use Rattle.sk_app.specs.LogServing.{DoLogServe, FailsToKeep, FileFails, FillsFile, IsNoLine, IsUnreadable, IsUnready, LendsFile, LogServeCauses, LogServeRun, OpensFile, OverFile, ServesFile, StaysUnready, StopsHearing}
use Rattle.sk_app.specs.LogServing as serving
use Rattle.sk_app.specs.declared.unserved.Unserved.TheVariants as unserved
use Rattle.sk_app.proofs.LogServeStatuses.{outcome_status, own_but, status_one, told_own}

-- ## The words

module _ (words : List Text) (Untouched Closed : Type 0) (Opened : LogServeLine → LogServeOutcome → Type 0) where
  pub no_line : (f : LineFault) (r : LogServeOutcome) → IsErrAnd r (λ e. e ≡ by_line f) → Reads (IsLogServe words) (Err f) → Untouched →
      LogServeRun words Untouched Closed Opened r
  no_line f (Ok summary) h none untouched = absurd h
  no_line line.Refused (Err e) h none untouched = subst (λ x. LogServeRun words Untouched Closed Opened (Err x)) (sym h) (serving.refused none untouched)
  no_line line.Memory (Err e) h none untouched = subst (λ x. LogServeRun words Untouched Closed Opened (Err x)) (sym h) (serving.starved untouched)

  pub no_file : (asked : LogServeLine) (r : LogServeOutcome) → IsErrAnd r (λ e. e ≡ unserved.Shelf) → IsLogServe words asked → Closed →
      LogServeRun words Untouched Closed Opened r
  no_file asked (Ok summary) h is closed = absurd h
  no_file asked (Err e) h is closed = subst (λ x. LogServeRun words Untouched Closed Opened (Err x)) (sym h) (serving.closed asked is closed)

-- a count that rose above a later one rose above the first
rose_from : (a b c : ℕ) → a ≤ b → Rose b c → Rose a c
rose_from a b c later (inl rose) = inl (omega (arith, later, rose))
rose_from a b c later (inr full) = inr full

module _ {N C E K D : Type 0} (Door : a_door.Ghosts N C E) (Ear : an_ear.Ghosts E C) (Source : a_source.Ghosts C) (Sink : a_sink.Ghosts C)
    (Clock : a_clock.Ghosts K) (Disk : a_disk.Ghosts D) where
  -- ## What came of a file

  pub came : (asked : LogServeLine) (disk : D) (net net' : N) (back : Option D) (end : Result Served KeptFault) (outcome : LogServeOutcome) →
      IsOutcomeOf end outcome → ServesFile Door Ear Source Sink Clock Disk asked disk net net' back end →
      OverFile Door Ear Source Sink Clock Disk asked disk net net' back outcome
  came asked disk net net' back (Ok s) outcome (inl is) serves =
      subst (OverFile Door Ear Source Sink Clock Disk asked disk net net' back) (sym is) (s, refl, serves)
  came asked disk net net' back (Ok s) outcome (inr is) serves =
      subst (OverFile Door Ear Source Sink Clock Disk asked disk net net' back) (sym is) (s, serves)
  came asked disk net net' back (Err f) outcome is serves = subst (OverFile Door Ear Source Sink Clock Disk asked disk net net' back) (sym is) serves

  module _ {H : Type 0} (Shelf : a_shelf.Ghosts H D) (net : N) (shelf : H) (net' : N) (shelf' : H) where
    abbrev Opens : LogServeLine → LogServeOutcome → Type 0
    Opens = OpensFile Door Ear Source Sink Clock Disk Shelf net shelf net' shelf'

    abbrev Ran : {A : Type 0} → List (String A) → LogServeOutcome → Type 0
    Ran words = DoLogServe Door Ear Source Sink Clock Disk Shelf words net shelf net' shelf'

    unready : (disk : D) (why : LogFault) (back : Option D) → LendsFile Shelf shelf shelf' disk back → IsSomeAnd back (λ disk'. IsUnready Disk disk disk' why) →
        StaysUnready Shelf Disk shelf shelf' why
    unready disk why (Some disk') lends is = (disk, disk', lends, is)
    unready disk why None lends is = absurd is

    unready_fails : (disk : D) (back : Option D) → LendsFile Shelf shelf shelf' disk back → IsSomeAnd back (λ disk'. IsUnready Disk disk disk' fault.Disk) →
        FileFails Shelf Disk shelf shelf'
    unready_fails disk (Some disk') lends is = (disk, disk', lends, is.failed refl)
    unready_fails disk None lends is = absurd is

    served_fails : (disk begun : D) (back : Option D) → LendsFile Shelf shelf shelf' disk back → Disk.disk_faults disk ≤ Disk.disk_faults begun →
        IsSomeAnd back (λ disk'. Rose (Disk.disk_faults begun) (Disk.disk_faults disk')) → FileFails Shelf Disk shelf shelf'
    served_fails disk begun (Some disk') lends later rose = (disk, disk', lends, rose_from _ _ _ later rose)
    served_fails disk begun None lends later rose = absurd rose

    -- ## Words that are no line

    pub not_a_line : {A : Type 0} (words : List (String A)) (outcome : LogServeOutcome) → Ran words outcome → outcome ≡ Err unserved.Line → IsNoLine words
    not_a_line words outcome (serving.refused none same) e = none
    not_a_line words outcome (serving.starved same) e = absurd (cc e)
    not_a_line words outcome (serving.closed asked is closed) e = absurd (cc e)
    not_a_line words outcome (serving.opened asked outcome0 is opens) e = absurd (subst (Opens asked) e opens).over

    -- ## Causes

    log_failed : (asked : LogServeLine) (f : LogFault) → Opens asked (Err (unserved.Log f)) →
        fault_status_of f ≡ 10 → FailsToKeep Door Ear Source Sink Clock Disk Shelf net shelf net' shelf'
    log_failed asked fault.Disk opens e = inr (inl (unready_fails opens.disk opens.back opens.lends opens.over.1))
    log_failed asked fault.NotALog opens e = absurd (omega (arith, e))
    log_failed asked (fault.Damaged at) opens e = absurd (omega (arith, e))
    log_failed asked fault.Full opens e = absurd (omega (arith, e))
    log_failed asked fault.Memory opens e = absurd (omega (arith, e))

    kept_failed : (asked : LogServeLine) (f : KeptFault) → Opens asked (Err (unserved.Kept f)) →
        kept_status_of f ≡ 10 → FailsToKeep Door Ear Source Sink Clock Disk Shelf net shelf net' shelf'
    kept_failed asked kept.Disk opens e = inr (inl (served_fails opens.disk opens.over.begun opens.back opens.lends opens.over.later opens.over.ended))
    kept_failed asked kept.Astray opens e = inr (inr (asked, opens))
    kept_failed asked kept.Full opens e = absurd (omega (arith, e))
    kept_failed asked kept.Failed opens e = absurd (omega (arith, e))
    kept_failed asked kept.Spent opens e = absurd (omega (arith, e))
    kept_failed asked kept.Memory opens e = absurd (omega (arith, e))

    open_failed : (asked : LogServeLine) (outcome : LogServeOutcome) → Opens asked outcome →
        outcome_status outcome ≡ 10 → FailsToKeep Door Ear Source Sink Clock Disk Shelf net shelf net' shelf'
    open_failed asked (Ok summary) opens e = absurd (omega (arith, e))
    open_failed asked (Err unserved.Line) opens e = absurd (omega (arith, e))
    open_failed asked (Err unserved.Memory) opens e = absurd (omega (arith, e))
    open_failed asked (Err unserved.Shelf) opens e = absurd opens.over
    open_failed asked (Err (unserved.Log f)) opens e = log_failed asked f opens e
    open_failed asked (Err (unserved.Kept f)) opens e = kept_failed asked f opens e

    run_failed : {A : Type 0} (words : List (String A)) (outcome : LogServeOutcome) → Ran words outcome →
        outcome_status outcome ≡ 10 → FailsToKeep Door Ear Source Sink Clock Disk Shelf net shelf net' shelf'
    run_failed words outcome (serving.refused none same) e = absurd (omega (arith, e))
    run_failed words outcome (serving.starved same) e = absurd (omega (arith, e))
    run_failed words outcome (serving.closed asked is closed) e = inl closed.2
    run_failed words outcome (serving.opened asked outcome0 is opens) e = open_failed asked outcome opens e

    log_full : (f : LogFault) (asked : LogServeLine) → Opens asked (Err (unserved.Log f)) →
        fault_status_of f ≡ 12 → FillsFile Door Ear Source Sink Clock Disk Shelf net shelf net' shelf'
    log_full fault.Full asked opens e = inl (unready opens.disk fault.Full opens.back opens.lends opens.over.1)
    log_full fault.Disk asked opens e = absurd (omega (arith, e))
    log_full fault.NotALog asked opens e = absurd (omega (arith, e))
    log_full (fault.Damaged at) asked opens e = absurd (omega (arith, e))
    log_full fault.Memory asked opens e = absurd (omega (arith, e))

    kept_full : (f : KeptFault) (asked : LogServeLine) → Opens asked (Err (unserved.Kept f)) →
        kept_status_of f ≡ 12 → FillsFile Door Ear Source Sink Clock Disk Shelf net shelf net' shelf'
    kept_full kept.Full asked opens e = inr (asked, opens)
    kept_full kept.Disk asked opens e = absurd (omega (arith, e))
    kept_full kept.Astray asked opens e = absurd (omega (arith, e))
    kept_full kept.Failed asked opens e = absurd (omega (arith, e))
    kept_full kept.Spent asked opens e = absurd (omega (arith, e))
    kept_full kept.Memory asked opens e = absurd (omega (arith, e))

    open_full : (asked : LogServeLine) (outcome : LogServeOutcome) → Opens asked outcome →
        outcome_status outcome ≡ 12 → FillsFile Door Ear Source Sink Clock Disk Shelf net shelf net' shelf'
    open_full asked (Ok summary) opens e = absurd (omega (arith, e))
    open_full asked (Err unserved.Line) opens e = absurd (omega (arith, e))
    open_full asked (Err unserved.Memory) opens e = absurd (omega (arith, e))
    open_full asked (Err unserved.Shelf) opens e = absurd (omega (arith, e))
    open_full asked (Err (unserved.Log f)) opens e = log_full f asked opens e
    open_full asked (Err (unserved.Kept f)) opens e = kept_full f asked opens e

    run_full : {A : Type 0} (words : List (String A)) (outcome : LogServeOutcome) → Ran words outcome →
        outcome_status outcome ≡ 12 → FillsFile Door Ear Source Sink Clock Disk Shelf net shelf net' shelf'
    run_full words outcome (serving.refused none same) e = absurd (omega (arith, e))
    run_full words outcome (serving.starved same) e = absurd (omega (arith, e))
    run_full words outcome (serving.closed asked is closed) e = absurd (omega (arith, e))
    run_full words outcome (serving.opened asked outcome0 is opens) e = open_full asked outcome opens e

    log_heard : (f : LogFault) → fault_status_of f ≡ 6 → ⊥
    log_heard fault.Disk e = omega (arith, e)
    log_heard fault.NotALog e = omega (arith, e)
    log_heard (fault.Damaged at) e = omega (arith, e)
    log_heard fault.Full e = omega (arith, e)
    log_heard fault.Memory e = omega (arith, e)

    kept_unheard : (f : KeptFault) (asked : LogServeLine) → Opens asked (Err (unserved.Kept f)) →
        kept_status_of f ≡ 6 → StopsHearing Door Ear Source Sink Clock Disk Shelf net shelf net' shelf'
    kept_unheard kept.Failed asked opens e = inl (asked, opens)
    kept_unheard kept.Spent asked opens e = inr (asked, opens)
    kept_unheard kept.Disk asked opens e = absurd (omega (arith, e))
    kept_unheard kept.Full asked opens e = absurd (omega (arith, e))
    kept_unheard kept.Astray asked opens e = absurd (omega (arith, e))
    kept_unheard kept.Memory asked opens e = absurd (omega (arith, e))

    open_unheard : (asked : LogServeLine) (outcome : LogServeOutcome) → Opens asked outcome →
        outcome_status outcome ≡ 6 → StopsHearing Door Ear Source Sink Clock Disk Shelf net shelf net' shelf'
    open_unheard asked (Ok summary) opens e = absurd (omega (arith, e))
    open_unheard asked (Err unserved.Line) opens e = absurd (omega (arith, e))
    open_unheard asked (Err unserved.Memory) opens e = absurd (omega (arith, e))
    open_unheard asked (Err unserved.Shelf) opens e = absurd (omega (arith, e))
    open_unheard asked (Err (unserved.Log f)) opens e = absurd (log_heard f e)
    open_unheard asked (Err (unserved.Kept f)) opens e = kept_unheard f asked opens e

    run_unheard : {A : Type 0} (words : List (String A)) (outcome : LogServeOutcome) → Ran words outcome →
        outcome_status outcome ≡ 6 → StopsHearing Door Ear Source Sink Clock Disk Shelf net shelf net' shelf'
    run_unheard words outcome (serving.refused none same) e = absurd (omega (arith, e))
    run_unheard words outcome (serving.starved same) e = absurd (omega (arith, e))
    run_unheard words outcome (serving.closed asked is closed) e = absurd (omega (arith, e))
    run_unheard words outcome (serving.opened asked outcome0 is opens) e = open_unheard asked outcome opens e

    log_unreadable : (f : LogFault) (asked : LogServeLine) → Opens asked (Err (unserved.Log f)) → fault_status_of f ≡ 11 → IsUnreadable Door Ear Source Sink Clock Disk Shelf shelf shelf'
    log_unreadable fault.NotALog asked opens e =
        record { why = fault.NotALog; line = _; line_is = refl; stays = unready opens.disk fault.NotALog opens.back opens.lends opens.over.1 }
    log_unreadable (fault.Damaged at) asked opens e =
        record { why = fault.Damaged at; line = _; line_is = refl; stays = unready opens.disk (fault.Damaged at) opens.back opens.lends opens.over.1 }
    log_unreadable fault.Disk asked opens e = absurd (omega (arith, e))
    log_unreadable fault.Full asked opens e = absurd (omega (arith, e))
    log_unreadable fault.Memory asked opens e = absurd (omega (arith, e))

    kept_readable : (f : KeptFault) → kept_status_of f ≡ 11 → ⊥
    kept_readable kept.Disk e = omega (arith, e)
    kept_readable kept.Full e = omega (arith, e)
    kept_readable kept.Astray e = omega (arith, e)
    kept_readable kept.Failed e = omega (arith, e)
    kept_readable kept.Spent e = omega (arith, e)
    kept_readable kept.Memory e = omega (arith, e)

    open_unreadable : (asked : LogServeLine) (outcome : LogServeOutcome) → Opens asked outcome → outcome_status outcome ≡ 11 → IsUnreadable Door Ear Source Sink Clock Disk Shelf shelf shelf'
    open_unreadable asked (Ok summary) opens e = absurd (omega (arith, e))
    open_unreadable asked (Err unserved.Line) opens e = absurd (omega (arith, e))
    open_unreadable asked (Err unserved.Memory) opens e = absurd (omega (arith, e))
    open_unreadable asked (Err unserved.Shelf) opens e = absurd (omega (arith, e))
    open_unreadable asked (Err (unserved.Log f)) opens e = log_unreadable f asked opens e
    open_unreadable asked (Err (unserved.Kept f)) opens e = absurd (kept_readable f e)

    run_unreadable : {A : Type 0} (words : List (String A)) (outcome : LogServeOutcome) → Ran words outcome → outcome_status outcome ≡ 11 → IsUnreadable Door Ear Source Sink Clock Disk Shelf shelf shelf'
    run_unreadable words outcome (serving.refused none same) e = absurd (omega (arith, e))
    run_unreadable words outcome (serving.starved same) e = absurd (omega (arith, e))
    run_unreadable words outcome (serving.closed asked is closed) e = absurd (omega (arith, e))
    run_unreadable words outcome (serving.opened asked outcome0 is opens) e = open_unreadable asked outcome opens e

    pub log_serve_causes : {A : Type 0} (words : List (String A)) (outcome : LogServeOutcome) (status : ℕ) (before after : Option Bytes) → Ran words outcome →
        Tells outcome status before after → LogServeCauses Door Ear Source Sink Clock Disk Shelf net shelf net' shelf' status
    log_serve_causes words outcome status before after ran told =
        let own = told_own outcome status before after told in
        record {
          one = status_one outcome status before after told;
          unheard = λ e. run_unheard words outcome ran (own_but (outcome_status outcome) status 6 (λ z. omega (arith, z)) (λ z. omega (arith, z)) own e);
          failed = λ e. run_failed words outcome ran (own_but (outcome_status outcome) status 10 (λ z. omega (arith, z)) (λ z. omega (arith, z)) own e);
          unreadable = λ e. run_unreadable words outcome ran (own_but (outcome_status outcome) status 11 (λ z. omega (arith, z)) (λ z. omega (arith, z)) own e);
          full = λ e. run_full words outcome ran (own_but (outcome_status outcome) status 12 (λ z. omega (arith, z)) (λ z. omega (arith, z)) own e);
        }
