-- How a launch is told by its parts, and how it ends.
use Rattle.std.proofs.Common.{◌≡◌, ◌∙◌, ap, ◌≤◌, ◌<◌, ◌-◌, ◌^◌, min, ℕ, ℤ, List, [], ◌∷◌, subst, sym, refl, arith, inl, inr, Option, Some, None, Result, Ok, Err}
use Rattle.std.specs.Prelude.{IfOk}
use Rattle.std.specs.Result.{IsErrAnd}
use Rattle.sk_base.specs.Outside.{Rose}
use Rattle.sk_resp.specs.Spelling.{Bytes}
use Rattle.sk_launcher.specs.declared.work_settings.WorkSettings.{WorkSettings}
use Rattle.sk_link.specs.Call.{Call}
use Rattle.sk_link.specs.Wire.{WireState}
use Rattle.sk_poller.specs.Stage.{Watch}
use Rattle.sk_poller.specs.declared.poller.Loop.{Loop}
use Rattle.sk_poller.specs.declared.report.PollReport.{PollReport}
use Rattle.sk_worker.specs.Stage.{Settings}
use Rattle.sk_launcher.specs.Connections.{DoorTells}
use Rattle.sk_launcher.specs.Launching.{Given, Hindered, IsAnswer, IsLeastOf, Launched, Office, Process, closed, starved}
use Rattle.sk_launcher.specs.Patience.{LaunchEnded, either}
use Rattle.sk_launcher.specs.Polling.{PollState, PollerTurn}
use Rattle.sk_launcher.specs.Turning.{Turns, none, one_more, WentOn, whole, broken}
use Rattle.sk_launcher.specs.Counting.{no_turns, total_from}
use Rattle.sk_launcher.specs.Teams.{AreDone, HaveReturned, Team, done_in}
use Rattle.sk_launcher.proofs.Done.{total_done}
use Rattle.sk_launcher.specs.declared.counts.Counts.{Counts}
use Rattle.sk_launcher.specs.declared.launch_end.LaunchEnd.{LaunchEnd}
use Rattle.sk_launcher.specs.declared.launch_fault.LaunchFault.{LaunchFault}
use Rattle.sk_launcher.specs.declared.launch_fault.LaunchFault.TheVariants as fault

abbrev record_of : Bytes → List Loop → ℤ → Watch
record_of ident loops offset = record { ident = ident; loops = loops; offset = offset }

pub same_watch : (ident ident' : Bytes) (loops loops' : List Loop) (offset offset' : ℤ) → ident' ≡ ident → loops' ≡ loops → offset' ≡ offset
    → record_of ident' loops' offset' ≡ record_of ident loops offset
same_watch ident ident' loops loops' offset offset' a b c = cc (a, b, c)

-- a count that rose later rose
pub rose_within : (before mid now : ℕ) → before ≤ mid → Rose mid now → Rose before now
rose_within before mid now le (inl lt) = inl (omega (arith, le, lt))
rose_within before mid now le (inr top) = inr top

module _ {Conn Delay : Type 0} (Carried : WireState Conn → WireState Conn → List Call → Type 0) (Answers : Delay → ℕ → ℕ → Type 0) where
  by_cause : (DoorFailed : Type 0) (settings : WorkSettings) (rules : List Delay) (before after : Given Conn Delay) (f : LaunchFault) → Hindered DoorFailed (f ∷ []) →
      after.door ≡ before.door → Launched Carried Answers DoorFailed settings rules before after (Err f)
  by_cause DoorFailed settings rules before after fault.Memory h same = starved same
  by_cause DoorFailed settings rules before after fault.Door h same = closed h same
  by_cause DoorFailed settings rules before after (fault.Link f) h same = absurd h
  by_cause DoorFailed settings rules before after (fault.Refused r) h same = absurd h
  by_cause DoorFailed settings rules before after fault.GenLimit h same = absurd h

  -- There was no connection for the poller, or no memory.
  pub not_ready : (DoorFailed : Type 0) (settings : WorkSettings) (rules : List Delay) (before after : Given Conn Delay) (f : LaunchFault) (r : Result Counts LaunchFault) →
      IsErrAnd r (λ e. e ≡ f) → Hindered DoorFailed (f ∷ []) → after.door ≡ before.door → Launched Carried Answers DoorFailed settings rules before after r
  not_ready DoorFailed settings rules before after f (Ok counts) is h same = absurd is
  not_ready DoorFailed settings rules before after f (Err e) is h same =
      subst (λ z. Launched Carried Answers DoorFailed settings rules before after (Err z)) (sym is) (by_cause DoorFailed settings rules before after f h same)

hindered_also : (A B : Type 0) → (A → B) → (faults : List LaunchFault) → Hindered A faults → Hindered B faults
hindered_also A B f [] h = tt
hindered_also A B f (fault.Door ∷ []) h = f h
hindered_also A B f (fault.Memory ∷ []) h = tt
hindered_also A B f (fault.Link l ∷ []) h = absurd h
hindered_also A B f (fault.Refused r ∷ []) h = absurd h
hindered_also A B f (fault.GenLimit ∷ []) h = absurd h
hindered_also A B f (fault.Door ∷ x ∷ xs) h = absurd h
hindered_also A B f (fault.Memory ∷ x ∷ xs) h = absurd h
hindered_also A B f (fault.Link l ∷ x ∷ xs) h = absurd h
hindered_also A B f (fault.Refused r ∷ x ∷ xs) h = absurd h
hindered_also A B f (fault.GenLimit ∷ x ∷ xs) h = absurd h

module _ {Conn Delay Dice : Type 0} (Carried : WireState Conn → WireState Conn → List Call → Type 0) (Answers : Delay → ℕ → ℕ → Type 0) where
  -- A door that failed during the process failed during the launch.
  pub process_within : (A B : Type 0) → (A → B) → (own : List Bytes → Settings) (threads turns : ℕ) (poller : PollState (WireState Conn) Dice) (before : Office Conn Delay Dice)
      (after : DoorTells Conn) (faults : List LaunchFault) (counts : List Counts) → Process Carried Answers A own threads turns poller before after faults counts →
      Process Carried Answers B own threads turns poller before after faults counts
  process_within A B f own threads turns poller before after faults counts p = record {
    office_then = p.office_then;
    done = p.done;
    worked = p.worked;
    gone = p.gone;
    door_then = p.door_then;
    hindrance = p.hindrance;
    employed = p.employed;
    leaving_them = p.leaving_them;
    kept_first = p.kept_first;
    kept_others = p.kept_others;
    hindered = hindered_also A B f p.hindrance p.hindered;
    faults_are = p.faults_are;
    counts_are = p.counts_are;
    all = p.all;
  }

-- ## The poller's loops

module _ {Link Dice : Type 0} (Carried : Link → Link → List Call → Type 0) where
  polled_same : (answers : List PollReport) (a b : PollState Link Dice) → Turns (PollerTurn Carried) a answers b → b.watch ≡ a.watch
  polled_same [] a b none = refl
  polled_same (t ∷ answers) a b (one_more answers' mid to t' before last) = last.watch_same ∙ polled_same answers a mid before

  -- A poller watches over the same throughout.
  pub polls_same : (a b : PollState Link Dice) → WentOn (PollerTurn Carried) a b → b.watch ≡ a.watch
  polls_same a b (whole answers turns) = polled_same answers a b turns
  polls_same a b (broken answers last f turns broke) = broke.watch_same ∙ polled_same answers a last turns

-- ## How a launch ends

-- a launch that never began
pub never_began : {Conn Delay : Type 0} (Carried : WireState Conn → WireState Conn → List Call → Type 0) (Answers : Delay → ℕ → ℕ → Type 0) (DoorFailed : Type 0)
    (settings : WorkSettings) (rules : List Delay) (before after : Given Conn Delay) (sum : Counts) (end : LaunchEnd) (f : LaunchFault) → end.counts ≡ sum →
    end.fault ≡ Some f → Hindered DoorFailed (f ∷ []) → after.door ≡ before.door → LaunchEnded Carried Answers DoorFailed settings rules before after sum end
never_began Carried Answers DoorFailed settings rules before after sum end fault.Memory counted is h same =
    record { own = Err fault.Memory; launch = starved same; own_is = ap (λ z. either z no_turns) (sym is); counted = counted }
never_began Carried Answers DoorFailed settings rules before after sum end fault.Door counted is h same =
    record { own = Err fault.Door; launch = closed h same; own_is = ap (λ z. either z no_turns) (sym is); counted = counted }
never_began Carried Answers DoorFailed settings rules before after sum end (fault.Link f) counted is h same = absurd h
never_began Carried Answers DoorFailed settings rules before after sum end (fault.Refused r) counted is h same = absurd h
never_began Carried Answers DoorFailed settings rules before after sum end fault.GenLimit counted is h same = absurd h

pub answered_by : (faults : List LaunchFault) (counts : List Counts) (f : Option LaunchFault) → IsLeastOf faults f → IsAnswer faults counts (either f (total_from no_turns counts))
answered_by faults counts None is = (is, refl)
answered_by faults counts (Some f) is = is

pub some_by : (turns : ℕ) (f : Option LaunchFault) (counts : Counts) → (f ≡ None → 0 < turns) → IfOk (either f counts) (λ _. 0 < turns)
some_by turns None counts some = some refl
some_by turns (Some f) counts some = tt

-- ## What was done

sum_done : (counts : List Counts) → (total_from no_turns counts).done ≡ min (done_in counts) (2 ^ 64 - 1)
sum_done counts = let is = total_done counts no_turns 0 (omega arith) in omega (arith, is)

-- The counts of a launch without a fault are those of all workers.
pub are_done : {Delay : Type 0} (before after : List (Team Delay)) (faults : List LaunchFault) (counts : List Counts) (answered result : Result Counts LaunchFault) → IsAnswer faults counts answered →
    result ≡ answered → (faults ≡ [] → HaveReturned before after (done_in counts)) → IfOk result (λ sum. AreDone before after sum.done)
are_done before after faults counts answered (Ok sum) is same returned =
    let one = subst (λ r. IsAnswer faults counts r) (sym same) is in
    (done_in counts, returned one.0, ap (λ (c : Counts). c.done) one.1 ∙ sum_done counts)
are_done before after faults counts answered (Err f) is same returned = tt
