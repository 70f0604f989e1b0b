-- That a program whose words are a line of it is done to its end, where nothing hinders it.
use Rattle.std.proofs.Common.{◌≡◌, ◌≢◌, ◌⊎◌, inl, inr, ℕ, List, Option, Result, Ok, Err, refl, subst}
use Rattle.clap.specs.Words.{Text}
use Rattle.sk_launcher.specs.declared.counts.Counts.{Counts}
use Rattle.sk_launcher.specs.declared.launch_fault.LaunchFault.{LaunchFault}
use Rattle.sk_launcher.specs.declared.launch_fault.LaunchFault.TheVariants as launch
use Rattle.sk_launcher.specs.declared.work_settings.WorkSettings.{WorkSettings}
use Rattle.sk_line.specs.Lines.{IsServe}
use Rattle.sk_line.specs.Soak as line
use Rattle.sk_line.specs.Work.{IsWork}
use Rattle.sk_line.specs.declared.serve_line.ServeLine.{ServeLine}
use Rattle.sk_line.specs.declared.soak_line.SoakLine.{SoakLine}
use Rattle.sk_line.specs.declared.status_line.StatusLine.{StatusLine}
use Rattle.sk_link.specs.Call.{Call}
use Rattle.sk_link.specs.Wire.{WireState}
use Rattle.sk_link.specs.declared.link.LinkFault.TheVariants as link
use Rattle.sk_middle.specs.declared.chain.Through.{Through}
use Rattle.sk_payload.specs.declared.draft.JobDraft.{JobDraft}
use Rattle.sk_resp.specs.Spelling.{Bytes}
use Rattle.sk_serve.specs.declared.serve_end.ServeEnd.{ServeEnd}
use Rattle.sk_serve.specs.declared.serve_end.ServeEnd.TheVariants as end
use Rattle.sk_app.specs.Completing.{DoneOr, IsBroken, ServeHindered, WorkHindered, closed, spoilt}
use Rattle.sk_app.specs.Hindering.{FailsOver, IsHindered}
use Rattle.sk_compare.specs.declared.difference.Difference.{Difference}
use Rattle.sk_drill.specs.declared.drill_end.DrillEnd.{DrillEnd}
use Rattle.sk_drill.specs.declared.drill_end.DrillEnd.TheVariants as drill_end
use Rattle.sk_line.specs.Drill.{IsDrill}
use Rattle.sk_line.specs.declared.drill_line.DrillLine.{DrillLine}
use Rattle.sk_app.specs.Drilling.{DrillRun}
use Rattle.sk_app.specs.Drilling as drilling
use Rattle.sk_app.specs.Dialogue.{Dialogue, DoorTells, fresh}
use Rattle.sk_app.specs.Dialogue as dialogue
use Rattle.sk_app.specs.Ending.{Concludes}
use Rattle.sk_app.specs.Paging.{Asks, IsPageSpoilt}
use Rattle.sk_app.specs.Questions.{QuestionRun}
use Rattle.sk_app.specs.Questions as questions
use Rattle.sk_app.specs.Pushing.{IsPushSpoilt, PushRun, Pushes}
use Rattle.sk_app.specs.Pushing as pushing
use Rattle.sk_app.specs.Serving.{IsOutcome, ServeRun, Serves}
use Rattle.sk_app.specs.Serving as serving
use Rattle.sk_app.specs.Soaking.{SoakRun, Soaks}
use Rattle.sk_app.specs.Soaking as soaking
use Rattle.sk_app.specs.Working.{WorkRun}
use Rattle.sk_app.specs.Working as working
use Rattle.sk_app.specs.declared.failure.Failure.{Failure}
use Rattle.sk_app.specs.declared.failure.Failure.TheVariants as failure
use Rattle.sk_app.specs.declared.job.PushJob.{PushJob}
use Rattle.sk_app.proofs.Spoilt.{asks_spoilt, pushes_spoilt}

-- ## Outcomes

pub concluded : (outcome : Result Bytes Failure) (status : ℕ) (before after : Option Bytes) → Concludes outcome status before after → status ≢ 4 → DoneOr (IsHindered outcome) status
concluded (Ok output) status before after (inl all) whole = inl all.0
concluded (Ok output) status before after (inr (inl some)) whole = absurd (whole some.0)
concluded (Ok output) status before after (inr (inr none)) whole = inr (inl none.0)
concluded (Err failure.Memory) status before after told whole = inr (inl told.0)
concluded (Err (failure.Link link.Memory)) status before after told whole = inr (inl told.0)
concluded (Err failure.Line) status before after told whole = inr (inr tt)
concluded (Err failure.Door) status before after told whole = inr (inr tt)
concluded (Err failure.Seats) status before after told whole = inr (inr tt)
concluded (Err (failure.Link link.Failed)) status before after told whole = inr (inr tt)
concluded (Err (failure.Link link.Ended)) status before after told whole = inr (inr tt)
concluded (Err (failure.Link (link.Unreadable bytes))) status before after told whole = inr (inr tt)
concluded (Err (failure.Refused r)) status before after told whole = inr (inr tt)
concluded (Err (failure.Cursor bytes)) status before after told whole = inr (inr tt)
concluded (Err failure.GenLimit) status before after told whole = inr (inr tt)
concluded (Err (failure.Differs d)) status before after told whole = inr (inr tt)

pub or_else : (A B : Type 0) (status : ℕ) → DoneOr A status → (A → B) → DoneOr B status
or_else A B status (inl done) f = inl done
or_else A B status (inr (inl starved)) f = inr (inl starved)
or_else A B status (inr (inr a)) f = inr (inr (f a))

-- ## soak

soaked : (asked : SoakLine) (outcome : Result Bytes Failure) → Soaks asked outcome → IsHindered outcome → ⊥
soaked asked outcome soaking.starved hindered = hindered
soaked asked outcome (soaking.soaked summary is) hindered = hindered

soak_ran : (words : List Text) (asked : SoakLine) (outcome : Result Bytes Failure) → line.IsSoak words asked → SoakRun words outcome → IsHindered outcome → ⊥
soak_ran words asked outcome is (soaking.refused none) hindered = none asked is
soak_ran words asked outcome is soaking.unread hindered = hindered
soak_ran words asked outcome is (soaking.ran asked0 outcome0 is0 soaks) hindered = soaked asked0 outcome soaks hindered

done : (status : ℕ) → DoneOr ⊥ status → (status ≡ 0) ⊎ (status ≡ 5)
done status (inl all) = inl all
done status (inr (inl starved)) = inr starved
done status (inr (inr none)) = absurd none

pub soak_completes : (words : List Text) (asked : SoakLine) (outcome : Result Bytes Failure) (status : ℕ) (before after : Option Bytes) → line.IsSoak words asked →
    SoakRun words outcome → Concludes outcome status before after → status ≢ 4 → (status ≡ 0) ⊎ (status ≡ 5)
soak_completes words asked outcome status before after is came told whole =
    done status (or_else (IsHindered outcome) ⊥ status (concluded outcome status before after told whole) (soak_ran words asked outcome is came))

-- ## serve

serve_ended : (words : List Text) (Ended : ServeLine → ServeEnd → Type 0) (asked : ServeLine) (outcome : Result Bytes Failure) (how : ServeEnd) → Ended asked how
    → outcome ≡ serving.outcome_of how → IsHindered outcome → IsServe words asked → ServeHindered words Ended
serve_ended words Ended asked outcome (end.Served s) ended is hindered line = absurd (subst IsHindered is hindered)
serve_ended words Ended asked outcome end.Failed ended is hindered line = (asked, line, inl ended)
serve_ended words Ended asked outcome end.Spent ended is hindered line = (asked, line, inr ended)
serve_ended words Ended asked outcome end.Memory ended is hindered line = absurd (subst IsHindered is hindered)

served : (words : List Text) (Ended : ServeLine → ServeEnd → Type 0) (asked : ServeLine) (outcome : Result Bytes Failure) → IsServe words asked → (s : Serves asked Ended outcome) →
    IsOutcome s.how outcome → IsHindered outcome → ServeHindered words Ended
served words Ended asked outcome line s (inl is) hindered = serve_ended words Ended asked outcome s.how s.ended is hindered line
served words Ended asked outcome line s (inr starved) hindered = absurd (subst IsHindered starved hindered)

serve_ran : (words : List Text) (Untouched : Type 0) (Ended : ServeLine → ServeEnd → Type 0) (asked : ServeLine) (outcome : Result Bytes Failure) → IsServe words asked →
    ServeRun words Untouched Ended outcome → IsHindered outcome → ServeHindered words Ended
serve_ran words Untouched Ended asked outcome is (serving.refused none untouched) hindered = absurd (none asked is)
serve_ran words Untouched Ended asked outcome is serving.starved hindered = absurd hindered
serve_ran words Untouched Ended asked outcome is (serving.served asked0 outcome0 is0 serves) hindered = served words Ended asked0 outcome is0 serves serves.is hindered

pub serve_completes : (words : List Text) (Untouched : Type 0) (Ended : ServeLine → ServeEnd → Type 0) (asked : ServeLine) (outcome : Result Bytes Failure) (status : ℕ) (before after : Option Bytes) →
    IsServe words asked → ServeRun words Untouched Ended outcome → Concludes outcome status before after → status ≢ 4 → DoneOr (ServeHindered words Ended) status
serve_completes words Untouched Ended asked outcome status before after is came told whole =
    or_else (IsHindered outcome) (ServeHindered words Ended) status (concluded outcome status before after told whole) (serve_ran words Untouched Ended asked outcome is came)

-- ## Programs that ask a store one thing

module _ {Conn : Type 0} (before after : DoorTells Conn) (Carries : WireState Conn → WireState Conn → List Call → Type 0) where
  module _ {Line : Type 0} (Asks : Line → (List Call → Type 0) → Result Bytes Failure → Type 0) where
    pub asked_broken : (line : Line) (outcome : Result Bytes Failure) → Dialogue before after (λ a b outcome. Asks line (Carries a b) outcome) outcome →
        IsHindered outcome → IsBroken before after Carries (FailsOver (Asks line))
    asked_broken line outcome (dialogue.closed rose) hindered = closed rose
    asked_broken line outcome dialogue.starved hindered = absurd hindered
    asked_broken line (Ok output) (dialogue.held conn end outcome0 visits asks) hindered = absurd hindered
    asked_broken line (Err f) (dialogue.held conn end outcome0 visits asks) hindered = spoilt conn end (f, hindered, asks)

    module _ (IsLine : Line → Type 0) (Untouched : Type 0) where
      asked_ran : (line : Line) (outcome : Result Bytes Failure) → IsLine line →
          QuestionRun IsLine Untouched (λ line outcome. Dialogue before after (λ a b outcome. Asks line (Carries a b) outcome) outcome) outcome → IsHindered outcome →
          (asked : Line) × IsLine asked × IsBroken before after Carries (FailsOver (Asks asked))
      asked_ran line outcome is (questions.refused none untouched) hindered = absurd (none line is)
      asked_ran line outcome is questions.starved hindered = absurd hindered
      asked_ran line outcome is (questions.spoke asked outcome0 is0 speaks) hindered = (asked, is0, asked_broken asked outcome speaks hindered)

      pub asked_completes : (line : Line) (outcome : Result Bytes Failure) (status : ℕ) (taken taken' : Option Bytes) → IsLine line →
          QuestionRun IsLine Untouched (λ line outcome. Dialogue before after (λ a b outcome. Asks line (Carries a b) outcome) outcome) outcome →
          Concludes outcome status taken taken' → status ≢ 4 → DoneOr ((asked : Line) × IsLine asked × IsBroken before after Carries (FailsOver (Asks asked))) status
      asked_completes line outcome status taken taken' is came told whole =
          or_else (IsHindered outcome) _ status (concluded outcome status taken taken' told whole) (asked_ran line outcome is came)

  -- ## status

  page_broken : IsBroken before after Carries (FailsOver Asks) → IsBroken before after Carries IsPageSpoilt
  page_broken (closed rose) = closed rose
  page_broken (spoilt conn end fails) = spoilt conn end (asks_spoilt (Carries (fresh conn) end) fails.0 fails.2 fails.1)

  pub page_done : (status : ℕ) (IsLine : StatusLine → Type 0) →
      DoneOr ((asked : StatusLine) × IsLine asked × IsBroken before after Carries (FailsOver Asks)) status → DoneOr (IsBroken before after Carries IsPageSpoilt) status
  page_done status IsLine done = or_else _ _ status done (λ asked. page_broken asked.2)

  -- ## push

  push_broken : (job : PushJob) (outcome : Result Bytes Failure) → Dialogue before after (λ a b outcome. Pushes (Carries a b) job outcome) outcome → IsHindered outcome →
      outcome ≢ Err failure.Line → IsBroken before after Carries (IsPushSpoilt job)
  push_broken job outcome (dialogue.closed rose) hindered line = closed rose
  push_broken job outcome dialogue.starved hindered line = absurd hindered
  push_broken job outcome (dialogue.held conn end outcome0 visits pushes) hindered line =
      spoilt conn end (pushes_spoilt (Carries (fresh conn) end) job pushes.pushed outcome pushes.sent pushes.told hindered line)

  push_ran : (words : List Text) (Untouched : Type 0) (Drawn : ℕ → ℕ → ℕ → Type 0) (Applied : JobDraft → Through → Type 0) (outcome : Result Bytes Failure) →
      PushRun words Untouched Drawn Applied (λ job outcome. Dialogue before after (λ a b outcome. Pushes (Carries a b) job outcome) outcome) outcome → IsHindered outcome →
      outcome ≢ Err failure.Line → (job : PushJob) × IsBroken before after Carries (IsPushSpoilt job)
  push_ran words Untouched Drawn Applied outcome (pushing.refused none untouched) hindered line = absurd (line refl)
  push_ran words Untouched Drawn Applied outcome (pushing.unwritten job wanted faulty untouched) hindered line = absurd (line refl)
  push_ran words Untouched Drawn Applied outcome (pushing.halted wanted untouched) hindered line = absurd hindered
  push_ran words Untouched Drawn Applied outcome pushing.starved hindered line = absurd hindered
  push_ran words Untouched Drawn Applied outcome (pushing.spoke job outcome0 wanted speaks) hindered line = (job, push_broken job outcome speaks hindered line)

  pub push_completes : (words : List Text) (Untouched : Type 0) (Drawn : ℕ → ℕ → ℕ → Type 0) (Applied : JobDraft → Through → Type 0) (outcome : Result Bytes Failure)
      (status : ℕ) (taken taken' : Option Bytes) →
      PushRun words Untouched Drawn Applied (λ job outcome. Dialogue before after (λ a b outcome. Pushes (Carries a b) job outcome) outcome) outcome →
      Concludes outcome status taken taken' → status ≢ 2 → status ≢ 4 →
      DoneOr ((job : PushJob) × IsBroken before after Carries (IsPushSpoilt job)) status
  push_completes words Untouched Drawn Applied outcome status taken taken' came told lined whole =
      or_else (IsHindered outcome) _ status (concluded outcome status taken taken' told whole)
      (λ hindered. push_ran words Untouched Drawn Applied outcome came hindered (λ e. lined (refused_status outcome status taken taken' e told)))
    where
      refused_status : (outcome : Result Bytes Failure) (status : ℕ) (taken taken' : Option Bytes) → outcome ≡ Err failure.Line → Concludes outcome status taken taken' → status ≡ 2
      refused_status outcome status taken taken' is told = (subst (λ o. Concludes o status taken taken') is told).0

-- ## work

work_ended : (teams : ℕ) (words : List Text) (Launches : WorkSettings → Result Counts LaunchFault → Type 0) (asked : WorkSettings) (how : Result Counts LaunchFault)
    (outcome : Result Bytes Failure) → IsWork teams words asked → Launches asked how → outcome ≡ working.outcome_of how → IsHindered outcome → WorkHindered teams words Launches
work_ended teams words Launches asked (Ok counts) outcome line launches is hindered = absurd (subst IsHindered is hindered)
work_ended teams words Launches asked (Err launch.Memory) outcome line launches is hindered = absurd (subst IsHindered is hindered)
work_ended teams words Launches asked (Err launch.Door) outcome line launches is hindered = (asked, line, launch.Door, (λ e. absurd (cc e)), launches)
work_ended teams words Launches asked (Err (launch.Link f)) outcome line launches is hindered = (asked, line, launch.Link f, (λ e. absurd (cc e)), launches)
work_ended teams words Launches asked (Err (launch.Refused r)) outcome line launches is hindered = (asked, line, launch.Refused r, (λ e. absurd (cc e)), launches)
work_ended teams words Launches asked (Err launch.GenLimit) outcome line launches is hindered = (asked, line, launch.GenLimit, (λ e. absurd (cc e)), launches)

worked : (teams : ℕ) (words : List Text) (Launches : WorkSettings → Result Counts LaunchFault → Type 0) (asked : WorkSettings) (how : Result Counts LaunchFault)
    (outcome : Result Bytes Failure) → IsWork teams words asked → Launches asked how → working.IsOutcome how outcome → IsHindered outcome → WorkHindered teams words Launches
worked teams words Launches asked how outcome line launches (inl is) hindered = work_ended teams words Launches asked how outcome line launches is hindered
worked teams words Launches asked how outcome line launches (inr starved) hindered = absurd (subst IsHindered starved hindered)

work_ran : (teams : ℕ) (words : List Text) (Untouched : Type 0) (Launches : WorkSettings → Result Counts LaunchFault → Type 0) (asked : WorkSettings) (outcome : Result Bytes Failure) →
    IsWork teams words asked → WorkRun teams words Untouched Launches outcome → IsHindered outcome → WorkHindered teams words Launches
work_ran teams words Untouched Launches asked outcome is (working.refused none untouched) hindered = absurd (none asked is)
work_ran teams words Untouched Launches asked outcome is working.starved hindered = absurd hindered
work_ran teams words Untouched Launches asked outcome is (working.worked asked0 how outcome0 is0 launches comes) hindered =
    worked teams words Launches asked0 how outcome is0 launches comes hindered

pub work_completes : (teams : ℕ) (words : List Text) (Untouched : Type 0) (Launches : WorkSettings → Result Counts LaunchFault → Type 0) (asked : WorkSettings) (outcome : Result Bytes Failure)
    (status : ℕ) (taken taken' : Option Bytes) → IsWork teams words asked → WorkRun teams words Untouched Launches outcome → Concludes outcome status taken taken' → status ≢ 4 →
    DoneOr (WorkHindered teams words Launches) status
work_completes teams words Untouched Launches asked outcome status taken taken' is came told whole =
    or_else (IsHindered outcome) (WorkHindered teams words Launches) status (concluded outcome status taken taken' told whole) (work_ran teams words Untouched Launches asked outcome is came)

-- a launcher that did it with these rules did it with some
pub with_some : {Rules : Type 0} (teams : ℕ) (words : List Text) (Launches : Rules → WorkSettings → Result Counts LaunchFault → Type 0) (rules : Rules) (status : ℕ) →
    DoneOr (WorkHindered teams words (Launches rules)) status → DoneOr (WorkHindered teams words (λ line how. (rs : Rules) × Launches rs line how)) status
with_some teams words Launches rules status (inl done) = inl done
with_some teams words Launches rules status (inr (inl starved)) = inr (inl starved)
with_some teams words Launches rules status (inr (inr (line, is, fault, sound, launched))) = inr (inr (line, is, fault, sound, (rules, launched)))

-- ## drill

-- the outcome is a difference, which has status 8, or there was no memory to write it
differed : (d : Difference) (outcome : Result Bytes Failure) (status : ℕ) (taken taken' : Option Bytes) → outcome ≡ Err (failure.Differs d) →
    Concludes outcome status taken taken' → status ≢ 4 → DoneOr (status ≡ 8) status
differed d outcome status taken taken' is told whole = written status (subst (λ o. Concludes o status taken taken') is told) whole
  where
    written : (status : ℕ) → Concludes (Err (failure.Differs d)) status taken taken' → status ≢ 4 → DoneOr (status ≡ 8) status
    written status (inl all) whole = inr (inr all.0)
    written status (inr (inl some)) whole = absurd (whole some.0)
    written status (inr (inr none)) whole = inr (inl none.0)

drill_ended : (asked : DrillLine) (how : DrillEnd) (outcome : Result Bytes Failure) (status : ℕ) (taken taken' : Option Bytes) → outcome ≡ drilling.outcome_of asked how →
    Concludes outcome status taken taken' → status ≢ 4 → DoneOr (status ≡ 8) status
drill_ended asked (drill_end.Alike d) outcome status taken taken' is told whole =
    or_else (IsHindered outcome) (status ≡ 8) status (concluded outcome status taken taken' told whole) (λ hindered. absurd (subst IsHindered is hindered))
drill_ended asked (drill_end.Differs seat place told_ noted) outcome status taken taken' is told whole =
    differed (drilling.difference seat place told_ noted) outcome status taken taken' is told whole
drill_ended asked drill_end.Memory outcome status taken taken' is told whole =
    or_else (IsHindered outcome) (status ≡ 8) status (concluded outcome status taken taken' told whole) (λ hindered. absurd (subst IsHindered is hindered))

drill_came : (asked : DrillLine) (how : DrillEnd) (outcome : Result Bytes Failure) (status : ℕ) (taken taken' : Option Bytes) → drilling.IsOutcome asked how outcome →
    Concludes outcome status taken taken' → status ≢ 4 → DoneOr (status ≡ 8) status
drill_came asked how outcome status taken taken' (inl is) told whole = drill_ended asked how outcome status taken taken' is told whole
drill_came asked how outcome status taken taken' (inr starved) told whole =
    or_else (IsHindered outcome) (status ≡ 8) status (concluded outcome status taken taken' told whole) (λ hindered. absurd (subst IsHindered starved hindered))

pub drill_completes : (teams : ℕ) (words : List Text) (Untouched : Type 0) (Drills : DrillLine → DrillEnd → Type 0) (asked : DrillLine) (outcome : Result Bytes Failure)
    (status : ℕ) (taken taken' : Option Bytes) → IsDrill teams words asked → DrillRun teams words Untouched Drills outcome → Concludes outcome status taken taken' → status ≢ 4 →
    DoneOr (status ≡ 8) status
drill_completes teams words Untouched Drills asked outcome status taken taken' is (drilling.refused none untouched) told whole = absurd (none asked is)
drill_completes teams words Untouched Drills asked outcome status taken taken' is drilling.starved told whole = inr (inl told.0)
drill_completes teams words Untouched Drills asked outcome status taken taken' is (drilling.drilled asked0 how outcome0 is0 drills comes) told whole =
    drill_came asked0 how outcome status taken taken' comes told whole
