-- How a worker comes to the stage where it says that a run returned.
use Rattle.std.proofs.Common.{◌≡◌, ◌∙◌, Bool, true, false, List, [], ◌∷◌, refl, sym, ap, Some, codes}
use Rattle.std.proofs.lemmas.Bool.{true≢false}
use Rattle.sk_resp.specs.Spelling.{Bytes}
use Rattle.sk_resp.specs.declared.reply.Reply.{Reply}
use Rattle.sk_payload.specs.Head.{head}
use Rattle.sk_payload.specs.declared.head.Head.{Head}
use Rattle.sk_link.specs.declared.asking.Answer.{Answer}
use Rattle.sk_worker.specs.Event.{Event, ran}
use Rattle.sk_worker.specs.Forms.{ReturnedForm, call}
use Rattle.sk_worker.specs.Request.{script_words}
use Rattle.sk_worker.specs.Stage
use Rattle.sk_worker.specs.Stage.{Settings, Stage, Line, Step, holding, started, returned, raised, failed, decided, releasing, over, asks, runs, chooses}
use Rattle.sk_link.specs.Walk.{Walk}
use Rattle.sk_worker.specs.declared.job.Outcome.TheVariants as outcome

-- the run failed, or the job has its place
abbrev is_late : Stage → Bool
is_late (holding c) = false
is_late (started c h) = false
is_late (returned c) = false
is_late stage = true

abbrev is_returned : Stage → Bool
is_returned (returned c) = true
is_returned stage = false

abbrev payload_of : Stage → Bytes
payload_of (returned c) = c
payload_of stage = []

late-line : (w : Settings) (from : Stage) (request : List Bytes) (wanted : Answer) (next : Reply → Stage) → Line w from request wanted next → is_late from ≡ true → (r : Reply) → is_late (next r) ≡ true
late-line w from request wanted next (Stage.bury_bare c none) h r = refl
late-line w from request wanted next (Stage.start c head_ is) h r = absurd (true≢false (sym h))
late-line w from request wanted next (Stage.finish c) h r = refl
late-line w from request wanted next (Stage.fail c head_ raised_) h r = refl
late-line w from request wanted next (Stage.fail_unknown c head_ none) h r = refl
late-line w from request wanted next (Stage.retry c p raised_ now score text) h r = refl
late-line w from request wanted next (Stage.bury c p raised_ now text) h r = refl
late-line w from request wanted next (Stage.drop c raised_ now) h r = refl
late-line w from request wanted next (Stage.release c t) h r = refl

late-step : (w : Settings) (from : Stage) (event : Event) (next : Stage) → Step w from event next → is_late from ≡ true → is_late next ≡ true
late-step w from event next (asks from0 request wanted nexts r line ok) h = late-line w from0 request wanted nexts line h r
late-step w from event next (runs c head_ o there) h = absurd (true≢false (sym h))
late-step w from event next (chooses c head_ raised_ moment word delay) h = refl

never_returned : (w : Settings) (from : Stage) (said : Bytes) (events : List Event) → is_late from ≡ true → Walk (Step w) from events (returned said) → ⊥
never_returned w from said [] h walk = true≢false (sym (ap is_late walk ∙ h))
never_returned w from said (event ∷ events) h walk = never_returned w walk.0 said events (late-step w from event walk.0 walk.1 h) walk.2

of_returned_step : (w : Settings) (c said : Bytes) (event : Event) (next : Stage) (events : List Event) → Step w (returned c) event next → Walk (Step w) next events (returned said) → ⊥
of_returned_step w c said event next events (asks from request wanted nexts r (Stage.finish c0) ok) walk = never_returned w _ said events refl walk

of_returned : (w : Settings) (c said : Bytes) (events : List Event) → Walk (Step w) (returned c) events (returned said) → (events ≡ []) × (said ≡ c)
of_returned w c said [] walk = (refl, ap payload_of walk)
of_returned w c said (event ∷ events) walk = absurd (of_returned_step w c said event walk.0 events walk.1 walk.2)

of_started_step : (w : Settings) (c said : Bytes) (h : Head) (start : Reply) (event : Event) (next : Stage) (events : List Event) → head c ≡ Some h →
    Step w (started c h) event next → Walk (Step w) next events (returned said) → ReturnedForm w c said (call (script_words (codes "SK.START") c) start ∷ event ∷ events)
of_started_step w c said h start event next events is (asks from request wanted nexts r (Stage.fail_unknown c0 h0 none) ok) walk = absurd (never_returned w _ said events refl walk)
of_started_step w c said h start event next events is (runs c0 h0 outcome.Returned there) walk =
    let e = of_returned w c said events walk in
    record {
      h = h;
      start = start;
      is = is;
      registered = there;
      same = e.1;
      are = ap (λ es. call (script_words (codes "SK.START") c) start ∷ ran (record { head = h; outcome = outcome.Returned }) ∷ es) e.0;
    }
of_started_step w c said h start event next events is (runs c0 h0 (outcome.Raised r) there) walk = absurd (never_returned w _ said events refl walk)

of_started : (w : Settings) (c said : Bytes) (h : Head) (start : Reply) (events : List Event) → head c ≡ Some h →
    Walk (Step w) (started c h) events (returned said) → ReturnedForm w c said (call (script_words (codes "SK.START") c) start ∷ events)
of_started w c said h start [] is walk = absurd (true≢false (ap is_returned walk))
of_started w c said h start (event ∷ events) is walk = of_started_step w c said h start event walk.0 events is walk.1 walk.2

of_holding_step : (w : Settings) (c said : Bytes) (event : Event) (next : Stage) (events : List Event) →
    Step w (holding c) event next → Walk (Step w) next events (returned said) → ReturnedForm w c said (event ∷ events)
of_holding_step w c said event next events (asks from request wanted nexts r (Stage.bury_bare c0 none) ok) walk = absurd (never_returned w _ said events refl walk)
of_holding_step w c said event next events (asks from request wanted nexts r (Stage.start c0 h is) ok) walk = of_started w c said h r events is walk

pub ok_after_its_run : (w : Settings) (c said : Bytes) (events : List Event) → Walk (Step w) (holding c) events (returned said) → ReturnedForm w c said events
ok_after_its_run w c said [] walk = absurd (true≢false (ap is_returned walk))
ok_after_its_run w c said (event ∷ events) walk = of_holding_step w c said event walk.0 events walk.1 walk.2
