-- What the table leaves of a turn: one of four forms.
use Rattle.std.proofs.Common.{◌≡◌, [], ◌∷◌, List, ℕ, refl, sym, ap, subst, Bool, true, false, Some, ◌%◌, codes}
use Rattle.std.proofs.lemmas.Bool.{true≢false}
use Rattle.std.specs.Prelude.{IsSome}
use Rattle.sk_resp.specs.Spelling.{Bytes}
use Rattle.sk_resp.specs.declared.reply.Reply.{Reply}
use Rattle.sk_payload.specs.Head.{head}
use Rattle.sk_payload.specs.declared.head.Head.{Head}
use Rattle.sk_policy.specs.Decision.{decision}
use Rattle.sk_policy.specs.declared.decision.Decision.{Decision}
use Rattle.sk_policy.specs.declared.decision.Decision.TheVariants as decide
use Rattle.sk_worker.specs.Request.{script_words, retry_words, release_words}
use Rattle.sk_worker.specs.Run.{place_of}
use Rattle.sk_worker.specs.Event.{Event, ran, chose}
use Rattle.sk_worker.specs.Stage
use Rattle.sk_worker.specs.Stage.{Settings, Stage, Step, Line, holding, started, returned, raised, failed, decided, releasing, over, asks, runs, chooses, unknown}
use Rattle.sk_link.specs.Walk.{Walk}
use Rattle.sk_worker.specs.Forms.{Form, Failing, Fate}
use Rattle.sk_worker.specs.Forms
use Rattle.sk_worker.specs.declared.job.Raised.{Raised}
use Rattle.sk_worker.specs.declared.job.Outcome.TheVariants as outcome
use Rattle.sk_worker.specs.declared.turn.Turn.{Turn}
use Rattle.sk_worker.specs.declared.turn.Turn.TheVariants as turn

-- ## Where a walk may end

is_over : Stage → Bool
is_over (over t) = true
is_over s = false

turn_of : Stage → Turn
turn_of (over t) = t
turn_of s = turn.Empty

stuck : (w : Settings) (t : Turn) (d : Event) (next : Stage) → Step w (over t) d next → ⊥
stuck w t d next (asks from request wanted nexts r line ok) = elim line [ ]

-- nothing is done when all is over
after_over : (w : Settings) (t u : Turn) (ds : List Event) → Walk (Step w) (over t) ds (over u) → (ds ≡ []) × (u ≡ t)
unfolding turn_of
after_over w t u [] p = (refl, ap turn_of p)
after_over w t u (d ∷ ds) p = absurd (stuck w t d p.0 p.1)

-- ## From the end to the start

pub record Released (w : Settings) (c : Bytes) (t u : Turn) (ds : List Event) : Type 0 where
  pub reply : Reply
  pub is : ds ≡ Forms.call (release_words w.ident c) reply ∷ []
  pub turn : u ≡ t

of_releasing_step : (w : Settings) (c : Bytes) (t u : Turn) (d : Event) (next : Stage) (ds : List Event) → Step w (releasing c t) d next → Walk (Step w) next ds (over u) → Released w c t u (d ∷ ds)
of_releasing_step w c t u d next ds (asks from request wanted nexts r (Stage.release c0 t0) ok) walk =
    let e = after_over w t u ds walk in
    record { reply = r; is = ap (λ xs. Forms.call (release_words w.ident c) r ∷ xs) e.0; turn = e.1 }

of_releasing : (w : Settings) (c : Bytes) (t u : Turn) (ds : List Event) → Walk (Step w) (releasing c t) ds (over u) → Released w c t u ds
unfolding is_over
of_releasing w c t u [] p = absurd (true≢false (ap is_over p))
of_releasing w c t u (d ∷ ds) p = of_releasing_step w c t u d p.0 ds p.1 p.2

pub record Put (w : Settings) (c : Bytes) (r : Raised) (now : ℕ) (d : Decision) (u : Turn) (ds : List Event) : Type 0 where
  pub request : List Bytes
  pub put : Reply
  pub release : Reply
  pub fate : Fate c r now d request u
  pub is : ds ≡ Forms.call request put ∷ Forms.call (release_words w.ident c) release ∷ []

of_decided_step : (w : Settings) (c : Bytes) (r : Raised) (now : ℕ) (x : Decision) (u : Turn) (d : Event) (next : Stage) (ds : List Event) →
    Step w (decided c r now x) d next → Walk (Step w) next ds (over u) → Put w c r now x u (d ∷ ds)
of_decided_step w c r now x u d next ds (asks from request wanted nexts reply (Stage.retry c0 p r0 now0 score text) ok) walk =
    let q = of_releasing w c turn.Retried u ds walk in
    record {
      request = retry_words score p;
      put = reply;
      release = q.reply;
      fate = subst (λ t. Fate c r now (decide.Retry score) (retry_words score p) t) (sym q.turn) (Forms.retried p score text);
      is = ap (λ xs. Forms.call (retry_words score p) reply ∷ xs) q.is;
    }
of_decided_step w c r now x u d next ds (asks from request wanted nexts reply (Stage.bury c0 p r0 now0 text) ok) walk =
    let q = of_releasing w c turn.Buried u ds walk in
    record {
      request = script_words (codes "SK.BURY") p;
      put = reply;
      release = q.reply;
      fate = subst (λ t. Fate c r now decide.Bury (script_words (codes "SK.BURY") p) t) (sym q.turn) (Forms.buried p text);
      is = ap (λ xs. Forms.call (script_words (codes "SK.BURY") p) reply ∷ xs) q.is;
    }
of_decided_step w c r now x u d next ds (asks from request wanted nexts reply (Stage.drop c0 r0 now0) ok) walk =
    let q = of_releasing w c turn.Discarded u ds walk in
    record {
      request = script_words (codes "SK.DROP") c;
      put = reply;
      release = q.reply;
      fate = subst (λ t. Fate c r now decide.Discard (script_words (codes "SK.DROP") c) t) (sym q.turn) Forms.discarded;
      is = ap (λ xs. Forms.call (script_words (codes "SK.DROP") c) reply ∷ xs) q.is;
    }

of_decided : (w : Settings) (c : Bytes) (r : Raised) (now : ℕ) (x : Decision) (u : Turn) (ds : List Event) → Walk (Step w) (decided c r now x) ds (over u) → Put w c r now x u ds
unfolding is_over
of_decided w c r now x u [] p = absurd (true≢false (ap is_over p))
of_decided w c r now x u (d ∷ ds) p = of_decided_step w c r now x u d p.0 ds p.1 p.2

of_failed_step : (w : Settings) (c : Bytes) (h : Head) (r : Raised) (u : Turn) (fail : Reply) (d : Event) (next : Stage) (ds : List Event) →
    Step w (failed c h r) d next → Walk (Step w) next ds (over u) → Failing w c h r (Forms.call (script_words (codes "SK.FAIL") c) fail ∷ d ∷ ds) u
of_failed_step w c h r u fail d next ds (asks from request wanted nexts reply line ok) walk = elim line [ ]
of_failed_step w c h r u fail d next ds (chooses c0 h0 r0 moment word delay) walk =
    let q = of_decided w c r moment (decision h moment (word % 10) delay) u ds walk in
    subst (λ xs. Failing w c h r (Forms.call (script_words (codes "SK.FAIL") c) fail ∷ chose (record { class = h.class; count = h.gen_; moment = moment; word = word; delay = delay }) ∷ xs) u) (sym q.is)
    (Forms.failing moment word delay q.request u fail q.put q.release q.fate)

of_failed : (w : Settings) (c : Bytes) (h : Head) (r : Raised) (u : Turn) (fail : Reply) (ds : List Event) → Walk (Step w) (failed c h r) ds (over u) →
    Failing w c h r (Forms.call (script_words (codes "SK.FAIL") c) fail ∷ ds) u
unfolding is_over
of_failed w c h r u fail [] p = absurd (true≢false (ap is_over p))
of_failed w c h r u fail (d ∷ ds) p = of_failed_step w c h r u fail d p.0 ds p.1 p.2

of_raised_step : (w : Settings) (c : Bytes) (h : Head) (r : Raised) (u : Turn) (d : Event) (next : Stage) (ds : List Event) → Step w (raised c h r) d next → Walk (Step w) next ds (over u) → Failing w c h r (d ∷ ds) u
of_raised_step w c h r u d next ds (asks from request wanted nexts reply (Stage.fail c0 h0 r0) ok) walk = of_failed w c h r u reply ds walk

of_raised : (w : Settings) (c : Bytes) (h : Head) (r : Raised) (u : Turn) (ds : List Event) → Walk (Step w) (raised c h r) ds (over u) → Failing w c h r ds u
unfolding is_over
of_raised w c h r u [] p = absurd (true≢false (ap is_over p))
of_raised w c h r u (d ∷ ds) p = of_raised_step w c h r u d p.0 ds p.1 p.2

of_returned_step : (w : Settings) (c : Bytes) (h : Head) (u : Turn) (start : Reply) (d : Event) (next : Stage) (ds : List Event) → head c ≡ Some h → IsSome (place_of w.classes h.class) →
    Step w (returned c) d next → Walk (Step w) next ds (over u) → Form w c (Forms.call (script_words (codes "SK.START") c) start ∷ ran (record { head = h; outcome = outcome.Returned }) ∷ d ∷ ds) u
of_returned_step w c h u start d next ds is there (asks from request wanted nexts reply (Stage.finish c0) ok) walk =
    let q = of_releasing w c turn.Done u ds walk in
    subst (λ t. Form w c (Forms.call (script_words (codes "SK.START") c) start ∷ ran (record { head = h; outcome = outcome.Returned }) ∷ Forms.call (script_words (codes "SK.OK") c) reply ∷ ds) t) (sym q.turn)
    (subst (λ xs. Form w c (Forms.call (script_words (codes "SK.START") c) start ∷ ran (record { head = h; outcome = outcome.Returned }) ∷ Forms.call (script_words (codes "SK.OK") c) reply ∷ xs) turn.Done) (sym q.is)
    (Forms.returned h start reply q.reply is there))

of_returned : (w : Settings) (c : Bytes) (h : Head) (u : Turn) (start : Reply) (ds : List Event) → head c ≡ Some h → IsSome (place_of w.classes h.class) →
    Walk (Step w) (returned c) ds (over u) → Form w c (Forms.call (script_words (codes "SK.START") c) start ∷ ran (record { head = h; outcome = outcome.Returned }) ∷ ds) u
unfolding is_over
of_returned w c h u start [] is there p = absurd (true≢false (ap is_over p))
of_returned w c h u start (d ∷ ds) is there p = of_returned_step w c h u start d p.0 ds is there p.1 p.2

of_started_step : (w : Settings) (c : Bytes) (h : Head) (u : Turn) (start : Reply) (d : Event) (next : Stage) (ds : List Event) → head c ≡ Some h →
    Step w (started c h) d next → Walk (Step w) next ds (over u) → Form w c (Forms.call (script_words (codes "SK.START") c) start ∷ d ∷ ds) u
of_started_step w c h u start d next ds is (asks from request wanted nexts reply (Stage.fail_unknown c0 h0 none) ok) walk =
    Forms.unregistered h start (Forms.call (script_words (codes "SK.FAIL") c) reply ∷ ds) u is none (of_failed w c h (unknown h) u reply ds walk)
of_started_step w c h u start d next ds is (runs c0 h0 outcome.Returned there) walk = of_returned w c h u start ds is there walk
of_started_step w c h u start d next ds is (runs c0 h0 (outcome.Raised r) there) walk = Forms.raised h r start ds u is there (of_raised w c h r u ds walk)

of_started : (w : Settings) (c : Bytes) (h : Head) (u : Turn) (start : Reply) (ds : List Event) → head c ≡ Some h →
    Walk (Step w) (started c h) ds (over u) → Form w c (Forms.call (script_words (codes "SK.START") c) start ∷ ds) u
unfolding is_over
of_started w c h u start [] is p = absurd (true≢false (ap is_over p))
of_started w c h u start (d ∷ ds) is p = of_started_step w c h u start d p.0 ds is p.1 p.2

of_holding_step : (w : Settings) (c : Bytes) (u : Turn) (d : Event) (next : Stage) (ds : List Event) → Step w (holding c) d next → Walk (Step w) next ds (over u) → Form w c (d ∷ ds) u
of_holding_step w c u d next ds (asks from request wanted nexts reply (Stage.bury_bare c0 none) ok) walk =
    let q = of_releasing w c turn.Buried u ds walk in
    subst (λ t. Form w c (Forms.call (script_words (codes "SK.BURY") c) reply ∷ ds) t) (sym q.turn)
    (subst (λ xs. Form w c (Forms.call (script_words (codes "SK.BURY") c) reply ∷ xs) turn.Buried) (sym q.is) (Forms.headless reply q.reply none))
of_holding_step w c u d next ds (asks from request wanted nexts reply (Stage.start c0 h is) ok) walk = of_started w c h u reply ds is walk

pub four_forms : (w : Settings) (c : Bytes) (u : Turn) (ds : List Event) → Walk (Step w) (holding c) ds (over u) → Form w c ds u
unfolding is_over
four_forms w c u [] p = absurd (true≢false (ap is_over p))
four_forms w c u (d ∷ ds) p = of_holding_step w c u d p.0 ds p.1 p.2
