-- A job that was started runs once.
use Rattle.std.proofs.Common.{◌≡◌, ◌∙◌, inl, inr, ◌⊎◌, Bool, true, false, List, [], ◌∷◌, ◌++◌, refl, sym, subst, ap, Option, None, unwrap_or, Result, Ok, Err, IfOk, codes}
use Rattle.std.specs.Prelude.{IsSome}
use Rattle.std.proofs.lemmas.Bool.{true≢false}
use Rattle.std.proofs.lemmas.Option.{none-some}
use Rattle.sk_resp.specs.Spelling.{Bytes}
use Rattle.sk_resp.specs.declared.reply.Reply.{Reply}
use Rattle.sk_payload.specs.declared.head.Head.{Head}
use Rattle.sk_link.specs.Asking.{answers}
use Rattle.sk_link.specs.Walk.{Walk}
use Rattle.sk_link.specs.declared.asking.Answer.{Answer}
use Rattle.sk_link.specs.declared.link.LinkFault.{LinkFault}
use Rattle.sk_worker.specs.Broken.{Unanswered}
use Rattle.sk_worker.specs.Event.{Event, asked, runs as runs_in}
use Rattle.sk_worker.specs.Forms.{IsStarted, RanOnce, call}
use Rattle.sk_worker.specs.Request.{script_words}
use Rattle.sk_worker.specs.Run.{place_of}
use Rattle.sk_worker.specs.Stage
use Rattle.sk_worker.specs.Stage.{AtLimit, JobTranscript, Line, Settings, Stage, Step, asks, chooses, decided, ended, failed, holding, over, raised, releasing, returned, runs, started}
use Rattle.sk_worker.specs.declared.job.Outcome.{Outcome}
use Rattle.sk_worker.specs.declared.job.Outcome.TheVariants as outcome
use Rattle.sk_worker.specs.declared.turn.Turn.{Turn}
use Rattle.sk_worker.specs.declared.turn.WorkFault.{WorkFault}
use Rattle.sk_worker.specs.declared.turn.WorkFault.TheVariants as fault

-- ## The first event

-- It leads on, or it is the last one: a request without an answer as wanted.
Goes : Settings → Stage → Event → List Event → Result Turn WorkFault → Type 0
Goes w from event rest result = (next : Stage) × Step w from event next × JobTranscript w next rest result

pub record Stops (w : Settings) (from : Stage) (event : Event) (rest : List Event) : Type 0 where
  pub request : List Bytes
  pub wanted : Answer
  pub next : Reply → Stage
  pub came : Result Reply LinkFault
  pub line : Line w from request wanted next
  pub unwanted : IfOk came (λ r. answers wanted r ≡ false)
  pub is : event ≡ asked (record { request = request; reply = came })
  pub last : rest ≡ []

-- the first of some events, and the others
first_or : Event → List Event → Event
first_or d [] = d
first_or d (event ∷ events) = event

others_of : List Event → List Event
others_of [] = []
others_of (event ∷ events) = events

-- an unanswered request at once, or behind the first event
pub record Later (w : Settings) (from : Stage) (event : Event) (rest : List Event) (stage : Stage) (came : Result Reply LinkFault) : Type 0 where
  pub next : Stage
  pub step : Step w from event next
  pub rest_is : Unanswered (Line w) (Step w) next rest stage came

unanswered_by : (w : Settings) (from stage : Stage) (event : Event) (rest done : List Event) (came : Result Reply LinkFault) (request : List Bytes) (wanted : Answer)
    (next : Reply → Stage) → Walk (Step w) from done stage → Line w stage request wanted next → IfOk came (λ r. answers wanted r ≡ false) →
    event ∷ rest ≡ done ++ asked (record { request = request; reply = came }) ∷ [] → Later w from event rest stage came ⊎ Stops w from event rest
unfolding first_or others_of
unanswered_by w from stage event rest [] came request wanted next walk line unwanted are = inr (record {
  request = request;
  wanted = wanted;
  next = next;
  came = came;
  line = subst (λ s. Line w s request wanted next) walk line;
  unwanted = unwanted;
  is = ap (first_or event) are;
  last = ap others_of are;
})
unanswered_by w from stage event rest (first ∷ done) came request wanted next walk line unwanted are = inl (record {
  next = walk.0;
  step = subst (λ e. Step w from e walk.0) (sym (ap (first_or event) are)) walk.1;
  rest_is = record { done = done; walk = walk.2; request = request; wanted = wanted; next = next; line = line; unwanted = unwanted; are = ap others_of are };
})

first_event : (w : Settings) (from : Stage) (event : Event) (rest : List Event) (result : Result Turn WorkFault) → JobTranscript w from (event ∷ rest) result →
    Goes w from event rest result ⊎ Stops w from event rest
unfolding Goes
first_event w from event rest (Ok t) told = inl told
first_event w from event rest (Err (fault.Link l)) told = elim (unanswered_by w from told.0 event rest told.1.done (Err l) told.1.request told.1.wanted told.1.next told.1.walk told.1.line told.1.unwanted told.1.are) [
  | inl p ↦ inl (p.next, p.step, (told.0, p.rest_is))
  | inr p ↦ inr p
]
first_event w from event rest (Err (fault.Refused r)) told = elim (unanswered_by w from told.0 event rest told.1.done (Ok r) told.1.request told.1.wanted told.1.next told.1.walk told.1.line told.1.unwanted told.1.are) [
  | inl p ↦ inl (p.next, p.step, (told.0, p.rest_is))
  | inr p ↦ inr p
]
first_event w from event rest (Err fault.GenLimit) told = inl (told.1.0.0, told.1.0.1, (told.0, (told.1.0.2, told.1.1)))
first_event w from event rest (Err fault.Ended) told = absurd told.1
first_event w from event rest (Err fault.Memory) told = inl (told.1.0, told.1.1, (told.0, told.1.2))

-- ## No run comes later

-- the job ran, or has none
is_after : Stage → Bool
is_after (holding c) = false
is_after (started c h) = false
is_after stage = true

after_run : (c : Bytes) (h : Head) (o : Outcome) → is_after (ended c h o) ≡ true
unfolding is_after
after_run c h outcome.Returned = refl
after_run c h (outcome.Raised r) = refl

after_line : (w : Settings) (from : Stage) (request : List Bytes) (wanted : Answer) (next : Reply → Stage) (r : Reply) → Line w from request wanted next →
    is_after from ≡ true → is_after (next r) ≡ true
unfolding is_after
after_line w from request wanted next r (Stage.bury_bare c none) h = refl
after_line w from request wanted next r (Stage.start c h0 is) h = absurd (true≢false (sym h))
after_line w from request wanted next r (Stage.finish c) h = refl
after_line w from request wanted next r (Stage.fail c h0 e) h = refl
after_line w from request wanted next r (Stage.fail_unknown c h0 none) h = refl
after_line w from request wanted next r (Stage.retry c p e now score fails) h = refl
after_line w from request wanted next r (Stage.bury c p e now fails) h = refl
after_line w from request wanted next r (Stage.drop c e now) h = refl
after_line w from request wanted next r (Stage.release c t) h = refl

after_step : (w : Settings) (from next : Stage) (event : Event) (rest : List Event) → Step w from event next → is_after from ≡ true →
    (is_after next ≡ true) × (runs_in (event ∷ rest) ≡ runs_in rest)
unfolding is_after
after_step w from next event rest (asks from0 request wanted nexts r line ok) h = (after_line w from request wanted nexts r line h, refl)
after_step w from next event rest (runs c h0 o there) h = absurd (true≢false (sym h))
after_step w from next event rest (chooses c h0 r moment word delay) h = (refl, refl)

no_run_after : (w : Settings) (from : Stage) (events : List Event) (result : Result Turn WorkFault) → JobTranscript w from events result → is_after from ≡ true → runs_in events ≡ []
unfolding Goes
no_run_after w from [] result told h = refl
no_run_after w from (event ∷ rest) result told h = elim (first_event w from event rest result told) [
  | inl p ↦ let s = after_step w from p.0 event rest p.1 h in s.1 ∙ no_run_after w p.0 rest result p.2 s.0
  | inr p ↦ ap (λ e. runs_in (e ∷ rest)) p.is ∙ ap (λ es. runs_in es) p.last
]

-- ## From the start

is_over : Stage → Bool
is_over (over t) = true
is_over stage = false

some_none : {A B : Type 0} (o : Option A) → IsSome o → o ≡ None → B
some_none o some none = absurd (true≢false (sym (subst (λ o. IsSome o) none some)))

is_empty : List Event → Bool
is_empty [] = true
is_empty (event ∷ events) = false

-- a list that ends with an element isn't empty
not_empty : (xs : List Event) (x : Event) → [] ≡ xs ++ x ∷ [] → ⊥
unfolding is_empty
not_empty [] x e = true≢false (ap is_empty e)
not_empty (y ∷ xs) x e = true≢false (ap is_empty e)

of_nothing : (w : Settings) (c : Bytes) (h : Head) (result : Result Turn WorkFault) → JobTranscript w (started c h) [] result → RanOnce h [] result
unfolding is_over
of_nothing w c h (Ok t) told = absurd (true≢false (ap is_over told))
of_nothing w c h (Err (fault.Link l)) told = absurd (not_empty told.1.done _ told.1.are)
of_nothing w c h (Err (fault.Refused r)) told = absurd (not_empty told.1.done _ told.1.are)
of_nothing w c h (Err fault.GenLimit) told = absurd (subst (λ stage. AtLimit stage) told.1.0 told.1.1)
of_nothing w c h (Err fault.Ended) told = absurd told.1
of_nothing w c h (Err fault.Memory) told = inr (refl, refl)

of_started_step : (w : Settings) (c : Bytes) (h : Head) (event : Event) (next : Stage) (rest : List Event) (result : Result Turn WorkFault) → IsSome (place_of w.classes h.class) →
    Step w (started c h) event next → JobTranscript w next rest result → RanOnce h (event ∷ rest) result
of_started_step w c h event next rest result there (asks from request wanted nexts r (Stage.fail_unknown c0 h0 none) ok) told = some_none (place_of w.classes h.class) there none
of_started_step w c h event next rest result there (runs c0 h0 o there0) told =
    inl (o, ap (λ rs. record { head = h; outcome = o } ∷ rs) (no_run_after w (ended c h o) rest result told (after_run c h o)))

of_started_stop : (w : Settings) (c : Bytes) (h : Head) (request : List Bytes) (wanted : Answer) (next : Reply → Stage) → Line w (started c h) request wanted next → place_of w.classes h.class ≡ None
of_started_stop w c h request wanted next (Stage.fail_unknown c0 h0 none) = none

pub of_started : (w : Settings) (c : Bytes) (h : Head) (events : List Event) (result : Result Turn WorkFault) → IsSome (place_of w.classes h.class) →
    JobTranscript w (started c h) events result → RanOnce h events result
unfolding Goes
of_started w c h [] result there told = of_nothing w c h result told
of_started w c h (event ∷ rest) result there told = elim (first_event w (started c h) event rest result told) [
  | inl p ↦ of_started_step w c h event p.0 rest result there p.1 p.2
  | inr p ↦ some_none (place_of w.classes h.class) there (of_started_stop w c h p.request p.wanted p.next p.line)
]

of_holding_step : (w : Settings) (c : Bytes) (h : Head) (start : Reply) (event : Event) (next : Stage) (rest : List Event) (result : Result Turn WorkFault) → IsStarted w c h start →
    Step w (holding c) event next → JobTranscript w next rest result → RanOnce h rest result
of_holding_step w c h start event next rest result s (asks from request wanted nexts r (Stage.bury_bare c0 none) ok) told = absurd (none-some h (sym none ∙ s.is))
of_holding_step w c h start event next rest result s (asks from request wanted nexts r (Stage.start c0 h0 is) ok) told =
    of_started w c h rest result s.registered (subst (λ g. JobTranscript w (started c g) rest result) (ap (λ o. unwrap_or o h0) (sym is ∙ s.is)) told)

came_of : Event → Result Reply LinkFault → Result Reply LinkFault
came_of (asked call) d = call.reply
came_of event d = d

of_holding_stop : (w : Settings) (c : Bytes) (h : Head) (start : Reply) (request : List Bytes) (wanted : Answer) (next : Reply → Stage) → IsStarted w c h start →
    Line w (holding c) request wanted next → answers wanted start ≡ false → ⊥
of_holding_stop w c h start request wanted next s (Stage.bury_bare c0 none) un = none-some h (sym none ∙ s.is)
of_holding_stop w c h start request wanted next s (Stage.start c0 h0 is) un = true≢false (sym s.taken ∙ un)

pub a_started_job : (w : Settings) (c : Bytes) (h : Head) (start : Reply) (rest : List Event) (result : Result Turn WorkFault) → IsStarted w c h start →
    JobTranscript w (holding c) (call (script_words (codes "SK.START") c) start ∷ rest) result → RanOnce h rest result
unfolding Goes came_of
a_started_job w c h start rest result s told = elim (first_event w (holding c) (call (script_words (codes "SK.START") c) start) rest result told) [
  | inl p ↦ of_holding_step w c h start (call (script_words (codes "SK.START") c) start) p.0 rest result s p.1 p.2
  | inr p ↦ absurd (of_holding_stop w c h start p.request p.wanted p.next s p.line
      (subst (λ came. IfOk came (λ r. answers p.wanted r ≡ false)) (sym (ap (λ e. came_of e (Ok start)) p.is)) p.unwanted))
]
