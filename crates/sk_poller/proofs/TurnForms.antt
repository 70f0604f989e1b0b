-- A whole turn, read from its end to its start.
use Rattle.std.proofs.Common.{◌≡◌, ◌∙◌, ◌+◌, ◌||◌, ℕ, Bool, true, false, List, [], ◌∷◌, length, refl, sym, subst, ap, Option, Some, None, arith}
use Rattle.std.specs.Prelude.{codes, min, if◌then◌else◌}
use Rattle.sk_base.specs.Score.{last_moment}
use Rattle.sk_resp.specs.Spelling.{Bytes}
use Rattle.sk_resp.specs.declared.reply.Reply.{Reply}
use Rattle.sk_link.specs.Asking.{is_okay}
use Rattle.sk_link.specs.Report.{report_of}
use Rattle.sk_link.specs.Walk.{Walk}
use Rattle.sk_link.specs.declared.report.Report.{Report}
use Rattle.sk_cron.specs.Slot.{IsLastSlot}
use Rattle.sk_poller.specs.Counts.{nothing, add_due, add_rescued, add_pushed}
use Rattle.sk_poller.specs.Event.{Event, read, slot, drew, calls, moments}
use Rattle.sk_poller.specs.Loop.{job_text}
use Rattle.sk_poller.specs.Passed.{is_passed, lead_of}
use Rattle.sk_poller.specs.Request.{beat_words, cron_words, due_words, lead_words, rescue_words}
use Rattle.sk_poller.specs.Stage.{Watch, Step, reads, asks, looks, draws, request_at, resting, next_loop}
use Rattle.sk_poller.specs.TurnForm.{AreCrons, Cron, MarkedOnce, WholeTurn, accepted, call, cron_request, led, loops_events, marked, marks}
use Rattle.sk_poller.specs.declared.poller.Loop.{Loop}
use Rattle.sk_poller.specs.declared.report.PollReport.{PollReport}
use Rattle.sk_poller.specs.declared.stage.Stage.{Stage}
use Rattle.sk_poller.specs.declared.stage.Stage.TheVariants.{Resting, Beating, Scheduled, Retries, Rescuing, Leading, Looking, Due, Pushing, Over}
use Rattle.sk_poller.proofs.Polls.{Leads, beat, promote, retry, rescue, lead, follow, push, pass, leads_on}

-- nothing happens when all is over
after_over : (w : Watch) (n m : PollReport) (ds : List Event) → Walk (Step w) (Over n) ds (Over m) → (ds ≡ []) × (m ≡ n)
after_over w n m [] walk = let e : Over m ≡ Over n = walk in (refl, cc e)
after_over w n m (d ∷ ds) (next, step, walk) = absurd (stuck w n d next step)
  where
    stuck : (w' : Watch) (n' : PollReport) (d' : Event) (next' : Stage) → Step w' (Over n') d' next' → ⊥
    stuck w' n' d' next' (asks from next0 request r is leads) = let f : None ≡ Some request = is in cc f

-- A stage that asks: its request and a reply that leads on come first.
record Asks (w : Watch) (from : Stage) (request : List Bytes) (m : PollReport) (ds : List Event) : Type 0 where
  r : Reply
  next : Stage
  rest : List Event
  are : ds ≡ call request r ∷ rest
  leads : Leads w from r next
  walk : Walk (Step w) next rest (Over m)

asks_step : (w : Watch) (from next : Stage) (request : List Bytes) (m : PollReport) (d : Event) (ds : List Event) → request_at w.ident from ≡ Some request →
    Step w from d next → Walk (Step w) next ds (Over m) → Asks w from request m (d ∷ ds)
asks_step w from next request m d ds is (reads now_) walk = let f : None ≡ Some request = is in absurd (cc f)
asks_step w from next request m d ds is (asks from' next' request' r is' leads) walk =
    let same : request' ≡ request = cc (is, is') in
    record { r = r; next = next'; rest = ds; are = ap (λ q. call q r ∷ ds) same; leads = leads_on w from' next' r leads; walk = walk }
asks_step w from next request m d ds is (looks now_ loops n last slot_is) walk = let f : None ≡ Some request = is in absurd (cc f)
asks_step w from next request m d ds is (draws now_ last loops n first second) walk = let f : None ≡ Some request = is in absurd (cc f)

asks_first : (w : Watch) (from : Stage) (request : List Bytes) (m : PollReport) (ds : List Event) → request_at w.ident from ≡ Some request →
    Walk (Step w) from ds (Over m) → Asks w from request m ds
asks_first w from request m [] is walk =
    let e : Over m ≡ from = walk in
    let g : request_at w.ident (Over m) ≡ Some request = subst (λ s. request_at w.ident s ≡ Some request) (sym e) is in
    let f : None ≡ Some request = g in absurd (cc f)
asks_first w from request m (d ∷ ds) is (next, step, walk) = asks_step w from next request m d ds is step walk

-- ## Loops

record LoopsDone (w : Watch) (now_ : ℕ) (loops : List Loop) (n m : PollReport) (ds : List Event) : Type 0 where
  crons : List (Option Cron)
  slots : AreCrons w now_ loops crons
  are : ds ≡ loops_events w now_ loops crons
  pushed : m.pushed ≡ n.pushed + accepted crons
  others : (m.promoted ≡ n.promoted) × (m.rescued ≡ n.rescued) × (m.buried ≡ n.buried)

-- what the loops behind the one at hand come to
abbrev Later : Watch → ℕ → List Loop → PollReport → Type 0
Later w now_ loops m = (n : PollReport) (ds : List Event) → Walk (Step w) (next_loop now_ loops n) ds (Over m) → LoopsDone w now_ loops n m ds

of_push : (w : Watch) (now_ last : ℕ) (l : Loop) (loops : List Loop) (first second : ℕ) (n m : PollReport) (r : Reply) (next : Stage) (ds : List Event) →
    IsLastSlot l.cron w.offset (min now_ last_moment) (Some last) → Later w now_ loops m →
    Leads w (Pushing now_ last (job_text l first second now_) (record { first = l; rest = loops }) n) r next → Walk (Step w) next ds (Over m) →
    LoopsDone w now_ (l ∷ loops) n m
    (slot (Some last) ∷ drew first second ∷ call (cron_words w.ident l last (job_text l first second now_)) r ∷ ds)
of_push w now_ last l loops first second n m r next ds is later (push now0 last0 job0 loops0 n0 r0 okay) walk =
    let h = later (add_pushed n) ds walk in
    let one : accepted (Some (record { last = last; first = first; second = second; reply = r }) ∷ h.crons) ≡ accepted h.crons + 1 =
    ap (λ b. if b then accepted h.crons + 1 else accepted h.crons) okay in
    record {
      crons = Some (record { last = last; first = first; second = second; reply = r }) ∷ h.crons;
      slots = ((is, ap (λ b. b || is_passed r) okay), h.slots);
      are = ap (λ es. slot (Some last) ∷ drew first second ∷ call (cron_words w.ident l last (job_text l first second now_)) r ∷ es) h.are;
      pushed = omega (arith, h.pushed, one);
      others = h.others;
    }
of_push w now_ last l loops first second n m r next ds is later (pass now0 last0 job0 loops0 n0 r0 not_okay passed) walk =
    let h = later n ds walk in
    let one : accepted (Some (record { last = last; first = first; second = second; reply = r }) ∷ h.crons) ≡ accepted h.crons =
    ap (λ b. if b then accepted h.crons + 1 else accepted h.crons) not_okay in
    record {
      crons = Some (record { last = last; first = first; second = second; reply = r }) ∷ h.crons;
      slots = ((is, ap (λ b. b || is_passed r) not_okay ∙ passed), h.slots);
      are = ap (λ es. slot (Some last) ∷ drew first second ∷ call (cron_words w.ident l last (job_text l first second now_)) r ∷ es) h.are;
      pushed = omega (arith, h.pushed, one);
      others = h.others;
    }

of_pushing : (w : Watch) (now_ last : ℕ) (l : Loop) (loops : List Loop) (first second : ℕ) (n m : PollReport) (ds : List Event) →
    IsLastSlot l.cron w.offset (min now_ last_moment) (Some last) → Later w now_ loops m →
    Walk (Step w) (Pushing now_ last (job_text l first second now_) (record { first = l; rest = loops }) n) ds (Over m) →
    LoopsDone w now_ (l ∷ loops) n m (slot (Some last) ∷ drew first second ∷ ds)
of_pushing w now_ last l loops first second n m ds is later walk =
    let job = job_text l first second now_ in
    let a = asks_first w (Pushing now_ last job (record { first = l; rest = loops }) n) (cron_words w.ident l last job) m ds refl walk in
    subst (λ es. LoopsDone w now_ (l ∷ loops) n m (slot (Some last) ∷ drew first second ∷ es)) (sym a.are)
    (of_push w now_ last l loops first second n m a.r a.next a.rest is later a.leads a.walk)

of_due_step : (w : Watch) (now_ last : ℕ) (l : Loop) (loops : List Loop) (n m : PollReport) (d : Event) (next : Stage) (ds : List Event) →
    IsLastSlot l.cron w.offset (min now_ last_moment) (Some last) → Later w now_ loops m →
    Step w (Due now_ last (record { first = l; rest = loops }) n) d next → Walk (Step w) next ds (Over m) → LoopsDone w now_ (l ∷ loops) n m (slot (Some last) ∷ d ∷ ds)
of_due_step w now_ last l loops n m d next ds is later (asks from next' request r none leads) walk = let f : None ≡ Some request = none in absurd (cc f)
of_due_step w now_ last l loops n m d next ds is later (draws now0 last0 loops0 n0 first second) walk =
    of_pushing w now_ last l loops first second n m ds is later walk

of_due : (w : Watch) (now_ last : ℕ) (l : Loop) (loops : List Loop) (n m : PollReport) (ds : List Event) →
    IsLastSlot l.cron w.offset (min now_ last_moment) (Some last) → Later w now_ loops m →
    Walk (Step w) (Due now_ last (record { first = l; rest = loops }) n) ds (Over m) → LoopsDone w now_ (l ∷ loops) n m (slot (Some last) ∷ ds)
of_due w now_ last l loops n m [] is later walk = let e : Over m ≡ Due now_ last (record { first = l; rest = loops }) n = walk in absurd (cc e)
of_due w now_ last l loops n m (d ∷ ds) is later (next, step, walk) = of_due_step w now_ last l loops n m d next ds is later step walk

of_looking_step : (w : Watch) (now_ : ℕ) (l : Loop) (loops : List Loop) (n m : PollReport) (d : Event) (next : Stage) (ds : List Event) → Later w now_ loops m →
    Step w (Looking now_ (record { first = l; rest = loops }) n) d next → Walk (Step w) next ds (Over m) → LoopsDone w now_ (l ∷ loops) n m (d ∷ ds)
of_looking_step w now_ l loops n m d next ds later (asks from next' request r none leads) walk = let f : None ≡ Some request = none in absurd (cc f)
of_looking_step w now_ l loops n m d next ds later (looks now0 loops0 n0 None is) walk =
    let h = later n ds walk in
    record { crons = None ∷ h.crons; slots = (is, h.slots); are = ap (λ es. slot None ∷ es) h.are; pushed = h.pushed; others = h.others }
of_looking_step w now_ l loops n m d next ds later (looks now0 loops0 n0 (Some last) is) walk = of_due w now_ last l loops n m ds is later walk

of_loops : (w : Watch) (now_ : ℕ) (loops : List Loop) (m : PollReport) → Later w now_ loops m
of_loops w now_ [] m n ds walk =
    let e = after_over w n m ds walk in
    record {
      crons = [];
      slots = tt;
      are = e.0;
      pushed = let p : m.pushed ≡ n.pushed = ap (λ k. k.pushed) e.1 in omega (arith, p);
      others = (ap (λ k. k.promoted) e.1, ap (λ k. k.rescued) e.1, ap (λ k. k.buried) e.1);
    }
of_loops w now_ (l ∷ loops) m n [] walk = let e : Over m ≡ Looking now_ (record { first = l; rest = loops }) n = walk in absurd (cc e)
of_loops w now_ (l ∷ loops) m n (d ∷ ds) (next, step, walk) = of_looking_step w now_ l loops n m d next ds (of_loops w now_ loops m) step walk

-- ## The five requests

record Led (w : Watch) (now_ : ℕ) (n m : PollReport) (ds : List Event) : Type 0 where
  r : Reply
  leads : Bool
  leads_is : lead_of r ≡ Some leads
  rest : List Event
  loops : LoopsDone w now_ (led leads w) n m rest
  are : ds ≡ call (lead_words w.ident) r ∷ rest

of_lead : (w : Watch) (now_ : ℕ) (n m : PollReport) (r : Reply) (next : Stage) (ds : List Event) → Leads w (Leading now_ n) r next → Walk (Step w) next ds (Over m) →
    Led w now_ n m (call (lead_words w.ident) r ∷ ds)
of_lead w now_ n m r next ds (lead now0 n0 r0 is) walk =
    record { r = r; leads = true; leads_is = is; rest = ds; loops = of_loops w now_ w.loops m n ds walk; are = refl }
of_lead w now_ n m r next ds (follow now0 n0 r0 is) walk =
    record { r = r; leads = false; leads_is = is; rest = ds; loops = of_loops w now_ [] m n ds walk; are = refl }

of_leading : (w : Watch) (now_ : ℕ) (n m : PollReport) (ds : List Event) → Walk (Step w) (Leading now_ n) ds (Over m) → Led w now_ n m ds
of_leading w now_ n m ds walk =
    let a = asks_first w (Leading now_ n) (lead_words w.ident) m ds refl walk in
    subst (λ es. Led w now_ n m es) (sym a.are) (of_lead w now_ n m a.r a.next a.rest a.leads a.walk)

-- a request that was answered by a report
record Reported (Then : PollReport → List Event → Type 0) (request : List Bytes) (add : Report → PollReport) (ds : List Event) : Type 0 where
  r : Reply
  report : Report
  report_is : report_of r ≡ Some report
  rest : List Event
  later : Then (add report) rest
  are : ds ≡ call request r ∷ rest

abbrev Rescued : Watch → ℕ → PollReport → PollReport → List Event → Type 0
Rescued w now_ m n ds = Reported (λ k es. Led w now_ k m es) rescue_words (add_rescued n) ds

of_rescue : (w : Watch) (now_ : ℕ) (n m : PollReport) (r : Reply) (next : Stage) (ds : List Event) → Leads w (Rescuing now_ n) r next →
    Walk (Step w) next ds (Over m) → Rescued w now_ m n (call rescue_words r ∷ ds)
of_rescue w now_ n m r next ds (rescue now0 n0 r0 report is) walk =
    record { r = r; report = report; report_is = is; rest = ds; later = of_leading w now_ (add_rescued n report) m ds walk; are = refl }

of_rescuing : (w : Watch) (now_ : ℕ) (n m : PollReport) (ds : List Event) → Walk (Step w) (Rescuing now_ n) ds (Over m) → Rescued w now_ m n ds
of_rescuing w now_ n m ds walk =
    let a = asks_first w (Rescuing now_ n) rescue_words m ds refl walk in
    subst (λ es. Rescued w now_ m n es) (sym a.are) (of_rescue w now_ n m a.r a.next a.rest a.leads a.walk)

abbrev Retried : Watch → ℕ → PollReport → PollReport → List Event → Type 0
Retried w now_ m n ds = Reported (λ k es. Rescued w now_ m k es) (due_words (codes "retry")) (add_due n) ds

of_retry : (w : Watch) (now_ : ℕ) (n m : PollReport) (r : Reply) (next : Stage) (ds : List Event) → Leads w (Retries now_ n) r next →
    Walk (Step w) next ds (Over m) → Retried w now_ m n (call (due_words (codes "retry")) r ∷ ds)
of_retry w now_ n m r next ds (retry now0 n0 r0 report is) walk =
    record { r = r; report = report; report_is = is; rest = ds; later = of_rescuing w now_ (add_due n report) m ds walk; are = refl }

of_retries : (w : Watch) (now_ : ℕ) (n m : PollReport) (ds : List Event) → Walk (Step w) (Retries now_ n) ds (Over m) → Retried w now_ m n ds
of_retries w now_ n m ds walk =
    let a = asks_first w (Retries now_ n) (due_words (codes "retry")) m ds refl walk in
    subst (λ es. Retried w now_ m n es) (sym a.are) (of_retry w now_ n m a.r a.next a.rest a.leads a.walk)

abbrev Promoted : Watch → ℕ → PollReport → PollReport → List Event → Type 0
Promoted w now_ m n ds = Reported (λ k es. Retried w now_ m k es) (due_words (codes "schedule")) (add_due n) ds

of_promote : (w : Watch) (now_ : ℕ) (n m : PollReport) (r : Reply) (next : Stage) (ds : List Event) → Leads w (Scheduled now_ n) r next →
    Walk (Step w) next ds (Over m) → Promoted w now_ m n (call (due_words (codes "schedule")) r ∷ ds)
of_promote w now_ n m r next ds (promote now0 n0 r0 report is) walk =
    record { r = r; report = report; report_is = is; rest = ds; later = of_retries w now_ (add_due n report) m ds walk; are = refl }

of_scheduled : (w : Watch) (now_ : ℕ) (n m : PollReport) (ds : List Event) → Walk (Step w) (Scheduled now_ n) ds (Over m) → Promoted w now_ m n ds
of_scheduled w now_ n m ds walk =
    let a = asks_first w (Scheduled now_ n) (due_words (codes "schedule")) m ds refl walk in
    subst (λ es. Promoted w now_ m n es) (sym a.are) (of_promote w now_ n m a.r a.next a.rest a.leads a.walk)

record Beaten (w : Watch) (now_ : ℕ) (m : PollReport) (ds : List Event) : Type 0 where
  r : Reply
  okay : is_okay r ≡ true
  rest : List Event
  later : Promoted w now_ m nothing rest
  are : ds ≡ call (beat_words w.ident) r ∷ rest

of_beat : (w : Watch) (now_ : ℕ) (m : PollReport) (r : Reply) (next : Stage) (ds : List Event) → Leads w (Beating now_) r next → Walk (Step w) next ds (Over m) →
    Beaten w now_ m (call (beat_words w.ident) r ∷ ds)
of_beat w now_ m r next ds (beat now0 r0 okay) walk = record { r = r; okay = okay; rest = ds; later = of_scheduled w now_ nothing m ds walk; are = refl }

of_beating : (w : Watch) (now_ : ℕ) (m : PollReport) (ds : List Event) → Walk (Step w) (Beating now_) ds (Over m) → Beaten w now_ m ds
of_beating w now_ m ds walk =
    let a = asks_first w (Beating now_) (beat_words w.ident) m ds refl walk in
    subst (λ es. Beaten w now_ m es) (sym a.are) (of_beat w now_ m a.r a.next a.rest a.leads a.walk)

-- ## The whole

whole_of : (w : Watch) (now_ : ℕ) (m : PollReport) (ds : List Event) → Beaten w now_ m ds → WholeTurn w (read now_ ∷ ds) m
whole_of w now_ m ds beaten =
    let a = beaten.later in
    let b = a.later in
    let c = b.later in
    let d = c.later in
    let e = d.loops in
    record {
      now_ = now_;
      beat = beaten.r;
      schedule = a.r;
      retry = b.r;
      rescue = c.r;
      lead = d.r;
      leads = d.leads;
      crons = e.crons;
      are = ap (λ es. read now_ ∷ es) (beaten.are
          ∙ ap (λ es. call (beat_words w.ident) beaten.r ∷ es) (a.are
          ∙ ap (λ es. call (due_words (codes "schedule")) a.r ∷ es) (b.are
          ∙ ap (λ es. call (due_words (codes "retry")) b.r ∷ es) (c.are
          ∙ ap (λ es. call rescue_words c.r ∷ es) (d.are
          ∙ ap (λ es. call (lead_words w.ident) d.r ∷ es) e.are)))));
      beaten = beaten.okay;
      first = a.report;
      second = b.report;
      third = c.report;
      first_is = a.report_is;
      second_is = b.report_is;
      third_is = c.report_is;
      leads_is = d.leads_is;
      slots = e.slots;
      promoted = omega (arith, e.others.0);
      rescued = omega (arith, e.others.1);
      buried = omega (arith, e.others.2);
      pushed = omega (arith, e.pushed);
    }

whole_step : (w : Watch) (m : PollReport) (d : Event) (next : Stage) (ds : List Event) → Step w Resting d next → Walk (Step w) next ds (Over m) → WholeTurn w (d ∷ ds) m
whole_step w m d next ds (reads now_) walk = whole_of w now_ m ds (of_beating w now_ m ds walk)
whole_step w m d next ds (asks from next' request r none leads) walk = let f : None ≡ Some request = none in absurd (cc f)

pub whole_turn : (w : Watch) (events : List Event) (n : PollReport) → Walk (Step w) resting events (Over n) → WholeTurn w events n
whole_turn w [] n walk = let e : Over n ≡ Resting = walk in absurd (cc e)
whole_turn w (d ∷ ds) n (next, step, walk) = whole_step w n d next ds step walk

-- ## Marks

marks_of : (w : Watch) (now_ : ℕ) (loops : List Loop) (crons : List (Option Cron)) → AreCrons w now_ loops crons →
    (marks (calls (loops_events w now_ loops crons)) ≡ marked w now_ loops crons) × (accepted crons ≡ length (marked w now_ loops crons))
marks_of w now_ [] [] are = (refl, refl)
marks_of w now_ [] (c ∷ crons) are = absurd are
marks_of w now_ (l ∷ loops) [] are = absurd are
marks_of w now_ (l ∷ loops) (None ∷ crons) are = marks_of w now_ loops crons are.1
marks_of w now_ (l ∷ loops) (Some c ∷ crons) are = mark_of (is_okay c.reply) (marks_of w now_ loops crons are.1)
  where
    mark_of : (b : Bool) →
        (marks (calls (loops_events w now_ loops crons)) ≡ marked w now_ loops crons) × (accepted crons ≡ length (marked w now_ loops crons)) →
        ((if b then cron_request w now_ l c ∷ marks (calls (loops_events w now_ loops crons)) else marks (calls (loops_events w now_ loops crons)))
        ≡ (if b then cron_request w now_ l c ∷ marked w now_ loops crons else marked w now_ loops crons))
        × ((if b then accepted crons + 1 else accepted crons) ≡ length (if b then cron_request w now_ l c ∷ marked w now_ loops crons else marked w now_ loops crons))
    mark_of true h = (ap (λ ms. cron_request w now_ l c ∷ ms) h.0, omega (arith, h.1))
    mark_of false h = h

no_moments : (w : Watch) (now_ : ℕ) (loops : List Loop) (crons : List (Option Cron)) → moments (loops_events w now_ loops crons) ≡ []
no_moments w now_ [] crons = refl
no_moments w now_ (l ∷ loops) [] = refl
no_moments w now_ (l ∷ loops) (None ∷ crons) = no_moments w now_ loops crons
no_moments w now_ (l ∷ loops) (Some c ∷ crons) = no_moments w now_ loops crons

pub marked_once : (w : Watch) (events : List Event) (n : PollReport) → Walk (Step w) resting events (Over n) → MarkedOnce w events n
marked_once w events n walk =
    let t = whole_turn w events n walk in
    let h = marks_of w t.now_ (led t.leads w) t.crons t.slots in
    let m : marks (calls events) ≡ marked w t.now_ (led t.leads w) t.crons = ap (λ es. marks (calls es)) t.are ∙ h.0 in
    record {
      now_ = t.now_;
      read_once = ap moments t.are ∙ ap (λ ms. t.now_ ∷ ms) (no_moments w t.now_ (led t.leads w) t.crons);
      leads = t.leads;
      crons = t.crons;
      slots = t.slots;
      marks_are = m;
      pushed = t.pushed ∙ (h.1 ∙ ap length (sym m));
    }
