-- A log runs in one way, and what was logged of a run is accepted again.
use Rattle.std.proofs.Common.{◌≡◌, inl, inr, refl, sym, ap, ◌∙◌, subst, List, [], ◌∷◌, ◌++◌, false}
use Rattle.std.specs.Prelude.{Ok, Err}
use Rattle.sk_cmd.proofs.AgreeTable.{one_command}
use Rattle.sk_cmd.specs.Reading.{Read}
use Rattle.sk_cmd.specs.declared.command.Command.{Command}
use Rattle.sk_log.specs.File.{Body}
use Rattle.sk_log.specs.Reading.{RunsAll}
use Rattle.sk_model.specs.World.{World}
use Rattle.sk_model.specs.Change.{perform}
use Rattle.sk_model.specs.Outcome.{Outcome}
use Rattle.sk_model.specs.Event.{Event, Ask, Cut, Happens, ResultsIn, Run, Step, after, world_after}
use Rattle.sk_resp.specs.Errors.{is_error}
use Rattle.sk_model.specs.Replay.{Entry, IsKept, Logged, Served, told}
use Rattle.sk_model.specs.Starving.{IsServed, outcome_of}
use Rattle.sk_aof.specs.Accepted.{Accepts, Runs}
use Rattle.sk_aof.specs.Stored.{AllAccepted, AllMayStand, LeadTo, bodies_in}
use Rattle.sk_aof.proofs.Readings.{one_event}

-- ## One way

pub served_once : (w : World) (event : Event) (o p : Outcome) → IsServed w event o → IsServed w event p → o ≡ p
served_once w (Ask seat now words) o p s t =
    s.3 ∙ ap (λ (r : Read Command). outcome_of w seat now r) (one_command words s.0 t.0 s.1 t.1 s.2 t.2) ∙ sym t.3
served_once w (Cut seat) o p s t = s ∙ sym t

accepts_once : (w a b : World) (event : Event) → Accepts w event a → Accepts w event b → a ≡ b
accepts_once w a b event p q = p.new_is ∙ ap (λ (o : Outcome). perform w o.changes) (served_once w event p.outcome q.outcome p.served q.served) ∙ sym q.new_is

pub runs_once : (w a b : World) (body : Body) → Runs w body a → Runs w body b → a ≡ b
runs_once w a b body p q =
    let same : q.event ≡ p.event = one_event q.event p.event q.may p.may (sym q.is ∙ p.is) in
    accepts_once w a b p.event p.accepts (subst (λ event. Accepts w event b) same q.accepts)

pub all_once : (w a b : World) (bodies : List Body) → RunsAll Runs w bodies a → RunsAll Runs w bodies b → a ≡ b
all_once w a b [] p q = p ∙ sym q
all_once w a b (body ∷ bodies) p q = all_once q.0 a b bodies (subst (λ (mid : World). RunsAll Runs mid bodies a) (runs_once w p.0 q.0 body p.1 q.1) p.2) q.2

-- behind the first bodies the next one is run
pub next_of : (w end state : World) (done more : List Body) (body : Body) → RunsAll Runs w (done ++ body ∷ more) end → RunsAll Runs w done state → (next : World) × Runs state body next
next_of w end state [] more body p q = (p.0, subst (λ (old : World). Runs old body p.0) (sym q) p.1)
next_of w end state (first ∷ done) more body p q =
    next_of q.0 end state done more body (subst (λ (mid : World). RunsAll Runs mid (done ++ body ∷ more) end) (runs_once w p.0 q.0 first p.1 q.1) p.2) q.2

-- ## Entries, and their bodies

pub bodies_run : (w : World) (steps : List Step) → Served w steps → AllMayStand (told steps) → AllAccepted (told steps) → RunsAll Runs w (bodies_in (told steps)) (world_after w steps)
bodies_run w [] served may accepted = refl
bodies_run w (step ∷ steps) served may accepted = (
  after w step,
  record { event = step.event; may = may.0; is = refl; accepts = record { outcome = step.outcome; served = served.0; accepted = accepted.0; new_is = refl } },
  bodies_run (after w step) steps served.1 may.1 accepted.1,
)

results_of : (w : World) (seat now : _) (r : Read Command) (o : Outcome) → o ≡ outcome_of w seat now r → ResultsIn w seat now r o
results_of w seat now (Ok c) o e = inl e
results_of w seat now (Err f) o e = e

happens_served : (w : World) (event : Event) (o : Outcome) → IsServed w event o → Happens w event o
happens_served w (Ask seat now words) o s = (s.0, s.1, results_of w seat now s.0 o s.3)
happens_served w (Cut seat) o s = s

-- what was run, as entries
pub entries_of : (w end : World) (bodies : List Body) → RunsAll Runs w bodies end → (entries : List Entry) × (LeadTo w entries end × (bodies_in entries ≡ bodies))
entries_of w end [] p = ([], (record { steps = []; run = tt; served = tt; told_is = refl; may = tt; accepted = tt; new_is = p }, refl))
entries_of w end (body ∷ bodies) p =
    let more = entries_of p.0 end bodies p.2 in
    let lead = more.1.0 in
    let ran = p.1 in
    let o = ran.accepts.outcome in
    let step : Step = record { event = ran.event; outcome = o } in
    let entry : Entry = record { event = ran.event; reply = o.reply } in
    let mid_is : p.0 ≡ after w step = ran.accepts.new_is in (
      entry ∷ more.0,
      (
        record {
          steps = step ∷ lead.steps;
          run = (happens_served w ran.event o ran.accepts.served, subst (λ (mid : World). Run mid lead.steps) mid_is lead.run);
          served = (ran.accepts.served, subst (λ (mid : World). Served mid lead.steps) mid_is lead.served);
          told_is = ap (λ (entries : List Entry). entry ∷ entries) lead.told_is;
          may = (ran.may, lead.may);
          accepted = (ran.accepts.accepted, lead.accepted);
          new_is = lead.new_is ∙ ap (λ (mid : World). world_after mid lead.steps) mid_is;
        },
        λ i. sym ran.is i ∷ more.1.1 i,
      ),
    )

-- ## What was logged

kept_accepted : (w : World) (step : Step) → Happens w step.event step.outcome → IsKept step.event step.outcome.reply → is_error step.outcome.reply ≡ false
kept_accepted w step = by_event step.event step.outcome where
  by_event : (event : Event) (o : Outcome) → Happens w event o → IsKept event o.reply → is_error o.reply ≡ false
  by_event (Ask seat now words) o happens kept = kept.0
  by_event (Cut seat) o happens kept = ap (λ (p : Outcome). is_error p.reply) happens

pub logged_accepted : (w : World) (steps : List Step) (entries : List Entry) → Run w steps → Logged w steps entries → AllAccepted entries
logged_accepted w [] entries run logged = subst AllAccepted (sym logged) tt
logged_accepted w (step ∷ steps) entries run (inl (kept, (more, is, rest))) =
    subst AllAccepted (sym is) (kept_accepted w step run.0 kept, logged_accepted (after w step) steps more run.1 rest)
logged_accepted w (step ∷ steps) entries run (inr (quiet, rest)) = logged_accepted (after w step) steps entries run.1 rest
