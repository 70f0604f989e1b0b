-- How turns at a seat go on.
use denote.Param.Members.{Mut}
use Rattle.std.proofs.Common.{codes, IfOk, ◌*◌, ◌-◌, ◌^◌, min, Option, Some, ◌≡◌, ◌≢◌, ◌+◌, ◌++◌, ◌||◌, ◌∙◌, ℕ, Bool, true, false, List, [], ◌∷◌, length, Result, Ok, Err, refl, sym, ap, subst, append-nil, append_assoc, length-append, arith}
use Rattle.std.proofs.lemmas.Bool.{true≢false}
use Rattle.std.proofs.Math.Bool.{or-true}
use Rattle.sk_base.specs.Yields.{YieldsAll}
use Rattle.sk_base.specs.declared.clock.StepClock.{StepClock}
use Rattle.sk_resp.specs.Spelling.{Bytes}
use Rattle.sk_policy.specs.Order.{Order, strict_order}
use Rattle.sk_policy.specs.declared.delay.DelayRule.{DelayRule}
use Rattle.sk_worker.specs.Broken.{is_lost}
use Rattle.sk_worker.specs.Event.{Event, Choice, calls, choices, moments, runs}
use Rattle.sk_worker.specs.Fetching.{FetchStage, FetchTranscript, fetch_start}
use Rattle.sk_worker.specs.Promises.{Answers, settings}
use Rattle.sk_worker.specs.Run.{Run}
use Rattle.sk_worker.specs.Stage.{JobTranscript, Settings, Stage, holding}
use Rattle.sk_worker.specs.Turn.{Parts, RulesAnswered, TurnOf, TurnTranscript, unfetched, empty, job}
use Rattle.sk_worker.specs.declared.registry.Registry.{Registry}
use Rattle.sk_worker.specs.declared.worker.Worker.{Worker}
use Rattle.sk_worker.specs.declared.turn.Turn.{Turn}
use Rattle.sk_worker.specs.declared.turn.Turn.TheVariants as turn
use Rattle.sk_worker.specs.declared.turn.WorkFault.{WorkFault}
use Rattle.sk_worker.specs.declared.turn.WorkFault.TheVariants as fault
use Rattle.sk_desk.specs.declared.entry.Ask.{Ask}
use Rattle.sk_lane.specs.Asks.{AreCalls, asks_at}
use Rattle.sk_lane.specs.Drawing.{Draws, is_off}
use Rattle.sk_lane.specs.Carrying.{Carries, LinkState}
use Rattle.sk_lane.specs.Lane.{RulesOf}
use Rattle.sk_lane.specs.Progress.{KeepsRules, KeepsWorker, SeatTurn, Stands, TurnsSoFar, TurnsTold, is_memory}
use Rattle.sk_lane.specs.Turns.{EndsStory, TurnTaken, Turns, all_taken, broken, whole, asks_of, ident_of, lane_settings, marks_of, moment, runs_of}
use Rattle.sk_lane.specs.Story.{StoryRan}
use Rattle.sk_lane.specs.declared.crashes.Crashes.{Crashes}
use Rattle.sk_lane.specs.declared.crashes.Drawing.{Drawing}
use Rattle.sk_lane.proofs.Carried.{are_calls, carried_at, stands_all}

-- ## One turn more

asks_one : (turns : List (List Event)) (events : List Event) → asks_of (turns ++ events ∷ []) ≡ asks_of turns ++ asks_at moment (calls events)
asks_one [] events = append-nil (asks_at moment (calls events))
asks_one (turn ∷ turns) events = ap (λ l. asks_at moment (calls turn) ++ l) (asks_one turns events)
    ∙ sym (append_assoc (asks_at moment (calls turn)) (asks_of turns) (asks_at moment (calls events)))

runs_one : (turns : List (List Event)) (events : List Event) → runs_of (turns ++ events ∷ []) ≡ runs_of turns ++ runs events
runs_one [] events = append-nil (runs events)
runs_one (turn ∷ turns) events = ap (λ l. runs turn ++ l) (runs_one turns events) ∙ sym (append_assoc (runs turn) (runs_of turns) (runs events))

later_mark : (n : ℕ) (xs ys : List Ask) → (n + length xs) + length ys ≡ n + length (xs ++ ys)
later_mark n xs ys = let e : length (xs ++ ys) ≡ length xs + length ys = length-append xs ys in omega (arith, e)

marks_one : (n : ℕ) (turns : List (List Event)) (events : List Event) → marks_of n (turns ++ events ∷ []) ≡ marks_of n turns ++ (n + length (asks_of turns)) ∷ []
marks_one n [] events = ap (λ k. k ∷ []) (let e : n ≡ n + 0 = omega arith in e)
marks_one n (turn ∷ turns) events = ap (λ l. n ∷ l) (marks_one (n + length (asks_at moment (calls turn))) turns events
    ∙ ap (λ k. marks_of (n + length (asks_at moment (calls turn))) turns ++ k ∷ []) (later_mark n (asks_at moment (calls turn)) (asks_of turns)))

-- these turns, and their asks, marks and runs
record Grown (OfJobs : List Run → Type 0) (turns : List (List Event)) (asks asks_now : List Ask) (marks marks_now : List ℕ) : Type 0 where
  asked : asks_now ≡ asks ++ asks_of turns
  marked : marks_now ≡ marks ++ marks_of (length asks) turns
  ran : OfJobs (runs_of turns)

grows : (Before First Now : List Run → Type 0) (turns : List (List Event)) (events : List Event) (a0 a1 a2 : List Ask) (m0 m1 m2 : List ℕ) →
    ((xs ys : List Run) → Before xs → First ys → Now (xs ++ ys)) → a1 ≡ a0 ++ asks_of turns → m1 ≡ m0 ++ marks_of (length a0) turns → Before (runs_of turns) →
    m2 ≡ m1 ++ length a1 ∷ [] → a2 ≡ a1 ++ asks_at moment (calls events) → First (runs events) → Grown Now (turns ++ events ∷ []) a0 a2 m0 m2
grows Before First Now turns events a0 a1 a2 m0 m1 m2 more asked marked ran mark ask first = record {
  asked = ask ∙ (ap (λ l. l ++ asks_at moment (calls events)) asked ∙ (append_assoc a0 (asks_of turns) (asks_at moment (calls events))
      ∙ ap (λ l. a0 ++ l) (sym (asks_one turns events))));
  marked = mark ∙ (ap (λ n. m1 ++ n ∷ []) (ap (λ l. length l) asked ∙ length-append a0 (asks_of turns)) ∙ (ap (λ l. l ++ (length a0 + length (asks_of turns)) ∷ []) marked
      ∙ (append_assoc m0 (marks_of (length a0) turns) ((length a0 + length (asks_of turns)) ∷ []) ∙ ap (λ l. m0 ++ l) (sym (marks_one (length a0) turns events)))));
  ran = subst Now (sym (runs_one turns events)) (more (runs_of turns) (runs events) ran first);
}

-- ## Turns so far

pub turns_none : (w : Settings) (OfRules : List Choice → Type 0) (OfJobs : List Run → Type 0) (a : Drawing) (todo : ℕ) (held : List Bytes) (asks : List Ask) (marks : List ℕ) →
    OfJobs [] → TurnsSoFar w OfRules OfJobs a todo held asks asks marks marks a todo held
turns_none w OfRules OfJobs a todo held asks marks ran = record {
  turns = [];
  asked = sym (append-nil asks);
  marked = sym (append-nil marks);
  ran = ran;
  on = λ rest c end told. told;
}

pub turns_on : (w : Settings) (OfRules : List Choice → Type 0) (Before First Now : List Run → Type 0) (a m n : Drawing) (todo left next : ℕ) (h0 h1 h2 : List Bytes)
    (a0 a1 a2 : List Ask) (m0 m1 m2 : List ℕ) (events : List Event) (t : Turn) → ((xs ys : List Run) → Before xs → First ys → Now (xs ++ ys)) →
    TurnsSoFar w OfRules Before a todo h0 a0 a1 m0 m1 m left h1 → left ≡ next + 1 → m2 ≡ m1 ++ length a1 ∷ [] → a2 ≡ a1 ++ asks_at moment (calls events) →
    First (runs events) → TurnTaken w OfRules h1 events h2 (Ok t) → Draws m (calls events) n → TurnsSoFar w OfRules Now a todo h0 a0 a2 m0 m2 n next h2
turns_on w OfRules Before First Now a m n todo left next h0 h1 h2 a0 a1 a2 m0 m1 m2 events t more far one mark ask first taken drawn =
    let g = grows Before First Now far.turns events a0 a1 a2 m0 m1 m2 more far.asked far.marked far.ran mark ask first in
    record {
      turns = far.turns ++ events ∷ [];
      asked = g.asked;
      marked = g.marked;
      ran = g.ran;
      on = λ rest c end told. subst (λ ts. Turns w OfRules a todo h0 ts c end) (sym (append_assoc far.turns (events ∷ []) rest))
          (far.on (events ∷ rest) c end (whole m n c left next end h1 h2 events rest t one taken drawn told));
    }

pub turns_broken : (w : Settings) (OfRules : List Choice → Type 0) (Before First Now : List Run → Type 0) (a m n : Drawing) (todo left next : ℕ) (h0 h1 h2 : List Bytes)
    (a0 a1 a2 : List Ask) (m0 m1 m2 : List ℕ) (events : List Event) (f : WorkFault) → ((xs ys : List Run) → Before xs → First ys → Now (xs ++ ys)) →
    TurnsSoFar w OfRules Before a todo h0 a0 a1 m0 m1 m left h1 → left ≡ next + 1 → m2 ≡ m1 ++ length a1 ∷ [] → a2 ≡ a1 ++ asks_at moment (calls events) →
    First (runs events) → TurnTaken w OfRules h1 events h2 (Err f) → Draws m (calls events) n → EndsStory f n → TurnsTold w OfRules Now a todo h0 a0 a2 m0 m2 n next
turns_broken w OfRules Before First Now a m n todo left next h0 h1 h2 a0 a1 a2 m0 m1 m2 events f more far one mark ask first taken drawn ends =
    let g = grows Before First Now far.turns events a0 a1 a2 m0 m1 m2 more far.asked far.marked far.ran mark ask first in
    record {
      turns = far.turns ++ events ∷ [];
      asked = g.asked;
      marked = g.marked;
      ran = g.ran;
      taken = far.on (events ∷ []) n next (broken m n left next h1 h2 events f one taken drawn ends);
    }

pub turns_end : (w : Settings) (OfRules : List Choice → Type 0) (OfJobs : List Run → Type 0) (a m : Drawing) (todo left : ℕ) (h0 h1 : List Bytes)
    (a0 a1 : List Ask) (m0 m1 : List ℕ) → left ≡ 0 → TurnsSoFar w OfRules OfJobs a todo h0 a0 a1 m0 m1 m left h1 →
    TurnsTold w OfRules OfJobs a todo h0 a0 a1 m0 m1 m 0
turns_end w OfRules OfJobs a m todo left h0 h1 a0 a1 m0 m1 none far = record {
  turns = far.turns;
  asked = far.asked;
  marked = far.marked;
  ran = far.ran;
  taken = subst (λ ts. Turns w OfRules a todo h0 ts m 0) (append-nil far.turns) (far.on [] m 0 (subst (λ k. Turns w OfRules m k h1 [] m 0) (sym none) (all_taken m h1)));
}

-- ## How a turn ends a story

fetch_ended : (w : Settings) (from : FetchStage) (events : List Event) (held : List Bytes) → FetchTranscript w from events held (Err fault.Ended) → ⊥
fetch_ended w from events held told = told.1

job_ended : (w : Settings) (from : Stage) (events : List Event) (result : Result Turn WorkFault) → JobTranscript w from events result → result ≡ Err fault.Ended → ⊥
job_ended w from events result told is = told_ended (subst (λ r. JobTranscript w from events r) is told)
  where
    told_ended : JobTranscript w from events (Err fault.Ended) → ⊥
    told_ended told = told.1

pub never_ended : (w : Settings) (before : List Bytes) (events : List Event) (after : List Bytes) (result : Result Turn WorkFault) →
    TurnTranscript w before events after result → result ≡ Err fault.Ended → ⊥
never_ended w before events after _ (unfetched _ _ f told) is =
    fetch_ended w (fetch_start w before) events after (subst (λ (r : Result (Unit {0}) WorkFault). FetchTranscript w (fetch_start w before) events after r) (ap (λ f. Err f) (err_is f is)) told)
  where
    err_is : (f : WorkFault) → ◌≡◌ {A = Result Turn WorkFault} (Err f) (Err fault.Ended) → f ≡ fault.Ended
    err_is f e = cc e
never_ended w before _ _ _ (empty events form) is = absurd (let e : ◌≡◌ {A = Result Turn WorkFault} (Ok turn.Empty) (Err fault.Ended) = is in cc)
never_ended w before _ after result (job first rest c others _ _ fetching working e) is = job_ended w (holding c) rest result working is

or-false : (b : Bool) → (b || false) ≡ b
or-false true = refl
or-false false = refl

-- By a turn that was no want of memory: where its link was lost, it crashed.
pub ends_story : (w : Settings) (before : List Bytes) (events : List Event) (after : List Bytes) (f : WorkFault) (a b : Drawing) → TurnTranscript w before events after (Err f) →
    f ≢ fault.Memory → is_off a ≡ false → is_off b ≡ (is_off a || is_lost {T = Turn} (Err f)) → b.starved ≡ false → EndsStory f b
ends_story w before events after (fault.Link l) a b told fed on off kept =
    (sym (or-false b.crashed) ∙ (ap (λ s. b.crashed || s) (sym kept) ∙ (off ∙ or-true (is_off a))), kept)
ends_story w before events after (fault.Refused r) a b told fed on off kept = off ∙ ap (λ o. o || false) on
ends_story w before events after fault.GenLimit a b told fed on off kept = off ∙ ap (λ o. o || false) on
ends_story w before events after fault.Ended a b told fed on off kept = never_ended w before events after (Err fault.Ended) told refl
ends_story w before events after fault.Memory a b told fed on off kept = fed refl

-- After a whole turn the link is on.
pub stays_on : (a b : Drawing) → is_off a ≡ false → is_off b ≡ (is_off a || false) → is_off b ≡ false
stays_on a b on off = off ∙ ap (λ o. o || false) on

-- ## Another worker with the same rules

pub same_taken : (w v : Settings) (OfRules Others : List Choice → Type 0) (before : List Bytes) (events : List Event) (after : List Bytes) (result : Result Turn WorkFault) →
    v ≡ w → ((cs : List Choice) → Others cs → OfRules cs) → TurnTaken v Others before events after result → TurnTaken w OfRules before events after result
same_taken w v OfRules Others before events after result e rules taken = record {
  told = subst (λ s. TurnTranscript s before events after result) e taken.told;
  rules = rules (choices events) taken.rules;
  moments_are = taken.moments_are;
}

-- ## A turn at a seat

still_stands : Stands (Some (λ (n : ℕ). min (moment + n * 0) (2 ^ 64 - 1)))
still_stands = record {
  next = λ n. min (moment + n * 0) (2 ^ 64 - 1);
  tells = refl;
  at = λ n. ap (λ k. min (moment + k) (2 ^ 64 - 1)) (let e : n * 0 ≡ 0 = omega arith in e);
}

pub clock_stands : (clock : StepClock) → clock ≡ record { now = moment; step = 0 } → Stands (Some (λ (n : ℕ). min (clock.now + n * clock.step) (2 ^ 64 - 1)))
clock_stands clock e = subst (λ (c : StepClock). Stands (Some (λ (n : ℕ). min (c.now + n * c.step) (2 ^ 64 - 1)))) (sym e) still_stands

pub seat_turn : (w : Settings) (OfRules : List Choice → Type 0) (OfJobs : List Run → Type 0) (a b : LinkState) (held after : List Bytes) (result : Result Turn WorkFault) (ended : Bool)
    (told later : Option (ℕ → ℕ)) (OfDice : List ℕ → Type 0) (events : List Event) → ended ≡ false → Stands told →
    Parts (λ cs. Carries a b cs) OfJobs (λ ms. YieldsAll told ms later) OfDice OfRules events → TurnOf ended w held events after result →
    SeatTurn w OfRules OfJobs a held b after result
seat_turn w OfRules OfJobs a b held after result ended told later OfDice events on s parts turn = record {
  events = events;
  carried = parts.link;
  ran = parts.jobs;
  taken = record {
    told = subst (λ e. TurnOf e w held events after result) on turn;
    rules = parts.rules;
    moments_are = (stands_all told (moments events) later parts.clock s).1;
  };
}

pub turn_stands : (w : Settings) (OfRules : List Choice → Type 0) (OfJobs : List Run → Type 0) (a b : LinkState) (held after : List Bytes) (result : Result Turn WorkFault) →
    SeatTurn w OfRules OfJobs a held b after result → Stands a.moments → Stands b.moments
turn_stands w OfRules OfJobs a b held after result turn s = (carried_at a b (calls turn.events) turn.carried s).stands

pub turn_calls : (w : Settings) (OfRules : List Choice → Type 0) (OfJobs : List Run → Type 0) (a b : LinkState) (held after : List Bytes) (result : Result Turn WorkFault) →
    SeatTurn w OfRules OfJobs a held b after result → b.drawing.starved ≡ false → AreCalls a.calls a.asks → AreCalls b.calls b.asks
turn_calls w OfRules OfJobs a b held after result turn fed are = are_calls a b (calls turn.events) turn.carried fed are

pub turn_on : (w v : Settings) (OfRules Others : List Choice → Type 0) (Before First Now : List Run → Type 0) (a : Drawing) (l m : LinkState) (todo left next : ℕ)
    (h0 h1 h2 : List Bytes) (a0 : List Ask) (m0 m1 m2 : List ℕ) (t : Turn) → TurnsSoFar w OfRules Before a todo h0 a0 l.asks m0 m1 l.drawing left h1 → left ≡ next + 1 →
    m2 ≡ m1 ++ length l.asks ∷ [] → Stands l.moments → SeatTurn v Others First l h1 m h2 (Ok t) → v ≡ w → ((cs : List Choice) → Others cs → OfRules cs) →
    ((xs ys : List Run) → Before xs → First ys → Now (xs ++ ys)) → TurnsSoFar w OfRules Now a todo h0 a0 m.asks m0 m2 m.drawing next h2
turn_on w v OfRules Others Before First Now a l m todo left next h0 h1 h2 a0 m0 m1 m2 t far one mark s turn same rules more =
    let at = carried_at l m (calls turn.events) turn.carried s in
    turns_on w OfRules Before First Now a l.drawing m.drawing todo left next h0 h1 h2 a0 l.asks m.asks m0 m1 m2 turn.events t more far one mark at.asked turn.ran
    (same_taken w v OfRules Others h1 turn.events h2 (Ok t) same rules turn.taken) at.drawn

not_memory : (f : WorkFault) → is_memory f ≡ false → f ≢ fault.Memory
not_memory f e is = true≢false (sym (ap is_memory is) ∙ e)

pub turn_broken : (w v : Settings) (OfRules Others : List Choice → Type 0) (Before First Now : List Run → Type 0) (a : Drawing) (l m : LinkState) (todo left next : ℕ)
    (h0 h1 h2 : List Bytes) (a0 : List Ask) (m0 m1 m2 : List ℕ) (f : WorkFault) → TurnsSoFar w OfRules Before a todo h0 a0 l.asks m0 m1 l.drawing left h1 → left ≡ next + 1 →
    m2 ≡ m1 ++ length l.asks ∷ [] → Stands l.moments → SeatTurn v Others First l h1 m h2 (Err f) → is_memory f ≡ false → is_off l.drawing ≡ false →
    is_off m.drawing ≡ (is_off l.drawing || is_lost {T = Turn} (Err f)) → m.drawing.starved ≡ false → v ≡ w → ((cs : List Choice) → Others cs → OfRules cs) →
    ((xs ys : List Run) → Before xs → First ys → Now (xs ++ ys)) → TurnsTold w OfRules Now a todo h0 a0 m.asks m0 m2 m.drawing next
turn_broken w v OfRules Others Before First Now a l m todo left next h0 h1 h2 a0 m0 m1 m2 f far one mark s turn fed on off kept same rules more =
    let at = carried_at l m (calls turn.events) turn.carried s in
    let taken = same_taken w v OfRules Others h1 turn.events h2 (Err f) same rules turn.taken in
    turns_broken w OfRules Before First Now a l.drawing m.drawing todo left next h0 h1 h2 a0 l.asks m.asks m0 m1 m2 turn.events f more far one mark at.asked turn.ran
    taken at.drawn (ends_story w h1 turn.events h2 f l.drawing m.drawing taken.told (not_memory f fed) on off kept)

-- ## The same worker

pub settings_are : (i j : Bytes) (o p : Order) (n m : ℕ) (c d : List Bytes) → j ≡ i → p ≡ o → m ≡ n → d ≡ c →
    ◌≡◌ {A = Settings} (record { ident = j; order = p; prefetch = m; classes = d }) (record { ident = i; order = o; prefetch = n; classes = c })
settings_are i j o p n m c d e f g h =
    ap {A = Bytes} {B = Settings} (λ x. record { ident = x; order = p; prefetch = m; classes = d }) e
    ∙ (ap {A = Order} {B = Settings} (λ x. record { ident = i; order = x; prefetch = m; classes = d }) f
    ∙ (ap {A = ℕ} {B = Settings} (λ x. record { ident = i; order = o; prefetch = x; classes = d }) g
    ∙ ap {A = List Bytes} {B = Settings} (λ x. record { ident = i; order = o; prefetch = n; classes = x }) h))

pub rules_are : {R : Type 0} (Answers : R → ℕ → ℕ → Type 0) (k l : List Bytes) (rs qs : List R) (p q : R) (cs : List Choice) → l ≡ k → qs ≡ rs → q ≡ p →
    RulesAnswered Answers l qs q cs → RulesAnswered Answers k rs p cs
rules_are Answers k l rs qs p q cs e f g answered = subst (λ x. RulesAnswered Answers k rs x cs) g
    (subst (λ x. RulesAnswered Answers k x q cs) f (subst (λ x. RulesAnswered Answers x qs q cs) e answered))

module _ {Rule : Type 0} {OfRule : Rule → Type 0} {Delays : Mut ((rule : Rule) × OfRule rule) (ℕ × Unit {0}) ℕ} where
  pub keeps_worker : (a b c : Worker Rule OfRule Delays) → KeepsWorker a b → KeepsWorker b c → KeepsWorker a c
  keeps_worker a b c p q = record { ident = q.ident ∙ p.ident; order = q.order ∙ p.order; plain = q.plain ∙ p.plain; prefetch = q.prefetch ∙ p.prefetch }

module _ {Rule Job : Type 0} {OfRule : Rule → Type 0} {OfJob : Job → Type 0} {Delays : Mut ((rule : Rule) × OfRule rule) (ℕ × Unit {0}) ℕ} where
  pub same_settings : (a b : Worker Rule OfRule Delays) (r s : Registry Job Rule OfJob OfRule Delays) → KeepsWorker a b → KeepsRules r s → settings b s ≡ settings a r
  same_settings a b r s worker registry =
      settings_are a.ident b.ident a.order b.order a.prefetch b.prefetch r.classes s.classes worker.ident worker.order worker.prefetch registry.classes

  pub same_rules : (a b : Worker Rule OfRule Delays) (r s : Registry Job Rule OfJob OfRule Delays) → KeepsWorker a b → KeepsRules r s → (cs : List Choice) →
      RulesOf s b.plain cs → RulesOf r a.plain cs
  same_rules a b r s worker registry cs answered =
      rules_are Answers r.classes s.classes r.rules.items s.rules.items a.plain b.plain cs registry.classes (ap (λ v. v.items) registry.rules) worker.plain answered

  pub keeps_rules : (r s t : Registry Job Rule OfJob OfRule Delays) → KeepsRules r s → KeepsRules s t → KeepsRules r t
  keeps_rules r s t p q = record { classes = q.classes ∙ p.classes; rules = q.rules ∙ p.rules }

  -- what a worker told, as its first self
  pub told_by : {E : Type 0} (a b : Worker Rule OfRule Delays) (r : Registry Job Rule OfJob OfRule Delays) (result : Result ℕ E) (OfJobs : List Run → Type 0) (d e : Drawing)
      (todo : ℕ) (held : List Bytes) (asks asks_now : List Ask) (marks marks_now : List ℕ) → KeepsWorker a b →
      IfOk result (λ left. TurnsTold (settings b r) (RulesOf r b.plain) OfJobs d todo held asks asks_now marks marks_now e left) →
      IfOk result (λ left. TurnsTold (settings a r) (RulesOf r a.plain) OfJobs d todo held asks asks_now marks marks_now e left)
  told_by a b r result OfJobs d e todo held asks asks_now marks marks_now worker told =
      subst (λ v. IfOk result (λ left. TurnsTold v (RulesOf r a.plain) OfJobs d todo held asks asks_now marks marks_now e left))
      (same_settings a b r r worker (record { classes = refl; rules = refl }))
      (subst (λ p. IfOk result (λ left. TurnsTold (settings b r) (RulesOf r p) OfJobs d todo held asks asks_now marks marks_now e left)) worker.plain told)

  -- A story that a lane's worker told, whose ident, queues and rules are those of its thread.
  pub story_by : (b : Worker Rule OfRule Delays) (r : Registry Job Rule OfJob OfRule Delays) (plain : DelayRule Rule OfRule Delays) (number : ℕ)
      (OfJobs : List Run → Type 0) (k c now : Crashes) (todo left : ℕ) (asks : List Ask) (marks : List ℕ) → k ≡ c →
      b.ident ≡ ident_of number → b.order ≡ strict_order (codes "default" ∷ []) → b.prefetch ≡ 1 → b.plain ≡ plain →
      StoryRan (settings b r) (RulesOf r b.plain) OfJobs k todo asks marks now left → StoryRan (lane_settings number r.classes) (RulesOf r plain) OfJobs c todo asks marks now left
  story_by b r plain number OfJobs k c now todo left asks marks same ident order prefetch rule told =
      subst (λ v. StoryRan v (RulesOf r plain) OfJobs c todo asks marks now left)
      (settings_are (ident_of number) b.ident (strict_order (codes "default" ∷ [])) b.order 1 b.prefetch r.classes r.classes ident order prefetch refl)
      (subst (λ p. StoryRan (settings b r) (RulesOf r p) OfJobs c todo asks marks now left) rule
      (subst (λ x. StoryRan (settings b r) (RulesOf r b.plain) OfJobs x todo asks marks now left) same told))

-- The same story, where the number, the classes and the rules are the same.
pub story_moved : {R : Type 0} (Answers : R → ℕ → ℕ → Type 0) (k l : List Bytes) (rs qs : List R) (p q : R) (n m : ℕ) (OfJobs : List Run → Type 0) (c now : Crashes)
    (todo left : ℕ) (asks : List Ask) (marks : List ℕ) → l ≡ k → qs ≡ rs → q ≡ p → m ≡ n →
    StoryRan (lane_settings m l) (RulesAnswered Answers l qs q) OfJobs c todo asks marks now left →
    StoryRan (lane_settings n k) (RulesAnswered Answers k rs p) OfJobs c todo asks marks now left
story_moved Answers k l rs qs p q n m OfJobs c now todo left asks marks e f g h told =
    subst (λ x. StoryRan (lane_settings x k) (RulesAnswered Answers k rs p) OfJobs c todo asks marks now left) h
    (subst (λ x. StoryRan (lane_settings m k) (RulesAnswered Answers k rs x) OfJobs c todo asks marks now left) g
    (subst (λ x. StoryRan (lane_settings m k) (RulesAnswered Answers k x q) OfJobs c todo asks marks now left) f
    (subst (λ x. StoryRan (lane_settings m x) (RulesAnswered Answers x qs q) OfJobs c todo asks marks now left) e told)))
