-- What one turn of a thread comes to.
use Rattle.std.proofs.Common.{◌≡◌, ◌≤◌, ◌∙◌, sym, ap, subst, ℕ, List, Bool, Option, Some, None, refl, is_some, true, false, Result, Err}
use Rattle.std.specs.Bool.{MatchBool}
use Rattle.std.specs.Result.{is_err}
use Rattle.sk_base.specs.Yields.{YieldsAll}
use Rattle.sk_resp.specs.Spelling.{Bytes}
use Rattle.sk_policy.specs.Order.{Order}
use Rattle.sk_link.specs.Call.{Call}
use Rattle.sk_poller.specs.Stage.{PollTurn}
use Rattle.sk_poller.specs.declared.report.PollFault.{PollFault}
use Rattle.sk_poller.specs.declared.report.PollReport.{PollReport}
use Rattle.sk_worker.specs.Event.{Event, moments as moments_of}
use Rattle.sk_worker.specs.Leaving.{LeaveOf, Leaves as GivesBack, leaving}
use Rattle.sk_worker.specs.Run.{Run, RunsTold}
use Rattle.sk_worker.specs.Saying.{JoinOf, Joins}
use Rattle.sk_worker.specs.Stage.{Settings}
use Rattle.sk_launcher.specs.Counting.{TallyView}
use Rattle.sk_worker.specs.Turn.{Parts, RulesAnswered, TurnOf, TurnTranscript}
use Rattle.sk_worker.specs.declared.turn.Turn.{Turn}
use Rattle.sk_worker.specs.declared.turn.WorkFault.{WorkFault}
use Rattle.sk_launcher.specs.Launching.{HasJoined, HasLeft, kept_fault}
use Rattle.sk_launcher.specs.Polling as polling
use Rattle.sk_launcher.specs.Polling.{IsNoted as IsPollNoted, PollState, PollerAdvances, PollerTurn}
use Rattle.sk_launcher.specs.Turning.{Advances, WentOn}
use Rattle.sk_launcher.specs.TurningLaws.{went_on_more, went_on_one}
use Rattle.sk_launcher.proofs.Zips.{advances_on}
use Rattle.sk_launcher.specs.Working.{IsNoted, WorkState, WorkerAdvances, WorkerTurn, begins, ends, worker_settings}

pub none_of : {A : Type 0} (o : Option A) → is_some o ≡ false → o ≡ None
none_of None is = refl
none_of (Some x) is = absurd (cc is)

pub none_is : {A : Type 0} (o : Option A) → o ≡ None → is_some o ≡ false
none_is o is = rw is refl

pub poller_turned : {Link Dice : Type 0} (Carried : Link → Link → List Call → Type 0) (a b : PollState Link Dice) (moments : Option (ℕ → ℕ))
    (result r : Result PollReport PollFault) → result ≡ r → is_some a.fault ≡ false → moments ≡ a.moments
    → PollTurn (Carried a.link b.link) moments b.moments a.words b.words a.watch result
    → b.watch ≡ a.watch → IsPollNoted a r b → WentOn (PollerTurn Carried) a b
poller_turned Carried a b moments result r is whole same turn watched noted =
    went_on_one (PollerTurn Carried) a b r (record {
      whole = none_of a.fault whole;
      turn = subst (λ z. PollTurn (Carried a.link b.link) a.moments b.moments a.words b.words a.watch z) is
          (subst (λ m. PollTurn (Carried a.link b.link) m b.moments a.words b.words a.watch result) same turn);
      watch_same = watched;
      noted = noted;
    })

turn_told : (w : Settings) (before : List Bytes) (events : List Event) (after : List Bytes) (result : Result Turn WorkFault) (ended : Bool) → ended ≡ false
    → TurnOf ended w before events after result → TurnTranscript w before events after result
turn_told w before events after result false is told = told
turn_told w before events after result true is told = absurd (cc is)

pub worker_turned : {Link Delay Dice : Type 0} (Carried : Link → Link → List Call → Type 0)
    (Answers : Delay → ℕ → ℕ → Type 0) (a b : WorkState Link Delay Dice) (moments : Option (ℕ → ℕ)) (result r : Result Turn WorkFault) → result ≡ r → a.ended ≡ false
    → b.moments ≡ moments
    → ((events : List Event) × Parts (λ cs. Carried a.link b.link cs) (λ rs. RunsTold a.settings.classes rs a.told b.told) (λ ms. YieldsAll a.moments ms moments) (λ ws. YieldsAll a.words ws b.words)
    (λ cs. RulesAnswered Answers a.settings.classes a.rules a.plain cs) events
    × TurnOf a.ended a.settings a.held events b.held result)
    → b.settings ≡ a.settings → b.rules ≡ a.rules → b.plain ≡ a.plain → IsNoted a r b → WentOn (WorkerTurn Carried Answers) a b
worker_turned Carried Answers a b moments result r is whole same (events, parts, told) settled ruled plain noted =
    went_on_one (WorkerTurn Carried Answers) a b r (record {
      whole = whole;
      events = events;
      parts = record {
        link = parts.link;
        jobs = parts.jobs;
        clock = subst (λ m. YieldsAll a.moments (moments_of events) m) (sym same) parts.clock;
        dice = parts.dice;
        rules = parts.rules;
      };
      told = subst (λ z. TurnTranscript a.settings a.held events b.held z) is (turn_told a.settings a.held events b.held result a.ended whole told);
      settings_same = settled;
      rules_same = ruled;
      plain_same = plain;
      noted = noted;
    })

-- Who went on took one more turn, and that was not one too many.
pub advances_once : {X Answer Fault : Type 0} (Turn : X → Result Answer Fault → X → Type 0) (ended : X → Bool) → ((a b : X) (r : Result Answer Fault) → Turn a r b → ended a ≡ false) →
    ((a b : X) (f : Fault) → Turn a (Err f) b → ended b ≡ true) → (taken : X → ℕ) (turns : ℕ) (a b c : X) → Advances (WentOn Turn) taken turns a b → WentOn Turn b c →
    taken c ≤ turns → Advances (WentOn Turn) taken turns a c
advances_once Turn ended begins ends taken turns a b c p turn few = record { goes_on = went_on_more Turn ended begins ends a b c p.goes_on turn; most = λ le. few }

pub worker_advances : {Link Delay Dice : Type 0} (Carried : Link → Link → List Call → Type 0) (Answers : Delay → ℕ → ℕ → Type 0) (turns : ℕ) (a b c : WorkState Link Delay Dice) → WorkerAdvances Carried Answers turns a b →
    WentOn (WorkerTurn Carried Answers) b c → c.tally.taken ≤ turns → WorkerAdvances Carried Answers turns a c
worker_advances Carried Answers turns a b c p turn few =
    advances_once (WorkerTurn Carried Answers) (λ w. w.ended) (begins Carried Answers) (ends Carried Answers) (λ w. w.tally.taken) turns a b c p turn few

pub poller_advances : {Link Dice : Type 0} (Carried : Link → Link → List Call → Type 0) (turns : ℕ) (a b c : PollState Link Dice) → PollerAdvances Carried turns a b →
    WentOn (PollerTurn Carried) b c → c.taken ≤ turns → PollerAdvances Carried turns a c
poller_advances Carried turns a b c p turn few =
    advances_once (PollerTurn Carried) (λ p. is_some p.fault) (polling.begins Carried) (polling.ends Carried) (λ p. p.taken) turns a b c p turn few

pub worker_advances_on : {Link Delay Dice : Type 0} (Carried : Link → Link → List Call → Type 0) (Answers : Delay → ℕ → ℕ → Type 0) (turns : ℕ) (a b c : WorkState Link Delay Dice) → WorkerAdvances Carried Answers turns a b →
    WorkerAdvances Carried Answers turns b c → WorkerAdvances Carried Answers turns a c
worker_advances_on Carried Answers =
    advances_on (WentOn (WorkerTurn Carried Answers)) (λ w. w.tally.taken) (went_on_more (WorkerTurn Carried Answers) (λ w. w.ended) (begins Carried Answers) (ends Carried Answers))

pub poller_advances_on : {Link Dice : Type 0} (Carried : Link → Link → List Call → Type 0) (turns : ℕ) (a b c : PollState Link Dice) → PollerAdvances Carried turns a b →
    PollerAdvances Carried turns b c → PollerAdvances Carried turns a c
poller_advances_on Carried =
    advances_on (WentOn (PollerTurn Carried)) (λ p. p.taken) (went_on_more (PollerTurn Carried) (λ p. is_some p.fault) (polling.begins Carried) (polling.ends Carried))

pub same_settings : (ident ident' : Bytes) (order order' : Order) (prefetch prefetch' : ℕ) (classes classes' : List Bytes) → ident' ≡ ident → order' ≡ order
    → prefetch' ≡ prefetch → classes' ≡ classes → worker_settings ident' order' prefetch' classes' ≡ worker_settings ident order prefetch classes
same_settings ident ident' order order' prefetch prefetch' classes classes' a b c d = cc (a, b, c, d)

-- A worker's state is that of another, but for its link, the jobs in hand and whether it had a fault.
pub record IsKept {Link Delay Dice : Type 0} (a b : WorkState Link Delay Dice) : Type 0 where
  pub moments : b.moments ≡ a.moments
  pub dice : b.dice ≡ a.dice
  pub words : b.words ≡ a.words
  pub settings : b.settings ≡ a.settings
  pub told : b.told ≡ a.told
  pub rules : b.rules ≡ a.rules
  pub plain : b.plain ≡ a.plain
  pub tally : b.tally ≡ a.tally

abbrev state : {Link Delay Dice : Type 0} → Link → Option (ℕ → ℕ) → Dice → Option (ℕ → ℕ) → Settings → List (Option (List Run)) → List Delay → Delay → List Bytes → Bool →
    Option WorkFault → TallyView → WorkState Link Delay Dice
state link moments dice words own told rules plain held ended fault tally =
    record { link = link; moments = moments; dice = dice; words = words; settings = own; told = told; rules = rules; plain = plain; held = held; ended = ended; fault = fault; tally = tally }

same_fields : {Link Delay Dice : Type 0} (link : Link) (moments moments' : Option (ℕ → ℕ)) (dice dice' : Dice) (words words' : Option (ℕ → ℕ)) (own own' : Settings)
    (told told' : List (Option (List Run))) (rules rules' : List Delay) (plain plain' : Delay) (held : List Bytes) (ended ended' : Bool)
    (fault fault' : Option WorkFault) (tally tally' : TallyView) → moments' ≡ moments → dice' ≡ dice → words' ≡ words → own' ≡ own → told' ≡ told → rules' ≡ rules → plain' ≡ plain
    → ended' ≡ ended → fault' ≡ fault → tally' ≡ tally
    → state link moments' dice' words' own' told' rules' plain' held ended' fault' tally' ≡ state link moments dice words own told rules plain held ended fault tally
same_fields link moments moments' dice dice' words words' own own' told told' rules rules' plain plain' held ended ended' fault fault' tally tally' a b c d e f g h i j =
    cc (a, b, c, d, e, f, g, h, i, j)

same_state : {Link Delay Dice : Type 0} (a b : WorkState Link Delay Dice) (ended : Bool) (fault : Option WorkFault) → IsKept a b → b.ended ≡ ended → b.fault ≡ fault
    → b ≡ record a { link = b.link; held = b.held; ended = ended; fault = fault }
same_state a b ended fault kept ends faulty =
    same_fields b.link a.moments b.moments a.dice b.dice a.words b.words a.settings b.settings a.told b.told a.rules b.rules a.plain b.plain b.held ended b.ended fault b.fault
    a.tally b.tally kept.moments kept.dice kept.words kept.settings kept.told kept.rules kept.plain ends faulty kept.tally

leave_told : (OfLink : List Call → Type 0) (ident : Bytes) (held after : List Bytes) (result : Result ℕ WorkFault) (ended : Bool) → ended ≡ false
    → LeaveOf OfLink ended ident held after result → GivesBack OfLink ident (leaving held 0) after result
leave_told OfLink ident held after result false is told = told
leave_told OfLink ident held after result true is told = absurd (cc is)

for_false : (A B : Type 0) (ended : Bool) → ended ≡ false → B → MatchBool ended A B
for_false A B false is b = b
for_false A B true is b = absurd (cc is)

pub has_left : {Link Delay Dice : Type 0} (Carried : Link → Link → List Call → Type 0) (A : Type 0) (a b : WorkState Link Delay Dice)
    (result r : Result ℕ WorkFault) → a.ended ≡ false → result ≡ r
    → LeaveOf (Carried a.link b.link) a.ended a.settings.ident a.held b.held result
    → IsKept a b → b.ended ≡ is_err r → b.fault ≡ kept_fault a.fault r → MatchBool a.ended A (HasLeft Carried a b)
has_left Carried A a b result r whole is told kept ends faulty =
    for_false A (HasLeft Carried a b) a.ended whole (record {
      result = r;
      told = subst (λ z. GivesBack (Carried a.link b.link) a.settings.ident (leaving a.held 0) b.held z) is
          (leave_told (Carried a.link b.link) a.settings.ident a.held b.held result a.ended whole told);
      becomes = same_state a b (is_err r) (kept_fault a.fault r) kept ends faulty;
    })

join_told : (OfLink : List Call → Type 0) (ident : Bytes) (result : Result (Unit {0}) WorkFault) (ended : Bool) → ended ≡ false
    → JoinOf ended OfLink ident result → Joins OfLink ident result
join_told OfLink ident result false is told = told
join_told OfLink ident result true is told = absurd (cc is)

pub has_joined : {Link Delay Dice : Type 0} (Carried : Link → Link → List Call → Type 0) (a b : WorkState Link Delay Dice) (result r : Result (Unit {0}) WorkFault) → a.ended ≡ false
    → result ≡ r → JoinOf a.ended (λ cs. Carried a.link b.link cs) a.settings.ident result → b.held ≡ a.held
    → IsKept a b → b.ended ≡ is_err r → b.fault ≡ kept_fault a.fault r → HasJoined Carried a b
has_joined Carried a b result r whole is told held kept ends faulty = record {
  result = r;
  says = subst (λ z. Joins (Carried a.link b.link) a.settings.ident z) is
      (join_told (Carried a.link b.link) a.settings.ident result a.ended whole told);
  becomes = same_state a b (is_err r) (kept_fault a.fault r) kept ends faulty
      ∙ ap (λ h. record a { link = b.link; held = h; ended = is_err r; fault = kept_fault a.fault r }) held;
}
