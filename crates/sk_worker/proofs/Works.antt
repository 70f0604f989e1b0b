-- Work on the oldest job, and turns.
use Rattle.std.proofs.Common.{Vec, Global, ◌≡◌, ◌∙◌, ◌⊎◌, ◌≤◌, ℕ, List, [], ◌∷◌, ◌++◌, drop, inl, inr, refl, sym, subst, ap, Option, Some, None, IsSome, MatchOption, IfSome, Result, Ok, Err, slice_get, append-nil}
use Rattle.std.specs.List.{AllByRecursion}
use Rattle.sk_resp.specs.Spelling.{Bytes}
use Rattle.sk_link.specs.Walk.{Walk}
use Rattle.sk_worker.specs.Event.{Event, Choice}
use Rattle.sk_worker.specs.Fetching.{FetchStep, fetched, fetch_start}
use Rattle.sk_worker.specs.Promises.{WorkTranscript}
use Rattle.sk_worker.specs.Run.{place_of}
use Rattle.sk_worker.specs.Stage.{Settings, JobTranscript, holding}
use Rattle.sk_worker.specs.Turn.{RulesAnswered, TurnTranscript, empty, job}
use Rattle.sk_worker.specs.declared.job.Outcome.{Outcome}
use Rattle.sk_worker.specs.declared.job.Outcome.TheVariants as outcome
use Rattle.sk_worker.specs.declared.job.Raised.{Raised}
use Rattle.sk_worker.specs.declared.turn.Turn.{Turn}
use Rattle.sk_worker.specs.declared.turn.Turn.TheVariants as turn
use Rattle.sk_worker.specs.declared.turn.WorkFault.{WorkFault}
use Rattle.sk_worker.proofs.EmptyTurns.{an_empty_turn}
use Rattle.sk_worker.proofs.Events.{each_weaker}

-- ## The oldest job

pub works_on_none : (w : Settings) (held : List Bytes) → held ≡ [] → WorkTranscript w held [] (Ok turn.Empty)
works_on_none w held is = subst (λ payloads. WorkTranscript w payloads [] (Ok turn.Empty)) (sym is) (refl, refl)

pub works_on : (w : Settings) (held others : List Bytes) (c : Bytes) (events : List Event) (result : Result Turn WorkFault) → held ≡ c ∷ others →
    JobTranscript w (holding c) events result → WorkTranscript w held events result
works_on w held others c events result is told = subst (λ payloads. WorkTranscript w payloads events result) (sym is) told

-- The class has a job, or none.
pub attempted : {A B : Type 0} (place : Option ℕ) → MatchOption place A (λ _. B) → ((place ≡ None) × A) ⊎ (IsSome place × B)
attempted None p = inl (refl, p)
attempted (Some i) p = inr (refl, p)

abbrev raised_or : Raised → Outcome → Raised
raised_or r (outcome.Raised raised) = raised
raised_or r outcome.Returned = r

pub same_error : (r raised : Raised) (o : Outcome) → o ≡ outcome.Raised r → o ≡ outcome.Raised raised → r ≡ raised
same_error r raised o is was = ap (raised_or r) (sym is ∙ was)

pub same_items : {T : Type 0} (xs ys : Vec T Global) → xs ≡ ys → xs.items ≡ ys.items
same_items {T} xs ys is = ap (λ (zs : Vec T Global). zs.items) is

-- ## The rule of a class

rule_answers : {R : Type 0} (P : R → Type 0) (place : Option ℕ) (rules : List R) (plain rule : R) →
    MatchOption place (rule ≡ plain) (λ i. slice_get rules i ≡ Some rule) → P rule → MatchOption place (P plain) (λ i. IfSome (slice_get rules i) (λ r. P r))
rule_answers P None rules plain rule is p = subst P is p
rule_answers P (Some i) rules plain rule is p = subst (λ found. IfSome found (λ r. P r)) (sym is) p

pub RulesAnswered-by : {R : Type 0} (Answers : R → ℕ → ℕ → Type 0) (classes : List Bytes) (class : Bytes) (rules : List R) (plain rule : R) (choices : List Choice) →
    MatchOption (place_of classes class) (rule ≡ plain) (λ i. slice_get rules i ≡ Some rule) →
    AllByRecursion (λ choice. (choice.class ≡ class) × Answers rule choice.count choice.delay) choices → RulesAnswered Answers classes rules plain choices
RulesAnswered-by Answers classes class rules plain rule choices of_class answered = record {
  each = each_weaker (λ choice. (choice.class ≡ class) × Answers rule choice.count choice.delay)
      (λ choice. MatchOption (place_of classes choice.class) (Answers plain choice.count choice.delay)
      (λ i. IfSome (slice_get rules i) (λ r. Answers r choice.count choice.delay)))
      (λ choice p. subst (λ name. MatchOption (place_of classes name) (Answers plain choice.count choice.delay)
      (λ i. IfSome (slice_get rules i) (λ r. Answers r choice.count choice.delay))) (sym p.0)
      (rule_answers (λ r. Answers r choice.count choice.delay) (place_of classes class) rules plain rule of_class p.1)) choices answered;
}

pub RulesAnswered-plain : {R : Type 0} (Answers : R → ℕ → ℕ → Type 0) (classes : List Bytes) (rules : List R) (plain other : R) (choices : List Choice) → plain ≡ other →
    RulesAnswered Answers classes rules plain choices → RulesAnswered Answers classes rules other choices
RulesAnswered-plain Answers classes rules plain other choices is answered = subst (λ r. RulesAnswered Answers classes rules r choices) is answered

-- ## A turn

-- what is held after work on the oldest of these payloads
abbrev pub rest_of : List Bytes → Result Turn WorkFault → List Bytes
rest_of held (Ok t) = drop 1 held
rest_of held (Err f) = held

nothing_left : (result : Result Turn WorkFault) (after : List Bytes) → result ≡ Ok turn.Empty → after ≡ rest_of [] result → after ≡ []
nothing_left (Ok t) after e is = is
nothing_left (Err f) after e is = is

append_none : (first rest : List Event) → rest ≡ [] → first ++ rest ≡ first
append_none first rest none = subst (λ events. first ++ events ≡ first) (sym none) (append-nil first)

-- Fetching and then work on the oldest job make a turn.
pub turn_of : (w : Settings) (before held after : List Bytes) (first rest : List Event) (result : Result Turn WorkFault) → 1 ≤ w.prefetch →
    Walk (FetchStep w) (fetch_start w before) first (fetched held) → WorkTranscript w held rest result → after ≡ rest_of held result →
    TurnTranscript w before (first ++ rest) after result
turn_of w before [] after first rest result some_ walk work is =
    subst (λ r. TurnTranscript w before (first ++ rest) after r) (sym work.1)
    (subst (λ payloads. TurnTranscript w before (first ++ rest) payloads (Ok turn.Empty)) (sym (nothing_left result after work.1 is))
    (subst (λ events. TurnTranscript w before events [] (Ok turn.Empty)) (sym (append_none first rest work.0))
    (empty first (an_empty_turn w before first some_ walk))))
turn_of w before (c ∷ others) after first rest (Ok t) some_ walk work is = job first rest c others after (Ok t) walk work is
turn_of w before (c ∷ others) after first rest (Err f) some_ walk work is = job first rest c others after (Err f) walk work is
