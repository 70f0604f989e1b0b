-- What a worker does with one job: the stages, what is asked in each, and where each event leads.
use Rattle.std.specs.Prelude.{◌≡◌, ◌≢◌, ◌%◌, ℕ, ℤ, true, List, Some, None, IsSome, IsSomeAnd, IfOk, Result, Ok, Err, codes, map}
use Rattle.sk_base.specs.declared.limits.TheConstants.{LAST_GENERATION}
use Rattle.sk_resp.specs.Spelling.{Bytes}
use Rattle.sk_resp.specs.declared.reply.Reply.{Reply}
use Rattle.sk_payload.specs.Failed.{failed as failed_text}
use Rattle.sk_payload.specs.Head.{head}
use Rattle.sk_payload.specs.declared.head.Head.{Head}
use Rattle.sk_link.specs.Asking.{answers}
use Rattle.sk_link.specs.declared.asking.Answer.{Answer}
use Rattle.sk_link.specs.declared.asking.Answer.TheVariants as answer
use Rattle.sk_link.specs.Call.{Call, answered}
use Rattle.sk_policy.specs.Decision.{decision}
use Rattle.sk_policy.specs.Order.{Order}
use Rattle.sk_policy.specs.declared.decision.Decision.{Decision}
use Rattle.sk_policy.specs.declared.decision.Decision.TheVariants as decide
use Rattle.sk_worker.specs.Run.{place_of}
use Rattle.sk_worker.specs.Request.{script_words, retry_words, release_words}
use Rattle.sk_worker.specs.Event.{Event, asked, ran, chose}
use Rattle.sk_link.specs.Walk.{Walk}
use Rattle.sk_worker.specs.Broken.{Broken}
use Rattle.sk_worker.specs.declared.job.Raised.{Raised}
use Rattle.sk_worker.specs.declared.job.Outcome.{Outcome}
use Rattle.sk_worker.specs.declared.job.Outcome.TheVariants as outcome
use Rattle.sk_worker.specs.declared.turn.Turn.{Turn}
use Rattle.sk_worker.specs.declared.turn.Turn.TheVariants as turn
use Rattle.sk_worker.specs.declared.turn.WorkFault.{WorkFault}
use Rattle.sk_worker.specs.declared.turn.WorkFault.TheVariants as fault

-- who works: the ident, the queues, how many jobs are held at most, and the classes that have a job
pub record Settings : Type 0 where
  pub ident : Bytes
  pub order : Order
  pub prefetch : ℕ
  pub classes : List Bytes

pub data Stage : Type 0 where
  -- it works on this payload
  holding : Bytes → Stage
  -- the store knows that the job of this payload runs
  started : Bytes → Head → Stage
  returned : Bytes → Stage
  raised : Bytes → Head → Raised → Stage
  -- the store knows that the run failed
  failed : Bytes → Head → Raised → Stage
  decided : Bytes → Raised → ℕ → Decision → Stage
  -- the payload has its place, and leaves the private list
  releasing : Bytes → Turn → Stage
  over : Turn → Stage

abbrev pub ended : Bytes → Head → Outcome → Stage
ended c h outcome.Returned = returned c
ended c h (outcome.Raised r) = raised c h r

-- the error of a job whose class has none
abbrev pub unknown : Head → Raised
unknown h = record { class = codes "UnknownClass"; message = h.class }

-- The job of this text failed as often as one may.
abbrev pub IsLast : Bytes → Type 0
IsLast c = IsSomeAnd (head c) (λ h. h.gen_ ≡ LAST_GENERATION)

-- This is the text of the job after one more failed run, which it may have.
abbrev pub FailsTo : Bytes → ℕ → Raised → Bytes → Type 0
FailsTo c now r p = (failed_text c now r.class r.message ≡ Some p) × (IsLast c → ⊥)

-- why a job has no such text: it failed as often as one may, or there was no memory
abbrev pub HasNoNext : Bytes → WorkFault → Type 0
HasNoNext c (fault.Link f) = ⊥
HasNoNext c (fault.Refused r) = ⊥
HasNoNext c fault.GenLimit = IsLast c
HasNoNext c fault.Ended = ⊥
HasNoNext c fault.Memory = Unit {0}

-- ## The table: stage, request, kind of answer, next stage

pub data Line (w : Settings) : Stage → List Bytes → Answer → (Reply → Stage) → Type 0 where
  bury_bare : (c : Bytes) → head c ≡ None →
      Line w (holding c) (script_words (codes "SK.BURY") c) answer.Report (λ _. releasing c turn.Buried)
  start : (c : Bytes) (h : Head) → head c ≡ Some h →
      Line w (holding c) (script_words (codes "SK.START") c) answer.Okay (λ _. started c h)
  finish : (c : Bytes) →
      Line w (returned c) (script_words (codes "SK.OK") c) answer.List (λ _. releasing c turn.Done)
  fail : (c : Bytes) (h : Head) (r : Raised) →
      Line w (raised c h r) (script_words (codes "SK.FAIL") c) answer.List (λ _. failed c h r)
  fail_unknown : (c : Bytes) (h : Head) → place_of w.classes h.class ≡ None →
      Line w (started c h) (script_words (codes "SK.FAIL") c) answer.List (λ _. failed c h (unknown h))
  retry : (c p : Bytes) (r : Raised) (now : ℕ) (score : ℤ) → FailsTo c now r p →
      Line w (decided c r now (decide.Retry score)) (retry_words score p) answer.Number (λ _. releasing c turn.Retried)
  bury : (c p : Bytes) (r : Raised) (now : ℕ) → FailsTo c now r p →
      Line w (decided c r now decide.Bury) (script_words (codes "SK.BURY") p) answer.Report (λ _. releasing c turn.Buried)
  drop : (c : Bytes) (r : Raised) (now : ℕ) →
      Line w (decided c r now decide.Discard) (script_words (codes "SK.DROP") c) answer.Okay (λ _. releasing c turn.Discarded)
  release : (c : Bytes) (t : Turn) →
      Line w (releasing c t) (release_words w.ident c) answer.Number (λ _. over t)

-- Each event leads from a stage to the next: a request by its line, a run only of the job that the head's class has, and a choice as it was decided.
pub data Step (w : Settings) : Stage → Event → Stage → Type 0 where
  asks : (from : Stage) (request : List Bytes) (wanted : Answer) (next : Reply → Stage) (r : Reply) →
      Line w from request wanted next → answers wanted r ≡ true →
      Step w from (asked (answered request r)) (next r)
  runs : (c : Bytes) (h : Head) (o : Outcome) → IsSome (place_of w.classes h.class) →
      Step w (started c h) (ran (record { head = h; outcome = o })) (ended c h o)
  chooses : (c : Bytes) (h : Head) (r : Raised) (moment word delay : ℕ) →
      Step w (failed c h r) (chose (record { class = h.class; count = h.gen_; moment = moment; word = word; delay = delay }))
      (decided c r moment (decision h moment (word % 10) delay))

-- It was decided that the job is retried or buried, and it failed as often as one may.
abbrev pub AtLimit : Stage → Type 0
AtLimit (decided c r now d) = (d ≢ decide.Discard) × IsLast c
AtLimit stage = ⊥

-- The events are those of one job, from this stage on: to its end, or as far as they came.
abbrev pub JobTranscript : Settings → Stage → List Event → Result Turn WorkFault → Type 0
JobTranscript w from events (Ok t) = Walk (Step w) from events (over t)
JobTranscript w from events (Err f) = (stage : Stage) × Broken (Line w) (Step w) AtLimit from events stage f

-- The link carried the calls of one job, from this stage on, of a worker with this ident.
abbrev pub Settles : (List Call → Type 0) → Bytes → Stage → Result Turn WorkFault → Type 0
Settles Carried ident from result = (w : Settings) → w.ident ≡ ident → (cs : List Call) × Carried cs × JobTranscript w from (map asked cs) result

-- The words are those of a line that leads from this stage to the release of this payload.
abbrev pub Places : {E : Type 0} → Stage → Result (List Bytes) E → Answer → Bytes → Turn → Type 0
Places from words wanted c t =
    (request : List Bytes) × IfOk words (λ ws. ws ≡ request) × ((w : Settings) → Line w from request wanted (λ _. releasing c t))

-- From this stage SK.BURY of this text leads to the release of this payload.
abbrev pub Buries : Stage → Bytes → Bytes → Type 0
Buries from text c = (w : Settings) → Line w from (script_words (codes "SK.BURY") text) answer.Report (λ _. releasing c turn.Buried)
