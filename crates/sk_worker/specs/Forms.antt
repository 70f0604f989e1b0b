-- The four forms of what a turn does with a job (super_fetch of Sidekiq Pro).
use Rattle.std.specs.Prelude.{length, map, ◌≡◌, ◌⊎◌, ◌%◌, ℕ, ℤ, true, List, [], ◌∷◌, Some, None, IsSome, Result, Ok, Err, codes}
use Rattle.sk_resp.specs.Spelling.{Bytes}
use Rattle.sk_resp.specs.declared.reply.Reply.{Reply}
use Rattle.sk_resp.specs.declared.reply.Reply.TheVariants as reply
use Rattle.sk_link.specs.Asking.{is_okay}
use Rattle.sk_link.specs.Call.{answered}
use Rattle.sk_payload.specs.Head.{head}
use Rattle.sk_payload.specs.declared.head.Head.{Head}
use Rattle.sk_policy.specs.Decision.{decision}
use Rattle.sk_policy.specs.Order.{draws, queues_in}
use Rattle.sk_policy.specs.declared.decision.Decision.{Decision}
use Rattle.sk_policy.specs.declared.decision.Decision.TheVariants as decide
use Rattle.sk_worker.specs.Run.{place_of}
use Rattle.sk_worker.specs.Request.{fetch_words, script_words, retry_words, release_words}
use Rattle.sk_worker.specs.Event.{Event, ordered, asked, ran, chose, runs}
use Rattle.sk_worker.specs.Stage.{FailsTo, Settings, unknown}
use Rattle.sk_worker.specs.declared.job.Raised.{Raised}
use Rattle.sk_worker.specs.declared.job.Outcome.{Outcome}
use Rattle.sk_worker.specs.declared.job.Outcome.TheVariants as outcome
use Rattle.sk_worker.specs.declared.turn.Turn.{Turn}
use Rattle.sk_worker.specs.declared.turn.Turn.TheVariants as turn
use Rattle.sk_worker.specs.declared.turn.WorkFault.{WorkFault}
use Rattle.sk_worker.specs.declared.turn.WorkFault.TheVariants as fault

abbrev pub call : List Bytes → Reply → Event
call request r = asked (answered request r)

-- what is sent of a failed job, as it was decided
pub data Fate (c : Bytes) (r : Raised) (now : ℕ) : Decision → List Bytes → Turn → Type 0 where
  retried : (p : Bytes) (score : ℤ) → FailsTo c now r p →
      Fate c r now (decide.Retry score) (retry_words score p) turn.Retried
  buried : (p : Bytes) → FailsTo c now r p →
      Fate c r now decide.Bury (script_words (codes "SK.BURY") p) turn.Buried
  discarded : Fate c r now decide.Discard (script_words (codes "SK.DROP") c) turn.Discarded

-- a failed run, from SK.FAIL on
pub data Failing (w : Settings) (c : Bytes) (h : Head) (r : Raised) : List Event → Turn → Type 0 where
  failing : (now word delay : ℕ) (request : List Bytes) (t : Turn) (fail put release : Reply) →
      Fate c r now (decision h now (word % 10) delay) request t →
      Failing w c h r
      (call (script_words (codes "SK.FAIL") c) fail
      ∷ chose (record { class = h.class; count = h.gen_; moment = now; word = word; delay = delay })
      ∷ call request put
      ∷ call (release_words w.ident c) release ∷ []) t

pub data Form (w : Settings) (c : Bytes) : List Event → Turn → Type 0 where
  headless : (bury release : Reply) → head c ≡ None →
      Form w c (call (script_words (codes "SK.BURY") c) bury ∷ call (release_words w.ident c) release ∷ []) turn.Buried
  returned : (h : Head) (start ok release : Reply) → head c ≡ Some h → IsSome (place_of w.classes h.class) →
      Form w c (call (script_words (codes "SK.START") c) start ∷ ran (record { head = h; outcome = outcome.Returned })
      ∷ call (script_words (codes "SK.OK") c) ok ∷ call (release_words w.ident c) release ∷ []) turn.Done
  raised : (h : Head) (r : Raised) (start : Reply) (rest : List Event) (t : Turn) → head c ≡ Some h → IsSome (place_of w.classes h.class) →
      Failing w c h r rest t →
      Form w c (call (script_words (codes "SK.START") c) start ∷ ran (record { head = h; outcome = outcome.Raised r }) ∷ rest) t
  unregistered : (h : Head) (start : Reply) (rest : List Event) (t : Turn) → head c ≡ Some h → place_of w.classes h.class ≡ None →
      Failing w c h (unknown h) rest t →
      Form w c (call (script_words (codes "SK.START") c) start ∷ rest) t

-- A turn that found no job: it held none, and each queue in the order of the words that were drawn answered null.
pub record EmptyForm (w : Settings) (before : List Bytes) (events : List Event) : Type 0 where
  pub none : before ≡ []
  pub words : List ℕ
  pub drawn : length words ≡ draws w.order
  pub are : events ≡ ordered words ∷ map (λ queue. call (fetch_words w.ident queue) reply.Null) (queues_in w.order words)

-- What happened to a job whose run returned, before the worker says so: its run by the job of its own class, and nothing but SK.START before.
pub record ReturnedForm (w : Settings) (c said : Bytes) (events : List Event) : Type 0 where
  pub h : Head
  pub start : Reply
  pub is : head c ≡ Some h
  pub registered : IsSome (place_of w.classes h.class)
  pub same : said ≡ c
  pub are : events ≡ call (script_words (codes "SK.START") c) start ∷ ran (record { head = h; outcome = outcome.Returned }) ∷ []

-- The store took SK.START of this job by this reply, and its class has a job.
pub record IsStarted (w : Settings) (c : Bytes) (h : Head) (start : Reply) : Type 0 where
  pub is : head c ≡ Some h
  pub registered : IsSome (place_of w.classes h.class)
  pub taken : is_okay start ≡ true

-- The job of this head ran once, or there was no memory, and it didn't run.
abbrev pub RanOnce : Head → List Event → Result Turn WorkFault → Type 0
RanOnce h events result = ((o : Outcome) × (runs events ≡ record { head = h; outcome = o } ∷ [])) ⊎ ((result ≡ Err fault.Memory) × (runs events ≡ []))

-- The turn was empty, or there was no memory.
abbrev pub IsEmptyOrMemory : Result Turn WorkFault → Type 0
IsEmptyOrMemory result = (result ≡ Ok turn.Empty) ⊎ (result ≡ Err fault.Memory)
