-- How many runs return in a turn.
use Rattle.std.proofs.Common.{◌≡◌, ◌∙◌, ℕ, List, [], ◌∷◌, ◌++◌, map, length, refl, ap, Result, Ok, Err}
use Rattle.sk_resp.specs.Spelling.{Bytes}
use Rattle.sk_resp.specs.declared.reply.Reply.TheVariants as reply
use Rattle.sk_link.specs.Walk.{Walk}
use Rattle.sk_payload.specs.declared.head.Head.{Head}
use Rattle.sk_policy.specs.declared.decision.Decision.{Decision}
use Rattle.sk_worker.specs.Event.{Event, runs}
use Rattle.sk_worker.specs.Fetching.{FetchStage, FetchStep, fetches, orders}
use Rattle.sk_worker.specs.Forms
use Rattle.sk_worker.specs.Forms.{EmptyForm, Failing, Fate, Form, call}
use Rattle.sk_worker.specs.Laws.{DoneTurnsReturned, returns_in}
use Rattle.sk_worker.specs.Request.{fetch_words}
use Rattle.sk_worker.specs.Run.{Run, returned_runs}
use Rattle.sk_worker.specs.Stage.{JobTranscript, Settings, holding}
use Rattle.sk_worker.specs.Turn.{TurnTranscript, unfetched, empty, job}
use Rattle.sk_worker.specs.declared.job.Raised.{Raised}
use Rattle.sk_worker.specs.declared.turn.Turn.{Turn}
use Rattle.sk_worker.specs.declared.turn.WorkFault.{WorkFault}
use Rattle.sk_policy.specs.Order.{queues_in}
use Rattle.sk_worker.proofs.Events.{runs-append}
use Rattle.sk_worker.proofs.Forms.{four_forms}

-- no job runs while a worker fetches
step_runs : (w : Settings) (from next : FetchStage) (event : Event) (events : List Event) → FetchStep w from event next → runs (event ∷ events) ≡ runs events
step_runs w from next event events (orders words payloads drawn) = refl
step_runs w from next event events (fetches from0 request wanted nexts r line ok) = refl

fetch_runs : (w : Settings) (from to : FetchStage) (events : List Event) → Walk (FetchStep w) from events to → runs events ≡ []
fetch_runs w from to [] walk = refl
fetch_runs w from to (event ∷ events) walk = step_runs w from walk.0 event events walk.1 ∙ fetch_runs w walk.0 to events walk.2

null_runs : (w : Settings) (queues : List Bytes) → runs (map (λ queue. call (fetch_words w.ident queue) reply.Null) queues) ≡ []
null_runs w [] = refl
null_runs w (queue ∷ queues) = null_runs w queues

returns : List Event → ℕ
returns events = length (returned_runs (runs events))

fate_returns : (c : Bytes) (r : Raised) (now : ℕ) (d : Decision) (request : List Bytes) (t : Turn) → Fate c r now d request t → 0 ≡ returns_in t
fate_returns c r now d request t (Forms.retried p score text) = refl
fate_returns c r now d request t (Forms.buried p text) = refl
fate_returns c r now d request t Forms.discarded = refl

failing_returns : (w : Settings) (c : Bytes) (h : Head) (r : Raised) (events : List Event) (t : Turn) → Failing w c h r events t → returns events ≡ returns_in t
unfolding returns
failing_returns w c h r events t (Forms.failing now word delay request t0 fail put release fate) = fate_returns c r now _ request t fate

form_returns : (w : Settings) (c : Bytes) (events : List Event) (t : Turn) → Form w c events t → returns events ≡ returns_in t
unfolding returns
form_returns w c events t (Forms.headless bury release none) = refl
form_returns w c events t (Forms.returned h start ok release is there) = refl
form_returns w c events t (Forms.raised h r start rest t0 is there others) = failing_returns w c h r rest t others
form_returns w c events t (Forms.unregistered h start rest t0 is none others) = failing_returns w c h _ rest t others

abbrev Returned : List Event → Result Turn WorkFault → Type 0
Returned events (Ok t) = length (returned_runs (runs events)) ≡ returns_in t
Returned events (Err f) = Unit {0}

job_returns : (w : Settings) (c : Bytes) (first rest : List Event) (result : Result Turn WorkFault) → runs first ≡ [] → JobTranscript w (holding c) rest result →
    Returned (first ++ rest) result
unfolding returns
job_returns w c first rest (Ok t) none walk =
    ap (λ rs. length (returned_runs rs)) (runs-append first rest ∙ ap (λ rs. rs ++ runs rest) none) ∙ form_returns w c rest t (four_forms w c t rest walk)
job_returns w c first rest (Err f) none broken = tt

turn_returns : (w : Settings) (before : List Bytes) (events after : List _) (result : Result Turn WorkFault) → TurnTranscript w before events after result → Returned events result
turn_returns w before events after result (unfetched events0 after0 f broken) = tt
turn_returns w before events after result (empty events0 form) =
    ap (λ es. length (returned_runs (runs es))) form.are ∙ ap (λ rs. length (returned_runs rs)) (null_runs w (queues_in w.order form.words))
turn_returns w before events after result (job first rest c others after0 result0 walk done is) =
    job_returns w c first rest result (fetch_runs w _ _ first walk) done

pub done_turns : (w : Settings) → DoneTurnsReturned w
done_turns w before events after t told = turn_returns w before events after (Ok t) told
