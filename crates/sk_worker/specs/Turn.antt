-- What a worker's turn is: it fetches, and then works on the oldest job that it holds.
use Rattle.std.specs.Prelude.{◌≡◌, ℕ, Bool, true, false, List, [], ◌∷◌, ◌++◌, Result, Ok, Err, MatchOption, IfSome, slice_get}
use Rattle.std.specs.List.{AllByRecursion}
use Rattle.sk_resp.specs.Spelling.{Bytes}
use Rattle.sk_link.specs.Call.{Call}
use Rattle.sk_link.specs.Walk.{Walk}
use Rattle.sk_worker.specs.Event.{Event, Choice, calls, runs, moments, words, choices}
use Rattle.sk_worker.specs.Fetching.{FetchStep, FetchTranscript, fetched, fetch_start}
use Rattle.sk_worker.specs.Forms.{EmptyForm}
use Rattle.sk_worker.specs.Run.{Run, place_of}
use Rattle.sk_worker.specs.Stage.{Settings, holding, JobTranscript}
use Rattle.sk_worker.specs.declared.turn.Turn.{Turn}
use Rattle.sk_worker.specs.declared.turn.Turn.TheVariants as turn
use Rattle.sk_worker.specs.declared.turn.WorkFault.{WorkFault}
use Rattle.sk_worker.specs.declared.turn.WorkFault.TheVariants as fault

-- what a worker holds after it worked on this job: the others, and where a fault broke that off, this job too
abbrev pub left : Bytes → List Bytes → Result Turn WorkFault → List Bytes
left c others (Ok t) = others
left c others (Err f) = c ∷ others

-- The events of a turn that began with these payloads in hand, and the payloads that are in hand after it: those that were held and fetched, and not
-- released.
pub data TurnTranscript (w : Settings) (before : List Bytes) : List Event → List Bytes → Result Turn WorkFault → Type 0 where
  -- broken off while it fetched
  unfetched : (events : List Event) (after : List Bytes) (f : WorkFault) →
      FetchTranscript w (fetch_start w before) events after (Err f) → TurnTranscript w before events after (Err f)
  -- it held nothing, and each queue was empty
  empty : (events : List Event) → EmptyForm w before events → TurnTranscript w before events [] (Ok turn.Empty)
  -- it works on the oldest job
  job : (first rest : List Event) (c : Bytes) (others after : List Bytes) (result : Result Turn WorkFault) →
      Walk (FetchStep w) (fetch_start w before) first (fetched (c ∷ others)) → JobTranscript w (holding c) rest result →
      after ≡ left c others result → TurnTranscript w before (first ++ rest) after result

-- A worker that has ended does nothing in its turn.
abbrev pub TurnOf : Bool → Settings → List Bytes → List Event → List Bytes → Result Turn WorkFault → Type 0
TurnOf true w before events after result = (events ≡ []) × (after ≡ before) × (result ≡ Err fault.Ended)
TurnOf false w before events after result = TurnTranscript w before events after result

-- Each of the objects that a turn meets has its part in the events: the link, the jobs, the clock, the dice and the delay rules.
pub record Parts (OfLink : List Call → Type 0) (OfJobs : List Run → Type 0) (OfClock OfDice : List ℕ → Type 0) (OfRules : List Choice → Type 0)
    (events : List Event) : Type 0 where
  pub link : OfLink (calls events)
  pub jobs : OfJobs (runs events)
  pub clock : OfClock (moments events)
  pub dice : OfDice (words events)
  pub rules : OfRules (choices events)

-- Each choice was made with what the rule of its class answers on its count, or the plain rule where no such class is registered.
pub record RulesAnswered {R : Type 0} (Answers : R → ℕ → ℕ → Type 0) (classes : List Bytes) (rules : List R) (plain : R)
    (choices : List Choice) : Type 0 where
  pub each : AllByRecursion (λ choice. MatchOption (place_of classes choice.class) (Answers plain choice.count choice.delay)
      (λ i. IfSome (slice_get rules i) (λ rule. Answers rule choice.count choice.delay))) choices
