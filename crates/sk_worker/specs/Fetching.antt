-- How a worker fetches, up to as many jobs as it may hold: the stages, what is asked in each, and where each event leads.
use Rattle.std.specs.Prelude.{◌≡◌, ◌⊎◌, ℕ, true, List, [], ◌∷◌, ◌++◌, length, nat_le, if◌then◌else◌, Result, Ok, Err, map, slice_index_or}
use Rattle.sk_resp.specs.Spelling.{Bytes}
use Rattle.sk_resp.specs.declared.reply.Reply.{Reply}
use Rattle.sk_resp.specs.declared.reply.Reply.TheVariants as reply
use Rattle.sk_link.specs.Asking.{answers}
use Rattle.sk_link.specs.declared.asking.Answer.{Answer}
use Rattle.sk_link.specs.declared.asking.Answer.TheVariants as answer
use Rattle.sk_link.specs.Call.{answered}
use Rattle.sk_policy.specs.Order.{draws, queues_in}
use Rattle.sk_worker.specs.Request.{fetch_words}
use Rattle.sk_worker.specs.Event.{Event, ordered, asked}
use Rattle.sk_worker.specs.Stage.{Settings}
use Rattle.sk_link.specs.Walk.{Walk}
use Rattle.sk_worker.specs.Broken.{Broken}
use Rattle.sk_worker.specs.declared.turn.WorkFault.{WorkFault}
use Rattle.sk_worker.specs.declared.turn.WorkFault.TheVariants as fault

pub data FetchStage : Type 0 where
  -- it holds these payloads, the oldest first, and an order is to be drawn
  begins : List Bytes → FetchStage
  -- this queue is asked until it answers null, and then these
  asking : Bytes → List Bytes → List Bytes → FetchStage
  -- nothing more is fetched
  fetched : List Bytes → FetchStage

abbrev pub next_queue : List Bytes → List Bytes → FetchStage
next_queue [] payloads = fetched payloads
next_queue (queue ∷ queues) payloads = asking queue queues payloads

-- FetchStage ends as soon as so many payloads are held.
abbrev pub if_room : ℕ → List Bytes → FetchStage → FetchStage
if_room prefetch payloads next = if nat_le prefetch (length payloads) then fetched payloads else next

-- A payload is the newest. Null: the queue is empty.
abbrev pub after_reply : ℕ → Bytes → List Bytes → List Bytes → Reply → FetchStage
after_reply prefetch queue queues payloads (reply.Bulk c) = if_room prefetch (payloads ++ c ∷ []) (asking queue queues (payloads ++ c ∷ []))
after_reply prefetch queue queues payloads r = next_queue queues payloads

-- ## The table: stage, request, kind of answer, next stage

pub data FetchLine (w : Settings) : FetchStage → List Bytes → Answer → (Reply → FetchStage) → Type 0 where
  fetch : (queue : Bytes) (queues payloads : List Bytes) →
      FetchLine w (asking queue queues payloads) (fetch_words w.ident queue) answer.Popped (after_reply w.prefetch queue queues payloads)

-- Each event leads from a stage to the next: the order of a turn that drew these words, or a request by its line.
pub data FetchStep (w : Settings) : FetchStage → Event → FetchStage → Type 0 where
  orders : (words : List ℕ) (payloads : List Bytes) → length words ≡ draws w.order →
      FetchStep w (begins payloads) (ordered words) (next_queue (queues_in w.order words) payloads)
  fetches : (from : FetchStage) (request : List Bytes) (wanted : Answer) (next : Reply → FetchStage) (r : Reply) →
      FetchLine w from request wanted next → answers wanted r ≡ true →
      FetchStep w from (asked (answered request r)) (next r)

-- where a turn begins that holds these payloads
abbrev pub fetch_start : Settings → List Bytes → FetchStage
fetch_start w payloads = if_room w.prefetch payloads (begins payloads)

-- the payloads that were held before or fetched, the oldest first
abbrev pub in_hand : FetchStage → List Bytes
in_hand (begins payloads) = payloads
in_hand (asking queue queues payloads) = payloads
in_hand (fetched payloads) = payloads

-- After a fault these are held of the payloads in hand: all of them, but without the newest where there may have been no memory to hold it.
abbrev pub Holds : WorkFault → List Bytes → List Bytes → Type 0
Holds fault.Memory payloads held = (held ≡ payloads) ⊎ ((newest : Bytes) × (payloads ≡ held ++ newest ∷ []))
Holds f payloads held = held ≡ payloads

-- The events are those of the fetching, from this stage on, with these payloads held then: to its end, or as far as they came.
abbrev pub FetchTranscript : Settings → FetchStage → List Event → List Bytes → Result (Unit {0}) WorkFault → Type 0
FetchTranscript w from events held (Ok done) = Walk (FetchStep w) from events (fetched held)
FetchTranscript w from events held (Err f) =
    (stage : FetchStage) × Broken (FetchLine w) (FetchStep w) (λ _. ⊥) from events stage f × Holds f (in_hand stage) held

-- the stage of a worker that holds these payloads, where the queues at these places are to be asked
abbrev pub asking_at : ℕ → List Bytes → List ℕ → List Bytes → FetchStage
asking_at prefetch names places held = if_room prefetch held (next_queue (map (λ place. slice_index_or names place []) places) held)
