-- A load: the events of each of its turns. They are settled by the words of a generator, and by what the seats are doing.
use Rattle.std.specs.Prelude.{◌≡◌, ℕ, ◌+◌, ◌^◌, ◌%◌, ◌==◌, nat_lt, min, if◌then◌else◌, List, [], ◌∷◌, ◌++◌, map, Option, Some, None, unwrap_or, codes}
use Rattle.rand_pcg.specs.Lcg.{Lcg}
use Rattle.rand_core.specs.Pcg32Seed.{pcg32_seed}
use Rattle.rand_pcg.specs.Pcg.{pcg32, pcg32_of_seed}
use Rattle.sk_base.specs.declared.limits.TheConstants.{LAST_GENERATION, LONGEST_DELAY}
use Rattle.sk_resp.specs.Spelling.{Bytes}
use Rattle.sk_payload.specs.Failed.{failed}
use Rattle.sk_payload.specs.Head.{head}
use Rattle.sk_payload.specs.declared.head.Head.{Head}
use Rattle.sk_policy.specs.Decision.{decision}
use Rattle.sk_policy.specs.declared.decision.Decision.{Decision}
use Rattle.sk_policy.specs.declared.decision.Decision.TheVariants as fate
use Rattle.sk_seats.specs.declared.phase.Phase.{Phase}
use Rattle.sk_seats.specs.declared.phase.Phase.TheVariants.{Plain, Joined}
use Rattle.sk_seats.specs.declared.work.Stage.{Stage}
use Rattle.sk_seats.specs.declared.work.Stage.TheVariants.{Held, Put, Settled}
use Rattle.sk_seats.specs.declared.work.Work.{Work}
use Rattle.sk_model.specs.Event.{Event, Ask, Cut}
use Rattle.sk_model.specs.Reading.{Words}
use Rattle.sk_model.specs.World.{World, phase_of}
use Rattle.sk_drill.specs.Actors.{actor_of, process_of, queue_of}
use Rattle.sk_drill.specs.Requests.{beat, cron, due, fetch, first_process, join, lead, push, push_batch, push_first, release, rescue, retry, script, second_process}
use Rattle.sk_drill.specs.declared.actor.Actor.{Actor}
use Rattle.sk_drill.specs.declared.actor.Actor.TheVariants.{Client, Poller, Crash, Worker}

-- ## What a load holds

pub record LoadState : Type 0 where
  -- the generator of its words
  pub draws : Lcg
  -- how many jobs it has, and how many of them it pushed so far
  pub jobs : ℕ
  pub pushed : ℕ
  -- in milliseconds since 1970
  pub moment : ℕ
  -- how many commands of the periodic job it sent so far
  pub crons : ℕ

-- its next word, modulo a number
unfoldable pub word : ℕ → LoadState → ℕ
word n s = (pcg32 s.draws).0 % n

-- the generator behind a word
unfoldable pub behind_word : Lcg → Lcg
behind_word g = (pcg32 g).1

-- that word is drawn
abbrev pub drawn : LoadState → LoadState
drawn s = record s { draws = behind_word s.draws }

-- some events, and what the load holds behind them
pub record Part : Type 0 where
  pub events : List Event
  pub rest : LoadState

-- a seat's command, at the load's moment
abbrev pub asks : LoadState → ℕ → Words → Event
asks s seat words = Ask seat s.moment words

-- one command, and nothing is drawn for it
abbrev pub one : LoadState → ℕ → Words → Part
one s seat words = record { events = asks s seat words ∷ []; rest = s }

-- ## Clients

-- the next job goes to this queue
abbrev pub pushing : LoadState → Bytes → Part
pushing s queue = record { events = asks s 0 (push (s.pushed + 1) queue) ∷ []; rest = record s { pushed = s.pushed + 1 } }

-- Where a job is left, it goes to a queue that is drawn.
unfoldable pub push_part : LoadState → Part
push_part s = if nat_lt s.pushed s.jobs then pushing (drawn s) (queue_of (word 8 s)) else record { events = []; rest = s }

-- ## The poller

abbrev pub poll_words : ℕ → ℕ → List Words
poll_words now n =
    beat first_process ∷ beat second_process ∷ due (codes "schedule") ∷ due (codes "retry") ∷ rescue ∷ lead first_process ∷ cron now (8000000 + n) ∷ []

-- the poller's round, with the next job of the periodic job
unfoldable pub poll_part : LoadState → Part
poll_part s = record { events = map (asks s 0) (poll_words s.moment (s.crons + 1)); rest = record s { crons = s.crons + 1 } }

-- ## Crashes

-- A worker's seat that is drawn is cut off.
unfoldable pub crash_part : LoadState → Part
crash_part s = record { events = Cut (1 + word 4 s) ∷ []; rest = drawn s }

-- ## Workers

-- what is sent of a failed job, by the decision
abbrev pub put_away : Bytes → Bytes → Decision → Words
put_away text next fate.Discard = script (codes "SK.DROP") text
put_away text next fate.Bury = script (codes "SK.BURY") next
put_away text next (fate.Retry score) = retry score next

-- the job's text after a failure at this moment
abbrev pub failed_text : Bytes → ℕ → Bytes
failed_text text now = unwrap_or (failed text now (codes "Failure") (codes "asked to fail")) []

-- by Sidekiq's own delay
abbrev pub fate_of : Head → ℕ → ℕ → Decision
fate_of h now jitter = decision h now jitter (min (h.gen_ ^ 4 + 15) LONGEST_DELAY)

-- A text that has no head, or that can't fail once more, is buried as it is.
abbrev pub after_failure_of : Option Head → Bytes → ℕ → ℕ → Words
after_failure_of None text now jitter = script (codes "SK.BURY") text
after_failure_of (Some h) text now jitter =
    if nat_lt h.gen_ LAST_GENERATION then put_away text (failed_text text now) (fate_of h now jitter) else script (codes "SK.BURY") text

unfoldable pub after_failure : Bytes → ℕ → ℕ → Words
after_failure text now jitter = after_failure_of (head text) text now jitter

-- It fails, and then comes what becomes of it, with a jitter that is drawn.
unfoldable pub fail_part : LoadState → ℕ → Bytes → Part
fail_part s seat text = record { events = asks s seat (script (codes "SK.FAIL") text) ∷ asks s seat (after_failure text s.moment (word 10 s)) ∷ []; rest = drawn s }

-- It is given back where the word is 0, fails where it is 1, and else returns.
abbrev pub held_by_word : ℕ → LoadState → ℕ → Bytes → Part
held_by_word n s seat text =
    if n == 0 then one s seat (script (codes "SK.BACK") text) else (if n == 1 then fail_part s seat text else one s seat (script (codes "SK.OK") text))

unfoldable pub held_part : LoadState → ℕ → Bytes → Part
held_part s seat text = held_by_word (word 8 s) (drawn s) seat text

abbrev pub stage_part : LoadState → ℕ → Bytes → Stage → Part
stage_part s seat text Held = held_part s seat text
stage_part s seat text Put = one s seat (release (process_of seat) text)
stage_part s seat text (Settled end) = one s seat (release (process_of seat) text)

-- From a queue that is drawn a seat without a job fetches one.
unfoldable pub fetch_part : LoadState → ℕ → Part
fetch_part s seat = one (drawn s) seat (fetch (process_of seat) (queue_of (word 8 s)))

abbrev pub works_part : LoadState → ℕ → List Work → Part
works_part s seat [] = fetch_part s seat
works_part s seat (work ∷ works) = stage_part s seat work.payload work.stage

-- a worker's next step, by what its seat is doing
abbrev pub work_part : LoadState → ℕ → Phase → Part
work_part s seat Plain = one s seat (join (process_of seat))
work_part s seat (Joined ident works) = works_part s seat works

-- ## Turns

abbrev pub part_of : Actor → LoadState → World → Part
part_of Client s w = push_part s
part_of Poller s w = poll_part s
part_of Crash s w = crash_part s
part_of (Worker seat) s w = work_part s seat (phase_of w seat)

-- time goes on by a word of less than 200 milliseconds
abbrev pub later : LoadState → LoadState
later s = record (drawn s) { moment = s.moment + word 200 s }

-- A turn: time goes on, and an actor that is drawn does its part.
unfoldable pub turn_part : LoadState → World → Part
turn_part s w = part_of (actor_of (word 8 (later s))) (drawn (later s)) w

-- ## The beginning

-- two batches, one in the other, with the next two jobs, where so many are left
abbrev pub batch_words : ℕ → List Words
batch_words k = push_batch (codes "p") [] 9000001 (k + 1) ∷ push_batch (codes "c") (codes "p") 9000002 (k + 2) ∷ []

abbrev pub batches_part : LoadState → Part
batches_part s = if nat_lt (s.pushed + 1) s.jobs then record { events = map (asks s 0) (batch_words s.pushed); rest = record s { pushed = s.pushed + 2 } }
    else record { events = []; rest = s }

-- the first jobs, a thousand at most
abbrev pub with_first : LoadState → LoadState
with_first s = record s { pushed = min s.jobs 1000 }

abbrev pub opening_words : LoadState → List Words
opening_words s = beat first_process ∷ beat second_process ∷ lead first_process ∷ push_first (min s.jobs 1000) ∷ []

-- Both processes beat, one leads, and the first jobs are pushed in one command.
unfoldable pub opening_part : LoadState → Part
opening_part s = record { events = map (asks s 0) (opening_words s) ++ (batches_part (with_first s)).events; rest = (batches_part (with_first s)).rest }

-- ## From the first word on

-- A load of so many jobs, made from a number. It begins on 14 November 2023.
unfoldable pub first_load : ℕ → ℕ → LoadState
first_load seed jobs = record { draws = pcg32_of_seed (pcg32_seed 16 seed); jobs = jobs; pushed = 0; moment = 1700000000000; crons = 0 }

-- The events are those of the part, and so is what the load holds behind them.
pub record Gives (part : Part) (events : List Event) (rest : LoadState) : Type 0 where
  pub events_are : events ≡ part.events
  pub rest_is : rest ≡ part.rest
