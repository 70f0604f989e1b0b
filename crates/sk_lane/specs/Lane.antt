-- What a lane is: all that one worker's thread does.
use denote.Param.Members.{Mut}
use Rattle.std.specs.Prelude.{◌≡◌, ◌+◌, ◌*◌, ℕ, List, ◌++◌, [], ◌∷◌, Option, filter, length, map, unwrap_or, option_map, ◌==◌, false}
use Rattle.sk_resp.specs.Spelling.{Bytes}
use Rattle.sk_payload.specs.declared.head.Head.{Head}
use Rattle.sk_policy.specs.declared.delay.DelayRule.{DelayRule}
use Rattle.sk_worker.specs.Event.{Choice}
use Rattle.sk_worker.specs.Promises.{Answers, told as told_of}
use Rattle.sk_worker.specs.Run.{Run, RunsTold, place_of, runs_at}
use Rattle.sk_worker.specs.Turn.{RulesAnswered}
use Rattle.sk_worker.specs.declared.registry.Registry.{Registry}
use Rattle.sk_desk.specs.declared.entry.Ask.{Ask}
use Rattle.sk_lane.specs.Asks.{AddsPast, starts}
use Rattle.sk_lane.specs.Drawing.{first_crashes}
use Rattle.sk_lane.specs.Story.{Sitting, Stories, sitting}
use Rattle.sk_lane.specs.Turns.{lane_settings}
use Rattle.sk_lane.specs.declared.past_seat.PastSeat.{PastSeat}
use Rattle.sk_lane.specs.declared.seats.Seats as the_seats
use Rattle.sk_lane.specs.declared.story.Story.{Story}

-- what a lane is to do: the number that its words are made from, how many jobs the drill has, the number of its worker, and its share of the crashes
pub record Task : Type 0 where
  pub seed : ℕ
  pub jobs : ℕ
  pub number : ℕ
  pub crashes : ℕ

abbrev pub task : ℕ → ℕ → ℕ → ℕ → Task
task seed jobs number crashes = record { seed = seed; jobs = jobs; number = number; crashes = crashes }

-- all asks of these stories
abbrev pub asks_in : List Story → List Ask
asks_in [] = []
asks_in (story ∷ stories) = story.asks.items ++ asks_in stories

-- the heads of the class at this place
abbrev pub heads_at : List Bytes → ℕ → List Head → List Head
heads_at classes i heads = filter (λ h. unwrap_or (option_map (λ k. k == i) (place_of classes h.class)) false) heads

-- The stories are those of this worker, whose turns are twice its jobs, each of a seat of its own, and of each class those jobs ran, in order, of which
-- SK.START was answered `+OK`. So its job told, where it tells its runs.
pub record LaneTold (t : Task) (classes : List Bytes) (OfRules : List Choice → Type 0) (OfJobs : List Run → Type 0) (seats seats_now : Sitting)
    (stories : List Story) : Type 0 where
  pub runs : List Run
  pub seats_ended : List PastSeat
  pub told : Stories (t.number + 1) (lane_settings t.number classes) OfRules (first_crashes t.seed t.number t.crashes) (2 * t.jobs) seats.last stories runs seats_ended
  pub past_is : AddsPast seats.past seats_ended seats_now.past
  pub left_is : seats_now.left + length stories ≡ seats.left
  pub ran : OfJobs runs
  pub started : (i : ℕ) → map (λ run. run.head) (runs_at classes i runs) ≡ heads_at classes i (starts (asks_in stories))

-- Jobs and delay rules are boxed: what they are made of is as it may be.
module _ {Rule Job : Type 0} {OfRule : Rule → Type 0} {OfJob : Job → Type 0} {Delays : Mut ((rule : Rule) × OfRule rule) (ℕ × Unit {0}) ℕ} where
  -- Each choice was made with what the rule of its class answered, or the plain one where the class has no job.
  abbrev pub RulesOf : Registry Job Rule OfJob OfRule Delays → DelayRule Rule OfRule Delays → List Choice → Type 0
  RulesOf registry plain choices = RulesAnswered Answers registry.classes registry.rules.items plain choices

  -- The jobs told these runs, those of each class its own, from the one state of their registry to the other.
  abbrev pub RunsOf : ((job : Job) × OfJob job → Option (List Run)) → Registry Job Rule OfJob OfRule Delays → Registry Job Rule OfJob OfRule Delays → List Run → Type 0
  RunsOf runs before after rs = RunsTold before.classes rs (told_of (λ job. runs (job.vtable, job.value)) before) (told_of (λ job. runs (job.vtable, job.value)) after)

  -- The stories are those of a worker with this task, whose choices the rules of its registry and this plain one answered, and whose runs its jobs told.
  abbrev pub IsLane : ((job : Job) × OfJob job → Option (List Run)) → Task → DelayRule Rule OfRule Delays → Registry Job Rule OfJob OfRule Delays → Sitting →
      Registry Job Rule OfJob OfRule Delays → Sitting → List Story → Type 0
  IsLane runs t plain registry seats registry_now seats_now stories =
      LaneTold t registry.classes (RulesOf registry plain) (RunsOf runs registry registry_now) seats seats_now stories

  -- The same, by what the seats tell.
  abbrev pub WorksAt : {S Desk : Type 0} → the_seats.Ghosts S Desk → ((job : Job) × OfJob job → Option (List Run)) → Task → DelayRule Rule OfRule Delays →
      Registry Job Rule OfJob OfRule Delays → S → Registry Job Rule OfJob OfRule Delays → S → List Story → Type 0
  WorksAt OfSeats runs t plain registry seats registry_now seats_now stories =
      IsLane runs t plain registry (sitting OfSeats seats) registry_now (sitting OfSeats seats_now) stories
