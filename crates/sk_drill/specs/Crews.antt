-- The workers of a drill, and the stories of all its threads.
use denote.Param.Members.{Mut}
use Rattle.std.specs.Prelude.{◌≡◌, ◌≢◌, ◌<◌, ◌≤◌, ◌+◌, ◌*◌, ◌++◌, ℕ, Bool, true, List, [], ◌∷◌, length, map, Option, Some, IfSome}
use Rattle.std.specs.List.{AllByRecursion, AllZip, flat_map, zip}
use Rattle.std.specs.Global.{Vec}
use Rattle.sk_policy.specs.declared.delay.DelayRule.{DelayRule}
use Rattle.sk_resp.specs.Spelling.{Bytes}
use Rattle.sk_worker.specs.Run.{Run}
use Rattle.sk_worker.specs.declared.registry.Registry.{Registry}
use Rattle.sk_lane.specs.Lane.{IsLane, Task, WorksAt, task}
use Rattle.sk_lane.specs.Story.{Sitting}
use Rattle.sk_lane.specs.declared.seats.Seats as the_seats
use Rattle.sk_lane.specs.declared.story.Story.{Story}
use Rattle.sk_drill.specs.Telling.{PollStory, PushStory}
use Rattle.sk_drill.specs.declared.plan.Plan.{Plan}
use Rattle.sk_drill.specs.declared.poll_duty.PollDuty.{PollDuty}
use Rattle.sk_drill.specs.declared.push_duty.PushDuty.{PushDuty}
use Rattle.sk_drill.specs.declared.work_duty.WorkDuty.{WorkDuty}

-- Each of these belongs to the next number, the next team and the next rule. Teams and rules may be left.
abbrev pub Assigned : {T P X : Type 0} → (ℕ → T → P → X → Type 0) → ℕ → List T → List P → List X → Type 0
Assigned Is n teams rules [] = Unit {0}
Assigned Is n (team ∷ teams) (rule ∷ rules) (x ∷ xs) = Is n team rule x × Assigned Is (n + 1) teams rules xs
Assigned Is n [] rules (x ∷ xs) = ⊥
Assigned Is n (team ∷ teams) [] (x ∷ xs) = ⊥

-- A worker can begin: there are seats enough for its turns.
pub record CanWork (free : Bool) (left jobs number : ℕ) : Type 0 where
  pub free_is : free ≡ true
  pub seats : 2 * jobs ≤ left
  pub jobs_some : 1 ≤ jobs
  pub jobs_few : jobs ≤ 20000
  pub number_least : 1 ≤ number
  pub number_most : number ≤ 16

-- The seats are free, and there are enough for the turns of a worker.
pub record Room (free : Bool) (left jobs : ℕ) : Type 0 where
  pub free_is : free ≡ true
  pub seats : 2 * jobs ≤ left

-- what the worker of this number is to do
abbrev pub task_of : Plan → ℕ → Task
task_of plan number = task plan.seed plan.jobs number plan.crashes

-- No two of these stories are of one seat.
abbrev pub HaveOwnSeats : List Story → Type 0
HaveOwnSeats [] = Unit {0}
HaveOwnSeats (story ∷ stories) = AllByRecursion (λ other. other.seat ≢ story.seat) stories × HaveOwnSeats stories

-- The seat is one of so many behind the last one.
pub record IsOneOf (last left seat : ℕ) : Type 0 where
  pub above : last < seat
  pub most : seat ≤ last + left

-- The numbers that these seats may give are above this one, and each one's above those of the one before.
abbrev pub StandApart : {S : Type 0} → (S → ℕ) → (S → ℕ) → ℕ → List S → Type 0
StandApart last left top [] = Unit {0}
StandApart last left top (s ∷ rest) = (top ≤ last s) × StandApart last left (last s + left s) rest

-- The same so far: whatever seats stand above this number stand above these.
pub record ApartSoFar {S : Type 0} (last left : S → ℕ) (top : ℕ) (xs : List S) (top_now : ℕ) : Type 0 where
  pub on : (rest : List S) → StandApart last left top_now rest → StandApart last left top (xs ++ rest)

-- Jobs and delay rules are boxed: what they are made of is as it may be.
module _ {Job Rule : Type 0} {OfJob : Job → Type 0} {OfRule : Rule → Type 0} {Delays : Mut ((rule : Rule) × OfRule rule) (ℕ × Unit {0}) ℕ} where
  -- The stories are those of a worker with this task, at some seats, with its team before and behind them.
  abbrev pub HasWorked : ((job : Job) × OfJob job → Option (List Run)) → Task → DelayRule Rule OfRule Delays → Registry Job Rule OfJob OfRule Delays →
      Registry Job Rule OfJob OfRule Delays → List Story → Type 0
  HasWorked runs t rule team team_now stories = (seats : Sitting) × (seats_now : Sitting) × IsLane runs t rule team seats team_now seats_now stories

  -- Each lane is that of the worker of its place, whose number counts from 1.
  abbrev pub Lanes : ((job : Job) × OfJob job → Option (List Run)) → Plan → List (DelayRule Rule OfRule Delays) → List (Registry Job Rule OfJob OfRule Delays) →
      List (Registry Job Rule OfJob OfRule Delays) → List (List Story) → Type 0
  Lanes runs plan rules teams teams_now lanes =
      Assigned (λ n team rule lane. HasWorked runs (task_of plan n) rule team lane.0 lane.1) 1 teams rules (zip teams_now lanes)

  -- All stories of a drill with so many workers: that of the thread that pushes, that of the poller's, and those of each worker's, which is of the team and
  -- the rule of its place, and whose jobs told the team's runs.
  pub record AreStories (runs : (job : Job) × OfJob job → Option (List Run)) (plan : Plan) (workers : ℕ) (rules : List (DelayRule Rule OfRule Delays))
      (teams teams_now : List (Registry Job Rule OfJob OfRule Delays)) (stories : List Story) : Type 0 where
    pub pushing : Story
    pub polling : Story
    pub lanes : List (List Story)
    pub are : stories ≡ pushing ∷ polling ∷ flat_map (λ lane. lane) lanes
    pub apart : HaveOwnSeats stories
    pub pushed : PushStory plan.jobs pushing
    pub polled : PollStory plan.jobs polling
    pub count : length lanes ≡ workers
    pub worked : Lanes runs plan rules teams teams_now lanes

  -- the classes of each team
  abbrev pub classes_of : List (Registry Job Rule OfJob OfRule Delays) → List (List Bytes)
  classes_of teams = map (λ team. team.classes) teams

  -- ## A worker in its thread

  -- It has this number, team and rule.
  pub record IsHired {S : Type 0} (plan : Plan) (n : ℕ) (team : Registry Job Rule OfJob OfRule Delays) (rule : DelayRule Rule OfRule Delays)
      (w : WorkDuty S Job Rule OfJob OfRule Delays) : Type 0 where
    pub plan_is : w.plan ≡ plan
    pub number_is : w.number ≡ n
    pub team_is : w.registry ≡ team
    pub rule_is : w.rule ≡ Some rule

  -- The first of these teams and rules went to a worker of this number.
  pub record HiresOne {S : Type 0} (plan : Plan) (n : ℕ) (teams : List (Registry Job Rule OfJob OfRule Delays)) (rules : List (DelayRule Rule OfRule Delays))
      (w : WorkDuty S Job Rule OfJob OfRule Delays) (teams_now : List (Registry Job Rule OfJob OfRule Delays)) (rules_now : List (DelayRule Rule OfRule Delays)) : Type 0 where
    pub team : Registry Job Rule OfJob OfRule Delays
    pub rule : DelayRule Rule OfRule Delays
    pub teams_are : teams ≡ team ∷ teams_now
    pub rules_are : rules ≡ rule ∷ rules_now
    pub hired : IsHired plan n team rule w

  -- It can begin at its seats.
  abbrev pub IsReady : {S Desk : Type 0} → the_seats.Ghosts S Desk → WorkDuty S Job Rule OfJob OfRule Delays → Type 0
  IsReady OfSeats w = CanWork (OfSeats.free w.seats) (OfSeats.left w.seats) w.plan.jobs w.number

  -- It worked at its seats, and keeps its stories where there was memory. Its team has its classes still.
  pub record Worked {S Desk : Type 0} (OfSeats : the_seats.Ghosts S Desk) (runs : (job : Job) × OfJob job → Option (List Run))
      (a b : WorkDuty S Job Rule OfJob OfRule Delays) : Type 0 where
    pub classes : b.registry.classes ≡ a.registry.classes
    pub told : IfSome b.stories (λ stories. (rule : DelayRule Rule OfRule Delays) × (a.rule ≡ Some rule)
        × WorksAt OfSeats runs (task_of a.plan a.number) rule a.registry a.seats b.registry b.seats stories.items)

-- The same so far: whatever is assigned behind these comes behind them.
pub record AssignedSoFar {T P X : Type 0} (Is : ℕ → T → P → X → Type 0) (teams : List T) (rules : List P) (xs : List X) (n : ℕ)
    (teams_left : List T) (rules_left : List P) : Type 0 where
  pub on : (rest : List X) → Assigned Is n teams_left rules_left rest → Assigned Is 1 teams rules (xs ++ rest)

-- All stories, in their order, where each thread has its own.
pub record IsJoined (pushed polled : Option Story) (lanes : List (List Story)) (stories : List Story) : Type 0 where
  pub pushing : Story
  pub polling : Story
  pub pushing_is : pushed ≡ Some pushing
  pub polling_is : polled ≡ Some polling
  pub are : stories ≡ pushing ∷ polling ∷ flat_map (λ lane. lane) lanes

-- the seats of a whole crew
abbrev pub seats_of : {S Job Rule : Type 0} → {OfJob : Job → Type 0} → {OfRule : Rule → Type 0} → {Delays : Mut ((rule : Rule) × OfRule rule) (ℕ × Unit {0}) ℕ} →
    PushDuty S → PollDuty S → List (WorkDuty S Job Rule OfJob OfRule Delays) → List S
seats_of pushing polling staff = pushing.seats ∷ polling.seats ∷ map (λ w. w.seats) staff

-- It pushes so many jobs from one of its seats.
pub record PushedAt (last left jobs : ℕ) (story : Story) : Type 0 where
  pub told : PushStory jobs story
  pub seat : IsOneOf last left story.seat

-- It takes so many turns of the poller at one of its seats.
pub record PolledAt (last left turns : ℕ) (story : Story) : Type 0 where
  pub told : PollStory turns story
  pub seat : IsOneOf last left story.seat

module _ {Job Rule : Type 0} {OfJob : Job → Type 0} {OfRule : Rule → Type 0} {Delays : Mut ((rule : Rule) × OfRule rule) (ℕ × Unit {0}) ℕ} where
  -- The stories are those of the thread that pushed, of the poller's, and of these workers, whose teams came back.
  pub record TellAll {S Desk : Type 0} (OfSeats : the_seats.Ghosts S Desk) (runs : (job : Job) × OfJob job → Option (List Run)) (pushes : PushDuty S)
      (polls : PollDuty S) (staff : List (WorkDuty S Job Rule OfJob OfRule Delays)) (back : List (Registry Job Rule OfJob OfRule Delays))
      (stories : List Story) : Type 0 where
    pub pushing : Story
    pub polling : Story
    pub lanes : List (Vec Story)
    pub are : stories ≡ pushing ∷ polling ∷ flat_map (λ lane. lane) (map (λ lane. lane.items) lanes)
    pub pushed : PushedAt (OfSeats.last pushes.seats) (OfSeats.left pushes.seats) pushes.jobs pushing
    pub polled : PolledAt (OfSeats.last polls.seats) (OfSeats.left polls.seats) polls.turns polling
    pub staff_now : List (WorkDuty S Job Rule OfJob OfRule Delays)
    pub worked : AllZip (Worked OfSeats runs) staff staff_now
    pub told : map (λ w. w.stories) staff_now ≡ map Some lanes
    pub back_is : back ≡ map (λ w. w.registry) staff_now
