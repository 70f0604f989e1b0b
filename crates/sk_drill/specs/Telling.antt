-- What the threads that push and poll tell of a drill.
use Rattle.std.specs.Prelude.{◌≡◌, ◌+◌, ◌-◌, ◌*◌, ◌^◌, ℕ, min, pos, Bool, true, false, List, [], ◌∷◌, ◌++◌, filter, length, map, codes, Some, IfOk, Result, Ok, Err}
use Rattle.std.specs.List.{AllByRecursion, flat_map}
use Rattle.sk_base.specs.declared.clock.StepClock.{StepClock}
use Rattle.sk_compare.specs.Exchange.{Exchange, exchange_of}
use Rattle.sk_desk.specs.declared.entry.Ask.{Ask}
use Rattle.sk_lane.specs.Asks.{is_oom}
use Rattle.sk_lane.specs.declared.seat_link.SeatLink.{SeatLink}
use Rattle.sk_lane.specs.declared.story.Story.{Story}
use Rattle.sk_link.specs.Call.{Call}
use Rattle.sk_link.specs.declared.link.LinkFault.{LinkFault}
use Rattle.sk_poller.specs.Event.{Event, calls, moments}
use Rattle.sk_poller.specs.Stage.{PollTranscript, Watch, resting}
use Rattle.sk_poller.specs.declared.report.PollFault.{PollFault}
use Rattle.sk_poller.specs.declared.report.PollFault.TheVariants as fault
use Rattle.sk_poller.specs.declared.report.PollReport.{PollReport}
use Rattle.sk_resp.specs.Reply.{wire}
use Rattle.sk_resp.specs.declared.reply.Reply.{Reply}
use Rattle.sk_resp.specs.declared.reply.Reply.TheVariants as reply
use Rattle.sk_drill.specs.Requests.{push}

-- ## Calls

-- a request that had this reply
abbrev pub exchange : List (List ℕ) → Reply → Exchange
exchange request answer = record { request = request; reply = Some (wire answer) }

-- what came of a request, before the others: one that was lost is left out
abbrev pub with_answer : List (List ℕ) → Result Reply LinkFault → List Exchange → List Exchange
with_answer request (Ok answer) later = exchange request answer ∷ later
with_answer request (Err f) later = later

-- The reply isn't `-OOM`.
abbrev pub IsServed : Reply → Type 0
IsServed answer = is_oom answer ≡ false

-- The call wasn't answered `-OOM`.
abbrev pub CallServed : Call → Type 0
CallServed call = IfOk call.reply IsServed

-- the requests of these calls that were answered
abbrev pub exchanges : List Call → List Exchange
exchanges [] = []
exchanges (call ∷ calls) = with_answer call.request call.reply (exchanges calls)

-- ## Clocks

-- the moments that a clock is going to give, counted from 0
abbrev pub ticks : StepClock → ℕ → ℕ
ticks clock n = min (clock.now + n * clock.step) (2 ^ 64 - 1)

-- Each was asked at its moment, and the first of them has this number.
abbrev pub AskedAt : (ℕ → ℕ) → ℕ → List Ask → Type 0
AskedAt moment n [] = Unit {0}
AskedAt moment n (ask ∷ asks) = (ask.now ≡ moment n) × AskedAt moment (n + 1) asks

-- So were the asks of a link, whose clock goes on with the moments behind them.
pub record OnTime {D : Type 0} (moment : ℕ → ℕ) (link : SeatLink D StepClock) : Type 0 where
  pub asked : AskedAt moment 0 link.asks.items
  pub next : (n : ℕ) → ticks link.clock n ≡ moment (length link.asks.items + n)

-- it is on time still
abbrev pub StaysOnTime : {D : Type 0} → SeatLink D StepClock → SeatLink D StepClock → Type 0
StaysOnTime link link_now = (moment : ℕ → ℕ) → OnTime moment link → OnTime moment link_now

-- ## The thread that pushes

-- the pushes of the jobs from this number on to the queue `default`, with these replies
abbrev pub pushes_from : ℕ → List Reply → List Exchange
pushes_from k [] = []
pushes_from k (answer ∷ answers) = exchange (push k (codes "default")) answer ∷ pushes_from (k + 1) answers

-- the reply is a number
abbrev pub is_number : Reply → Bool
is_number (reply.Int n) = true
is_number other = false

-- how many of these are
abbrev pub numbers : List Reply → ℕ
numbers answers = length (filter is_number answers)

-- Job k was pushed, and answered, behind these. The reply isn't `-OOM`.
pub record PushesOne (k : ℕ) (asks asks_now : List Exchange) : Type 0 where
  pub answer : Reply
  pub served : IsServed answer
  pub are : asks_now ≡ asks ++ exchange (push k (codes "default")) answer ∷ []

-- So many jobs were pushed, from job 1 on. No reply is `-OOM`.
pub record Pushed (jobs : ℕ) (asks : List Exchange) : Type 0 where
  pub answers : List Reply
  pub count : length answers ≡ jobs
  pub served : AllByRecursion IsServed answers
  pub are : asks ≡ pushes_from 1 answers

-- its clock stands on 14 November 2023
abbrev pub push_moment : ℕ → ℕ
push_moment n = 1700000000000

-- The story of the thread that pushes the jobs, each once and in order. It has no turns.
pub record PushStory (jobs : ℕ) (story : Story) : Type 0 where
  pub thread_is : story.thread ≡ 0
  pub pushed : Pushed jobs (map exchange_of story.asks.items)
  pub asked_at : AskedAt push_moment 0 story.asks.items
  pub unmarked : story.marks.items ≡ []

-- ## The poller's thread

-- the poller: the process `w:0:d`, without periodic jobs
abbrev pub watch : Watch
watch = record { ident = codes "w:0:d"; loops = []; offset = pos 0 }

-- The turn came to its end, or to an error reply.
abbrev pub HasEnded : Result PollReport PollFault → Type 0
HasEnded (Ok report) = Unit {0}
HasEnded (Err (fault.Refused answer)) = Unit {0}
HasEnded (Err (fault.Link f)) = ⊥
HasEnded (Err fault.Memory) = ⊥

-- A turn behind which the poller goes on: to its end, or to an error reply that isn't `-OOM`.
abbrev pub GoesOn : Result PollReport PollFault → Type 0
GoesOn (Ok report) = Unit {0}
GoesOn (Err (fault.Refused answer)) = IsServed answer
GoesOn (Err (fault.Link f)) = ⊥
GoesOn (Err fault.Memory) = ⊥

-- The events are those of such a turn, in which no call was answered `-OOM`.
pub record IsPoll (events : List Event) : Type 0 where
  pub result_is : Result PollReport PollFault
  pub goes_on : GoesOn result_is
  pub served : AllByRecursion CallServed (calls events)
  pub told : PollTranscript watch resting events result_is

-- the requests of a turn that were answered
abbrev pub turn_asks : List Event → List Exchange
turn_asks events = exchanges (calls events)

abbrev pub turns_asks : List (List Event) → List Exchange
turns_asks turns = flat_map turn_asks turns

-- The n-th moment of a clock of the poller's thread, counted from 0: the first one is on 14 November 2023, and each is 1,000 ms behind the one before, as
-- far as a clock goes. The poller has such a clock for its turns, and its link one for the requests.
abbrev pub poll_moment : ℕ → ℕ
poll_moment n = min (1700000000000 + n * 1000) (2 ^ 64 - 1)

-- Each of these turns, the first of which has this number, read the clock once, and these were its moments.
abbrev pub ReadClock : ℕ → List (List Event) → Type 0
ReadClock n [] = Unit {0}
ReadClock n (turn ∷ turns) = (moments turn ≡ poll_moment n ∷ []) × ReadClock (n + 1) turns

-- One turn was taken, behind these. It read the clock once.
pub record PollsOnce (clock clock_now : ℕ → ℕ) (asks asks_now : List Exchange) : Type 0 where
  pub events : List Event
  pub polls : IsPoll events
  pub clock_read : moments events ≡ clock 0 ∷ []
  pub clock_later : (n : ℕ) → clock_now n ≡ clock (n + 1)
  pub are : asks_now ≡ asks ++ turn_asks events

-- One turn was taken over a link, by this clock.
abbrev pub TakesTurn : {D : Type 0} → StepClock → SeatLink D StepClock → StepClock → SeatLink D StepClock → Type 0
TakesTurn clock link clock_now link_now =
    PollsOnce (ticks clock) (ticks clock_now) (map exchange_of link.asks.items) (map exchange_of link_now.asks.items)

-- of each turn the number of asks before it, of which there are so many before the first
abbrev pub turn_marks : ℕ → List (List Event) → List ℕ
turn_marks n [] = []
turn_marks n (turn ∷ turns) = n ∷ turn_marks (n + length (turn_asks turn)) turns

-- The poller took so many turns. Each read the clock once, which goes on by 1,000 ms from turn to turn.
pub record Polled (count : ℕ) (asks : List Exchange) (marks : List ℕ) : Type 0 where
  pub turns : List (List Event)
  pub count_is : length turns ≡ count
  pub polls : AllByRecursion IsPoll turns
  pub clock_read : ReadClock 0 turns
  pub are : asks ≡ turns_asks turns
  pub marked : marks ≡ turn_marks 0 turns

-- The story of the poller's thread.
pub record PollStory (count : ℕ) (story : Story) : Type 0 where
  pub thread_is : story.thread ≡ 1
  pub polled : Polled count (map exchange_of story.asks.items) story.marks.items
  pub asked_at : AskedAt poll_moment 0 story.asks.items
