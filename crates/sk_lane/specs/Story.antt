-- What a story is: all that happened at one seat.
use Rattle.std.specs.Prelude.{◌≡◌, ◌+◌, ℕ, true, false, List, [], ◌∷◌, ◌++◌, codes, Option}
use Rattle.sk_resp.specs.Spelling.{Bytes}
use Rattle.sk_resp.specs.declared.reply.Reply.{Reply}
use Rattle.sk_link.specs.Asking.{is_okay}
use Rattle.sk_desk.specs.declared.call.Call.{Call}
use Rattle.sk_desk.specs.declared.entry.Ask.{Ask}
use Rattle.sk_worker.specs.Event.{Event, Choice}
use Rattle.sk_worker.specs.Request.{join_words}
use Rattle.sk_worker.specs.Run.{Run}
use Rattle.sk_worker.specs.Stage.{Settings}
use Rattle.sk_lane.specs.Asks.{AddsPast, AreCalls, answered_ask, is_oom}
use Rattle.sk_lane.specs.Drawing.{in_turn}
use Rattle.sk_lane.specs.Turns.{Turns, asks_of, marks_of, moment, runs_of}
use Rattle.sk_lane.specs.declared.crashes.Crashes.{Crashes}
use Rattle.sk_lane.specs.declared.crashes.Drawing.{Drawing}
use Rattle.sk_lane.specs.declared.past_seat.PastSeat.{PastSeat}
use Rattle.sk_lane.specs.declared.seats.Seats as the_seats
use Rattle.sk_lane.specs.declared.story.Story.{Story}

abbrev pub beat_words : Bytes → List Bytes
beat_words ident = codes "SK.BEAT" ∷ ident ∷ []

-- the beat of a worker, answered by this
abbrev pub beat : Settings → Reply → Ask
beat w answer = answered_ask moment (beat_words w.ident) answer

-- the join
abbrev pub join : Settings → Reply → Ask
join w answer = answered_ask moment (join_words w.ident) answer

-- ## One story

-- A story by its asks, its marks and the runs in it: with the crashes and the number of turns to be taken before it, and those left behind it.
-- It begins with a beat, and where that was answered `+OK`, with a join. Where one of them was answered otherwise, it ends there, and is one turn.
-- Else turns follow, and each mark is the number of asks before its turn.
pub data StoryTold (w : Settings) (OfRules : List Choice → Type 0) : Crashes → ℕ → List Ask → List ℕ → List Run → Crashes → ℕ → Type 0 where
  unbeaten : (c : Crashes) (todo left : ℕ) (answer : Reply) →
      todo ≡ left + 1 → is_okay answer ≡ false → is_oom answer ≡ false →
      StoryTold w OfRules c todo (beat w answer ∷ []) [] [] c left
  unjoined : (c : Crashes) (todo left : ℕ) (beaten answer : Reply) →
      todo ≡ left + 1 → is_okay beaten ≡ true → is_okay answer ≡ false → is_oom answer ≡ false →
      StoryTold w OfRules c todo (beat w beaten ∷ join w answer ∷ []) [] [] c left
  turned : (c : Crashes) (todo left : ℕ) (beaten joined : Reply) (turns : List (List Event)) (d : Drawing) →
      is_okay beaten ≡ true → is_okay joined ≡ true → Turns w OfRules (in_turn c) todo [] turns d left →
      StoryTold w OfRules c todo (beat w beaten ∷ join w joined ∷ asks_of turns) (marks_of 2 turns) (runs_of turns) d.crashes left

-- A story that the jobs told their runs of.
pub record StoryRan (w : Settings) (OfRules : List Choice → Type 0) (OfJobs : List Run → Type 0) (c : Crashes) (todo : ℕ)
    (asks : List Ask) (marks : List ℕ) (now : Crashes) (left : ℕ) : Type 0 where
  pub runs : List Run
  pub ran : OfJobs runs
  pub told : StoryTold w OfRules c todo asks marks runs now left

-- ## At a seat

-- what seats tell: the number that was given last, how many are left behind it, and the seats that have ended, where those are told
pub record Sitting : Type 0 where
  pub last : ℕ
  pub left : ℕ
  pub past : Option (List PastSeat)

abbrev pub sitting : {S Desk : Type 0} → the_seats.Ghosts S Desk → S → Sitting
sitting OfSeats seats = record { last = OfSeats.last seats; left = OfSeats.left seats; past = OfSeats.past seats }

-- The seat is the next one, and its desk's calls are these asks, where they are told.
pub record Seated (seats seats_now : Sitting) (seat : ℕ) (asks : List Ask) : Type 0 where
  pub calls : Option (List Call)
  pub next : seat ≡ seats.last + 1
  pub last_is : seats_now.last ≡ seat
  pub left_is : seats_now.left + 1 ≡ seats.left
  pub past_is : AddsPast seats.past (record { seat = seat; calls = calls } ∷ []) seats_now.past
  pub same : AreCalls calls asks

-- ## All of a thread

-- Stories of one seat after another, with the runs in them and the calls of their desks, until no turn is left: with the crashes and the number of
-- turns to be taken before them, and the last seat before them.
pub data Stories (thread : ℕ) (w : Settings) (OfRules : List Choice → Type 0) : Crashes → ℕ → ℕ → List Story → List Run → List PastSeat → Type 0 where
  all_told : (c : Crashes) (last : ℕ) → Stories thread w OfRules c 0 last [] [] []
  one_more : (c now : Crashes) (todo left last : ℕ) (story : Story) (rest : List Story) (runs more : List Run) (calls : Option (List Call)) (seats_ended : List PastSeat) →
      story.thread ≡ thread → story.seat ≡ last + 1 → StoryTold w OfRules c todo story.asks.items story.marks.items runs now left →
      AreCalls calls story.asks.items → Stories thread w OfRules now left story.seat rest more seats_ended →
      Stories thread w OfRules c todo last (story ∷ rest) (runs ++ more) (record { seat = story.seat; calls = calls } ∷ seats_ended)
