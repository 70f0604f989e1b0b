-- The turns that a worker takes at one seat.
use Rattle.std.specs.Prelude.{◌≡◌, ◌+◌, ℕ, true, false, List, [], ◌∷◌, ◌++◌, length, codes, Result, Ok, Err}
use Rattle.std.specs.Fmt.{decimal}
use Rattle.std.specs.List.{AllByRecursion}
use Rattle.sk_resp.specs.Spelling.{Bytes}
use Rattle.sk_policy.specs.Order.{strict_order}
use Rattle.sk_worker.specs.Event.{Event, Choice, calls, runs, choices, moments}
use Rattle.sk_worker.specs.Run.{Run}
use Rattle.sk_worker.specs.Stage.{Settings}
use Rattle.sk_worker.specs.Turn.{TurnTranscript}
use Rattle.sk_worker.specs.declared.turn.Turn.{Turn}
use Rattle.sk_worker.specs.declared.turn.WorkFault.{WorkFault}
use Rattle.sk_worker.specs.declared.turn.WorkFault.TheVariants as fault
use Rattle.sk_desk.specs.declared.entry.Ask.{Ask}
use Rattle.sk_lane.specs.Asks.{asks_at}
use Rattle.sk_lane.specs.Drawing.{Draws, is_off}
use Rattle.sk_lane.specs.declared.crashes.Drawing.{Drawing}

-- ## A worker

-- The moment at which a lane's clocks stand, in milliseconds since 1970: 14 November 2023.
abbrev pub moment : ℕ
moment = 1700000000000

-- the process of worker 1 is `w:1:d`
abbrev pub ident_of : ℕ → Bytes
ident_of number = codes "w:" ++ decimal number ++ codes ":d"

-- A lane's worker: it asks the queue `default` alone, and holds one job at most.
abbrev pub lane_settings : ℕ → List Bytes → Settings
lane_settings number classes = record { ident = ident_of number; order = strict_order (codes "default" ∷ []); prefetch = 1; classes = classes }

-- ## One turn

-- The events are those of a worker's turn, at the one moment of its clock, and its delay rules answered its choices.
pub record TurnTaken (w : Settings) (OfRules : List Choice → Type 0) (before : List Bytes) (events : List Event) (after : List Bytes)
    (result : Result Turn WorkFault) : Type 0 where
  pub told : TurnTranscript w before events after result
  pub rules : OfRules (choices events)
  pub moments_are : AllByRecursion (λ now. now ≡ moment) (moments events)

-- How a story's last turn may end: at a crash of its link, at an error reply, or where its job can't fail once more.
abbrev pub EndsStory : WorkFault → Drawing → Type 0
EndsStory (fault.Link f) d = (d.crashed ≡ true) × (d.starved ≡ false)
EndsStory (fault.Refused answer) d = is_off d ≡ false
EndsStory fault.GenLimit d = is_off d ≡ false
EndsStory fault.Ended d = ⊥
EndsStory fault.Memory d = ⊥

-- ## Turns

-- The turns, each by its events: with the draws and the jobs in hand before them, and how many turns are to be taken; and with the draws behind them,
-- and how many turns are left then. A turn that doesn't end well is the last.
pub data Turns (w : Settings) (OfRules : List Choice → Type 0) : Drawing → ℕ → List Bytes → List (List Event) → Drawing → ℕ → Type 0 where
  all_taken : (a : Drawing) (held : List Bytes) → Turns w OfRules a 0 held [] a 0
  whole : (a mid b : Drawing) (todo next left : ℕ) (held after : List Bytes) (events : List Event) (rest : List (List Event)) (t : Turn) →
      todo ≡ next + 1 → TurnTaken w OfRules held events after (Ok t) → Draws a (calls events) mid → Turns w OfRules mid next after rest b left →
      Turns w OfRules a todo held (events ∷ rest) b left
  broken : (a b : Drawing) (todo left : ℕ) (held after : List Bytes) (events : List Event) (f : WorkFault) →
      todo ≡ left + 1 → TurnTaken w OfRules held events after (Err f) → Draws a (calls events) b → EndsStory f b →
      Turns w OfRules a todo held (events ∷ []) b left

-- the asks of these turns
abbrev pub asks_of : List (List Event) → List Ask
asks_of [] = []
asks_of (turn ∷ turns) = asks_at moment (calls turn) ++ asks_of turns

-- the runs in them
abbrev pub runs_of : List (List Event) → List Run
runs_of [] = []
runs_of (turn ∷ turns) = runs turn ++ runs_of turns

-- For each turn the number of asks before it, which is this for the first one.
abbrev pub marks_of : ℕ → List (List Event) → List ℕ
marks_of before [] = []
marks_of before (turn ∷ turns) = before ∷ marks_of (before + length (asks_at moment (calls turn))) turns
