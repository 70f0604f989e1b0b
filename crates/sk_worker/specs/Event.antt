-- What happens in a turn of a worker, event by event.
use Rattle.std.specs.Prelude.{ℕ, List, [], ◌∷◌, ◌++◌}
use Rattle.sk_resp.specs.Spelling.{Bytes}
use Rattle.sk_link.specs.Call.{Call}
use Rattle.sk_worker.specs.Run.{Run}

-- what a failed job's fate was decided with: its class and generation, the moment, a random word, and what the class's delay rule answered
pub record Choice : Type 0 where
  pub class : Bytes
  pub count : ℕ
  pub moment : ℕ
  pub word : ℕ
  pub delay : ℕ

pub data Event : Type 0 where
  -- the words that the dice gave for an order of the queues
  ordered : List ℕ → Event
  asked : Call → Event
  ran : Run → Event
  chose : Choice → Event

abbrev pub calls : List Event → List Call
calls [] = []
calls (ordered words ∷ events) = calls events
calls (asked call ∷ events) = call ∷ calls events
calls (ran run ∷ events) = calls events
calls (chose choice ∷ events) = calls events

abbrev pub runs : List Event → List Run
runs [] = []
runs (ordered words ∷ events) = runs events
runs (asked call ∷ events) = runs events
runs (ran run ∷ events) = run ∷ runs events
runs (chose choice ∷ events) = runs events

abbrev pub choices : List Event → List Choice
choices [] = []
choices (ordered words ∷ events) = choices events
choices (asked call ∷ events) = choices events
choices (ran run ∷ events) = choices events
choices (chose choice ∷ events) = choice ∷ choices events

-- the moments that the clock gave
abbrev pub moments : List Event → List ℕ
moments [] = []
moments (ordered words ∷ events) = moments events
moments (asked call ∷ events) = moments events
moments (ran run ∷ events) = moments events
moments (chose choice ∷ events) = choice.moment ∷ moments events

-- the words that the dice gave
abbrev pub words : List Event → List ℕ
words [] = []
words (ordered drawn ∷ events) = drawn ++ words events
words (asked call ∷ events) = words events
words (ran run ∷ events) = words events
words (chose choice ∷ events) = choice.word ∷ words events
