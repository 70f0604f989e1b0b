-- How an event stands in the file.
use Rattle.std.specs.Prelude.{◌≡◌, ◌<◌, ◌^◌, ℕ, List, [], ◌∷◌, ◌++◌, Bool, true, false, codes}
use Rattle.std.specs.Fmt.{decimal}
use Rattle.sk_resp.specs.Spelling.{Bytes}
use Rattle.sk_resp.specs.Request.{Command as Words, IsCommand, array}
use Rattle.sk_log.specs.File.{Body}
use Rattle.sk_model.specs.Event.{Event, Ask, Cut}

-- a word of a pipe's own, and its number
abbrev pub numbered : Bytes → ℕ → Bytes
numbered word n = array (word ∷ decimal n ∷ [])

-- what a pipe reads as the event: who sends, and when, and the command; or who is cut off
abbrev pub body_of : Event → Body
body_of (Ask seat now words) = numbered (codes "SK.AS") seat ++ (numbered (codes "SK.NOW") now ++ array words)
body_of (Cut seat) = numbered (codes "SK.CUT") seat

abbrev pub event_of : Bool → ℕ → ℕ → Words → Event
event_of true seat now words = Cut seat
event_of false seat now words = Ask seat now words

-- the commands that it is to a pipe
abbrev pub commands_of : Event → List Words
commands_of (Ask seat now words) = (codes "SK.AS" ∷ decimal seat ∷ []) ∷ (codes "SK.NOW" ∷ decimal now ∷ []) ∷ words ∷ []
commands_of (Cut seat) = (codes "SK.CUT" ∷ decimal seat ∷ []) ∷ []

-- a seat is a number of 32 bits, a moment one of 63
abbrev pub HasNumbers : Event → Type 0
HasNumbers (Ask seat now words) = (seat < 2 ^ 32) × (now < 2 ^ 63)
HasNumbers (Cut seat) = seat < 2 ^ 32

-- and the words are a command's
abbrev pub MayStand : Event → Type 0
MayStand (Ask seat now words) = HasNumbers (Ask seat now words) × IsCommand words
MayStand (Cut seat) = HasNumbers (Cut seat)

-- A body is that of one event alone.
abbrev pub OneEvent : Type 0
OneEvent = (event other : Event) → MayStand event → MayStand other → body_of event ≡ body_of other → event ≡ other
