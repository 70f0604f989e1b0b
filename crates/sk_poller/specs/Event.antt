-- What happens in a turn of a poller, event by event.
use Rattle.std.specs.Prelude.{ℕ, List, [], ◌∷◌, Option}
use Rattle.sk_link.specs.Call.{Call}

pub data Event : Type 0 where
  -- the clock gave this moment
  read : ℕ → Event
  asked : Call → Event
  -- the last slot of the next loop, where it has one
  slot : Option ℕ → Event
  -- the dice gave these words
  drew : ℕ → ℕ → Event

abbrev pub calls : List Event → List Call
calls [] = []
calls (read now_ ∷ events) = calls events
calls (asked call ∷ events) = call ∷ calls events
calls (slot last ∷ events) = calls events
calls (drew first second ∷ events) = calls events

abbrev pub moments : List Event → List ℕ
moments [] = []
moments (read now_ ∷ events) = now_ ∷ moments events
moments (asked call ∷ events) = moments events
moments (slot last ∷ events) = moments events
moments (drew first second ∷ events) = moments events

abbrev pub words : List Event → List ℕ
words [] = []
words (read now_ ∷ events) = words events
words (asked call ∷ events) = words events
words (slot last ∷ events) = words events
words (drew first second ∷ events) = first ∷ second ∷ words events
