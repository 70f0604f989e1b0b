-- Runs of the store in which a limiter's key is its own: nobody else writes it.
use Rattle.std.specs.Prelude.{◌≡◌, ◌⊎◌, ◌&&◌, ◌==◌, ℕ, pos, Bool, false, List, [], ◌∷◌, codes}
use Rattle.std.specs.Str.{bytes_eq}
use Rattle.std.specs.Cmp.Lexicographic.{pointwise}
use Rattle.sk_resp.specs.Spelling.{Bytes}
use Rattle.sk_resp.specs.declared.reply.Reply.{Reply}
use Rattle.sk_resp.specs.declared.reply.Reply.TheVariants as reply
use Rattle.sk_value.specs.Keys.{at, purged}
use Rattle.sk_link.specs.Asking.{is_okay}
use Rattle.sk_model.specs.Event.{Event, Ask, Cut, Step, after}
use Rattle.sk_model.specs.Reading.{Words}
use Rattle.sk_model.specs.World.{World}
use Rattle.sk_limit.specs.Requests.{count_words, expire_words, give_words, left_words, set_words}

-- the words of an event, with none of a cut
abbrev pub words_of : Event → Words
words_of (Ask seat now words) = words
words_of (Cut seat) = []

-- The key is left alone: what stood under it stands, at the same moment; or what time alone left of that.
abbrev pub Leaves : Bytes → World → World → Type 0
Leaves key before now =
    ((at key now.keys ≡ at key before.keys) × (now.moment ≡ before.moment)) ⊎ (at key now.keys ≡ at key (purged now.moment before.keys))

-- ## The requests of limiters

-- of `hold` and `give`, on the key of a slot
pub data OfSlot (key : Bytes) (millis : ℕ) : Words → Type 0 where
  take : (token : Bytes) → OfSlot key millis (set_words key token millis)
  give : (token : Bytes) → OfSlot key millis (give_words key token)

-- of `grant`, on the key of a window
pub data OfWindow (key : Bytes) (millis : ℕ) : Words → Type 0 where
  opens : OfWindow key millis (set_words key (codes "0") millis)
  adds : OfWindow key millis (count_words key)
  looks : OfWindow key millis (left_words key)
  bounds : OfWindow key millis (expire_words key millis)

-- Each step from here on leaves the key alone, or is one of these requests.
abbrev pub OwnFrom : (Words → Type 0) → Bytes → World → List Step → Type 0
OwnFrom IsRequest key w [] = Unit {0}
OwnFrom IsRequest key w (step ∷ steps) = (Leaves key w (after w step) ⊎ IsRequest (words_of step.event)) × OwnFrom IsRequest key (after w step) steps

-- ## What a step is

abbrev pub are_words : Words → Words → Bool
are_words words others = pointwise bytes_eq words others

abbrev pub is_one : Reply → Bool
is_one (reply.Int (pos n)) = n == 1
is_one r = false

-- the second word, and the third
abbrev pub key_in : Words → Bytes
key_in (name ∷ key ∷ words) = key
key_in words = []

abbrev pub token_in : Words → Bytes
token_in (name ∷ key ∷ token ∷ words) = token
token_in words = []

-- a hold of the key: SET key token NX PX millis, answered `+OK`
abbrev pub takes : Bytes → ℕ → Step → Bool
takes key millis step = are_words (words_of step.event) (set_words key (token_in (words_of step.event)) millis) && is_okay step.outcome.reply

-- it is given back: SK.GIVE key token, answered 1
abbrev pub gives : Bytes → Bytes → Step → Bool
gives key token step = are_words (words_of step.event) (give_words key token) && is_one step.outcome.reply
