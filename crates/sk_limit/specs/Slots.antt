-- At most one hold of a slot stands at a time, and so at most as many of a name as it has slots.
use Rattle.std.specs.Prelude.{◌≡◌, ◌<◌, ◌≤◌, ◌+◌, ◌&&◌, ◌||◌, ℕ, zero, suc, Bool, true, false, not, cond, nat_lt, List, [], ◌∷◌, ◌++◌, length, drop, codes}
use Rattle.std.specs.Bool.{MatchBool}
use Rattle.std.specs.List.{list_all, list_any}
use Rattle.std.specs.Str.{bytes_eq}
use Rattle.std.specs.Str.Parse.{digits_value}
use Rattle.sk_resp.specs.Spelling.{Bytes}
use Rattle.sk_model.specs.declared.limits.Limits.{Limits}
use Rattle.sk_model.specs.Event.{Run, Step, after, world_after}
use Rattle.sk_model.specs.World.{World, first}
use Rattle.sk_limit.specs.Own.{OfSlot, OwnFrom, gives, key_in, takes, token_in, words_of}
use Rattle.sk_limit.specs.Requests.{slot_key}
use Rattle.sk_limit.specs.declared.limits.TheConstants.{LONGEST_HOLD}

-- ## One hold of a slot at a time

-- From here on, as long as no SK.GIVE of the token on the key is answered 1, each hold of the key comes at that moment or later.
abbrev pub TakenUntil : Bytes → ℕ → Bytes → ℕ → World → List Step → Type 0
TakenUntil key millis token end w [] = Unit {0}
TakenUntil key millis token end w (step ∷ steps) = MatchBool (gives key token step) (Unit {0})
    ((takes key millis step ≡ true → end ≤ (after w step).moment) × TakenUntil key millis token end (after w step) steps)

-- the token of the step's hold
abbrev pub token_of : Step → Bytes
token_of step = token_in (words_of step.event)

abbrev pub OneHoldFrom : Bytes → ℕ → World → List Step → Type 0
OneHoldFrom key millis w [] = Unit {0}
OneHoldFrom key millis w (step ∷ steps) =
    (takes key millis step ≡ true → TakenUntil key millis (token_of step) ((after w step).moment + millis) (after w step) steps) × OneHoldFrom key millis (after w step) steps

-- so long may a hold stand, and a window last
abbrev pub IsSpan : ℕ → Type 0
IsSpan millis = (1 ≤ millis) × (millis ≤ LONGEST_HOLD)

-- The requests on the key are those of `hold` and `give`, in a run of the store.
pub record SlotRun (limits : Limits) (key : Bytes) (millis : ℕ) (steps : List Step) : Type 0 where
  pub run : Run (first limits) steps
  pub own : OwnFrom (OfSlot key millis) key (first limits) steps

-- Between two holds of a key the moment rose by the milliseconds, or the first was given back.
abbrev pub OneHold : Type 0
OneHold = (limits : Limits) (key : Bytes) (millis : ℕ) (steps : List Step) → IsSpan millis → SlotRun limits key millis steps → OneHoldFrom key millis (first limits) steps

-- ## How many holds stand

-- The step's hold stands at the end of the steps behind it: its time isn't over, and it wasn't given back.
abbrev pub stands : (Bytes → Bool) → ℕ → World → Step → List Step → Bool
stands of millis w step steps =
    let key : Bytes = key_in (words_of step.event) in
    of key && takes key millis step && nat_lt (world_after (after w step) steps).moment ((after w step).moment + millis) && not (list_any (gives key (token_of step)) steps)

-- how many of the holds of these keys stand at the end
abbrev pub standing : (Bytes → Bool) → ℕ → World → List Step → ℕ
standing of millis w [] = 0
standing of millis w (step ∷ steps) = cond (stands of millis w step steps) 1 0 + standing of millis (after w step) steps

-- the key is `limit:name:slot` with a slot below that number
abbrev pub is_below : Bytes → ℕ → Bytes → Bool
is_below name zero key = false
is_below name (suc slot) key = bytes_eq key (slot_key name slot) || is_below name slot key

-- each slot below that number is the limiter's own
abbrev pub SlotRuns : Limits → Bytes → ℕ → ℕ → List Step → Type 0
SlotRuns limits name millis most steps = (slot : ℕ) → slot < most → SlotRun limits (slot_key name slot) millis steps

-- Of a name's holds with a slot below n, at most n stand at the end of the run, and so at each moment of it.
abbrev pub OneHoldASlot : Type 0
OneHoldASlot = (limits : Limits) (name : Bytes) (millis n : ℕ) (steps : List Step) → IsSpan millis → SlotRuns limits name millis n steps
    → standing (is_below name n) millis (first limits) steps ≤ n

-- the key is `limit:name:slot` with any slot
abbrev pub is_slot : Bytes → Bytes → Bool
is_slot name key = bytes_eq key (slot_key name (digits_value 10 (drop (length (codes "limit:" ++ name ++ codes ":")) key)))

-- each hold of the name has a slot below that number, as those of `hold` calls with this `most` have
abbrev pub all_below : Bytes → ℕ → ℕ → List Step → Bool
all_below name millis most steps =
    list_all (λ step. let key : Bytes = key_in (words_of step.event) in not (is_slot name key && takes key millis step) || is_below name most key) steps

-- Where all calls have one `most`, at most so many of all holds of the name stand.
abbrev pub MostHolds : Type 0
MostHolds = (limits : Limits) (name : Bytes) (millis most : ℕ) (steps : List Step) → IsSpan millis → SlotRuns limits name millis most steps
    → all_below name millis most steps ≡ true → standing (is_slot name) millis (first limits) steps ≤ most
