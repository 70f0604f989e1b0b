-- Lives of a window's key, and the grants within one.
use Rattle.std.specs.Prelude.{◌≡◌, ◌≤◌, ◌+◌, ◌&&◌, ℕ, pos, Bool, false, cond, nat_le, List, [], ◌∷◌, Option, Some, None, IfSome}
use Rattle.std.specs.Option.{is_some}
use Rattle.sk_resp.specs.Spelling.{Bytes}
use Rattle.sk_resp.specs.declared.reply.Reply.{Reply}
use Rattle.sk_resp.specs.declared.reply.Reply.TheVariants as reply
use Rattle.sk_value.specs.Keys.{at, purged}
use Rattle.sk_model.specs.declared.limits.Limits.{Limits}
use Rattle.sk_model.specs.Event.{Run, Step, after}
use Rattle.sk_model.specs.World.{World, first}
use Rattle.sk_limit.specs.Own.{OfWindow, OwnFrom, are_words, words_of}
use Rattle.sk_limit.specs.Requests.{count_words}
use Rattle.sk_limit.specs.Slots.{IsSpan}

-- ## Lives

-- The key's life goes on through the step: its time isn't over at the step's moment, and it stands behind the step.
abbrev pub goes_on : Bytes → World → Step → Bool
goes_on key w step = is_some (at key (purged (after w step).moment w.keys)) && is_some (at key (after w step).keys)

-- the moment at which the key's life began, behind the step
abbrev pub since_after : Bytes → World → Option ℕ → Step → Option ℕ
since_after key w since step = cond (goes_on key w step) since (cond (is_some (at key (after w step).keys)) (Some (after w step).moment) None)

-- a life that ends with the step has lasted so long
abbrev pub EndsAfter : Bytes → ℕ → World → Option ℕ → Step → Type 0
EndsAfter key millis w since step = goes_on key w step ≡ false → IfSome since (λ start. start + millis ≤ (after w step).moment)

abbrev pub LivesLastFrom : Bytes → ℕ → World → Option ℕ → List Step → Type 0
LivesLastFrom key millis w since [] = Unit {0}
LivesLastFrom key millis w since (step ∷ steps) = EndsAfter key millis w since step × LivesLastFrom key millis (after w step) (since_after key w since step) steps

-- The requests on the key are those of `grant`, in a run of the store.
pub record WindowRun (limits : Limits) (key : Bytes) (millis : ℕ) (steps : List Step) : Type 0 where
  pub run : Run (first limits) steps
  pub own : OwnFrom (OfWindow key millis) key (first limits) steps

-- Each life of the key that has ended lasted the milliseconds.
abbrev pub LivesLast : Type 0
LivesLast = (limits : Limits) (key : Bytes) (millis : ℕ) (steps : List Step) → IsSpan millis → WindowRun limits key millis steps
    → LivesLastFrom key millis (first limits) None steps

-- ## Grants

-- a number from 1 to the most
abbrev pub is_granted : ℕ → Reply → Bool
is_granted most (reply.Int (pos n)) = nat_le 1 n && nat_le n most
is_granted most r = false

-- the step is INCRBY key 1, answered by a number from 1 to the most
abbrev pub grants : Bytes → ℕ → Step → Bool
grants key most step = are_words (words_of step.event) (count_words key) && is_granted most step.outcome.reply

-- how many grants there were in the life that stands behind the step, where there were so many before
abbrev pub granted_after : Bytes → ℕ → World → ℕ → Step → ℕ
granted_after key most w granted step = cond (goes_on key w step) granted 0 + cond (grants key most step) 1 0

abbrev pub FewGrantsFrom : Bytes → ℕ → World → ℕ → List Step → Type 0
FewGrantsFrom key most w granted [] = Unit {0}
FewGrantsFrom key most w granted (step ∷ steps) =
    (granted_after key most w granted step ≤ most) × FewGrantsFrom key most (after w step) (granted_after key most w granted step) steps

-- Within one life of the key at most so many answers of INCRBY are from 1 to the most.
abbrev pub FewGrants : Type 0
FewGrants = (limits : Limits) (key : Bytes) (millis most : ℕ) (steps : List Step) → IsSpan millis → WindowRun limits key millis steps
    → FewGrantsFrom key most (first limits) 0 steps
