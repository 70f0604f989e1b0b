-- In which order batches fire. What an event fires comes in groups: one before the first text that comes into the dead set, and one after each such
-- text, up to the next one. Within a group complete comes before success, success before death, and of each kind a batch before those that it is in.
use Rattle.std.specs.Prelude.{◌≡◌, ℕ, List, [], ◌∷◌, Bool, true, not, ◌&&◌, ◌||◌, nat_lt}
use Rattle.std.specs.Str.{bytes_eq}
use Rattle.sk_resp.specs.Spelling.{Bytes}
use Rattle.sk_batch.specs.Batched.{Batched}
use Rattle.sk_batch.specs.Ancestors.{is_under}
use Rattle.sk_batch.specs.declared.firing.Kind.{Kind}
use Rattle.sk_batch.specs.declared.firing.Kind.TheVariants.{Complete, Success, Death}
use Rattle.sk_model.specs.declared.limits.Limits.{Limits}
use Rattle.sk_model.specs.World.{World, first}
use Rattle.sk_model.specs.Change.{Fire, Change, Moves, changed}
use Rattle.sk_model.specs.Event.{Run, Step, after}
use Rattle.sk_model.specs.Once.{is_burial, same_kind}

-- ## Two firings

abbrev pub rank : Kind → ℕ
rank Complete = 0
rank Success = 1
rank Death = 2

-- the one batch stands somewhere within the other
abbrev pub is_within : Batched → Bytes → Bytes → Bool
is_within s inner outer = is_under s.batches inner outer && not (bytes_eq inner outer)

-- a firing of this kind and batch stands before one of the other kind and batch
abbrev pub precedes : Batched → Kind → Bytes → Kind → Bytes → Bool
precedes s kind bid other outer = nat_lt (rank kind) (rank other) || (same_kind kind other && is_within s bid outer)

-- ## The firings of a group

-- the change fires nothing that is to stand before it
abbrev pub may_follow : Batched → Kind → Bytes → Change → Bool
may_follow s kind bid (Moves (Fire outer other)) = precedes s kind bid other outer
may_follow s kind bid other = true

-- so do the changes, as far as the group goes
abbrev pub all_follow : Batched → Kind → Bytes → List Change → Bool
all_follow s kind bid [] = true
all_follow s kind bid (change ∷ changes) = is_burial change || (may_follow s kind bid change && all_follow s kind bid changes)

-- if the change fires something, the changes after it may follow
abbrev pub stands_first : Batched → Change → List Change → Bool
stands_first s (Moves (Fire bid kind)) changes = all_follow s kind bid changes
stands_first s other changes = true

-- each firing stands before those that come after it in its group
abbrev pub InOrder : World → List Change → Type 0
InOrder w [] = Unit {0}
InOrder w (change ∷ changes) = (stands_first w.batches change changes ≡ true) × InOrder (changed w change) changes

-- ## Every run

abbrev pub InOrderFrom : World → List Step → Type 0
InOrderFrom w [] = Unit {0}
InOrderFrom w (step ∷ steps) = InOrder w step.outcome.changes × InOrderFrom (after w step) steps

abbrev pub FiringsInOrder : Type 0
FiringsInOrder = (limits : Limits) (steps : List Step) → Run (first limits) steps → InOrderFrom (first limits) steps
