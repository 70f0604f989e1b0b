-- How a draft goes through a chain of functions (Sidekiq's wiki, "Middleware").
use Rattle.std.specs.Prelude.{◌≡◌, ◌++◌, ℕ, List, ◌∷◌, Option, Some, None, length}
use Rattle.std.specs.List.{FoldsTo}
use Rattle.sk_payload.specs.declared.draft.JobDraft.{JobDraft}
use Rattle.sk_middle.specs.Identity.{KeepsIdentity}
use Rattle.sk_middle.specs.declared.chain.Through.{Through}
use Rattle.sk_middle.specs.declared.chain.Through.TheVariants.{Push, Stopped}

-- The functions lead from the one draft to the other: each answers the next one of the draft that the one before it answered.
abbrev pub Passes : {S : Type 0} → (S → JobDraft → Option JobDraft → Type 0) → List S → JobDraft → JobDraft → Type 0
Passes Answers steps draft last = FoldsTo (λ d step next. Answers step d (Some next)) draft steps last

-- The function at this place is the first that answers none.
pub record StopsAt {S : Type 0} (Answers : S → JobDraft → Option JobDraft → Type 0) (steps : List S) (draft : JobDraft) (place : ℕ) : Type 0 where
  pub before : List S
  pub step : S
  pub behind : List S
  pub last : JobDraft
  pub is : steps ≡ before ++ step ∷ behind
  pub many : length before ≡ place
  pub passes : Passes Answers before draft last
  pub stops : Answers step last None

-- What the chain answers: the last draft where no function answered none, and else the place of the first that did.
abbrev pub Chained : {S : Type 0} → (S → JobDraft → Option JobDraft → Type 0) → List S → JobDraft → Through → Type 0
Chained Answers steps draft (Push last) = Passes Answers steps draft last
Chained Answers steps draft (Stopped place) = StopsAt Answers steps draft place

-- What comes out of the chain is of the job that went in.
abbrev pub IsOfJob : JobDraft → Through → Type 0
IsOfJob draft (Push last) = KeepsIdentity draft last
IsOfJob draft (Stopped place) = Unit {0}
