-- What the jobs of a registry tell of their runs.
use Rattle.std.specs.Prelude.{◌==◌, ◌∷◌, [], ℕ, Bool, true, false, List, Option, None, bytes_eq, filter, get_or, option_map, unwrap_or}
use Rattle.std.specs.List.{position}
use Rattle.sk_base.specs.Outside.{Takes}
use Rattle.sk_resp.specs.Spelling.{Bytes}
use Rattle.sk_payload.specs.declared.head.Head.{Head}
use Rattle.sk_worker.specs.declared.job.Outcome.{Outcome}
use Rattle.sk_worker.specs.declared.job.Outcome.TheVariants as outcome

-- a run that came to its end
pub record Run : Type 0 where
  pub head : Head
  pub outcome : Outcome

-- where the class stands in the registry
abbrev pub place_of : List Bytes → Bytes → Option ℕ
place_of classes class = position (bytes_eq class) classes

-- the runs that are for the job at this place: those of its class
abbrev pub runs_at : List Bytes → ℕ → List Run → List Run
runs_at classes i runs = filter (λ run. unwrap_or (option_map (λ k. k == i) (place_of classes run.head.class)) false) runs

-- Each job tells the runs of its class, in order, and no others.
pub record RunsTold (classes : List Bytes) (runs : List Run) (before after : List (Option (List Run))) : Type 0 where
  pub each : (i : ℕ) → Takes (get_or before i None) (runs_at classes i runs) (get_or after i None)

-- The one run of this head told by the job of its class, with its outcome.
abbrev pub RunTold : List Bytes → Head → List (Option (List Run)) → List (Option (List Run)) → Outcome → Type 0
RunTold classes h before after outcome = RunsTold classes (record { head = h; outcome = outcome } ∷ []) before after

abbrev pub is_returned : Outcome → Bool
is_returned outcome.Returned = true
is_returned (outcome.Raised r) = false

-- those of the runs that returned
abbrev pub returned_runs : List Run → List Run
returned_runs runs = filter (λ run. is_returned run.outcome) runs
