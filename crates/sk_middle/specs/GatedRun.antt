-- The runs that a wrapped job tells: those of the inner job, and those that the gate raised an error in the place of.
use Rattle.std.specs.Prelude.{◌≡◌, ◌++◌, Bool, true, false, List, ◌∷◌, Option, Some, filter, map, option_map, unwrap_or, [], refl}
use Rattle.std.specs.Coded.{Coded, code_by, coded×, coded_list}
use Rattle.sk_base.specs.Outside.{Takes}
use Rattle.sk_payload.specs.declared.head.Head.{Head}
use Rattle.sk_payload.specs.contracts.head.Head as head
use Rattle.sk_worker.specs.Run.{Run}
use Rattle.sk_worker.specs.declared.job.Outcome.{Outcome}
use Rattle.sk_worker.specs.contracts.job.Outcome as outcome
use Rattle.sk_middle.specs.declared.runner.Runner.{Runner}
use Rattle.sk_middle.specs.declared.runner.Runner.TheVariants.{Inner, Gate}
use Rattle.sk_middle.specs.contracts.runner.Runner as runner

-- a run, and whose it is
pub record GatedRun : Type 0 where
  pub run : Run
  pub by : Runner

-- how the logic stores a list of them
abbrev pub gated_runs_code : Coded (List GatedRun)
gated_runs_code = coded_list (code_by (Head × (Outcome × Runner)) (coded× head.the_row.coded (coded× outcome.the_row.coded runner.the_row.coded))
    (λ r. (r.run.head, (r.run.outcome, r.by))) (λ p. record { run = record { head = p.0; outcome = p.1.0 }; by = p.1.1 }) (λ _. refl))

abbrev pub is_inner : Runner → Bool
is_inner Inner = true
is_inner Gate = false

-- the runs alone
abbrev pub runs_of : List GatedRun → List Run
runs_of gated = map (λ r. r.run) gated

-- those of the inner job
abbrev pub inner_runs : List GatedRun → List Run
inner_runs gated = runs_of (filter (λ r. is_inner r.by) gated)

-- A job tells one run more than before.
abbrev pub TellsOne : Option (List Run) → Head → Outcome → Option (List Run) → Type 0
TellsOne before h outcome after = Takes before (record { head = h; outcome = outcome } ∷ []) after

-- what a job told when it was wrapped
abbrev pub told_first : Option (List Run) → List Run
told_first first = unwrap_or first []

-- Where the inner job tells its runs, they are those that it told when it was wrapped, and then the inner ones of these.
abbrev pub TellsInner : Option (List Run) → List GatedRun → Option (List Run) → Type 0
TellsInner first gated inner = (runs : List Run) → inner ≡ Some runs → told_first first ++ inner_runs gated ≡ runs

-- Where the inner job tells its runs, the wrapped job tells those that it told when it was wrapped, and then all of these.
abbrev pub wrapped_runs : Option (List Run) → List GatedRun → Option (List Run) → Option (List Run)
wrapped_runs first gated inner = option_map (λ _. told_first first ++ runs_of gated) inner
