-- How the runs that a wrapped job tells grow with each run.
use Rattle.std.proofs.Common.{◌≡◌, List, [], ◌∷◌, ◌++◌, filter, refl, sym, ap, ◌∙◌, Option, Some, None, Result, Ok, Err, OnErr, unwrap_or, append-nil}
use Rattle.std.proofs.lemmas.List.{append_assoc, map-append}
use Rattle.std.proofs.lemmas.List.Elements.{filter-append}
use Rattle.std.proofs.Math.Logic.{∥∥₁_map}
use Rattle.sk_base.specs.Outside.{Takes}
use Rattle.sk_worker.specs.Run.{Run}
use Rattle.sk_middle.specs.GatedRun.{GatedRun, is_inner, runs_of, inner_runs, told_first, TellsInner, wrapped_runs}
use Rattle.sk_middle.specs.declared.runner.Runner.TheVariants.{Inner, Gate}

-- ## One more run

pub runs_of-append_one : (gated : List GatedRun) (r : GatedRun) → runs_of (gated ++ r ∷ []) ≡ runs_of gated ++ r.run ∷ []
runs_of-append_one gated r = map-append (λ s. s.run) gated (r ∷ [])

pub inner_runs-inner : (gated : List GatedRun) (run : Run) → inner_runs (gated ++ record { run = run; by = Inner } ∷ []) ≡ inner_runs gated ++ run ∷ []
inner_runs-inner gated run =
    let one : List GatedRun = record { run = run; by = Inner } ∷ [] in
    ap runs_of (filter-append (λ s. is_inner s.by) gated one) ∙ map-append (λ s. s.run) (filter (λ s. is_inner s.by) gated) one

pub inner_runs-gate : (gated : List GatedRun) (run : Run) → inner_runs (gated ++ record { run = run; by = Gate } ∷ []) ≡ inner_runs gated ++ []
inner_runs-gate gated run =
    let one : List GatedRun = record { run = run; by = Gate } ∷ [] in
    ap runs_of (filter-append (λ s. is_inner s.by) gated one) ∙ map-append (λ s. s.run) (filter (λ s. is_inner s.by) gated) []

-- ## What is told

pub Takes-none : (told : Option (List Run)) → Takes told [] told
Takes-none None = tt
Takes-none (Some told) = (told, refl, sym (append-nil told))

-- The wrapped job tells these more runs, where the inner one tells what it told before and maybe others.
pub Takes-wrapped : (first : Option (List Run)) (old new : List GatedRun) (before after : Option (List Run)) (inner more : List Run) →
    Takes before inner after → runs_of new ≡ runs_of old ++ more → Takes (wrapped_runs first old before) more (wrapped_runs first new after)
Takes-wrapped first old new before None inner more takes e = tt
Takes-wrapped first old new before (Some after) inner more takes e = (
  told_first first ++ runs_of old,
  ap (wrapped_runs first old) takes.1,
  ap (λ rs. told_first first ++ rs) e ∙ sym (append_assoc (told_first first) (runs_of old) more),
)

none_is_none : (runs : List Run) → None ≡ Some runs → ⊥
none_is_none runs is = cc

tells-more : (first : Option (List Run)) (old new : List GatedRun) (before after : Option (List Run)) (more : List Run) →
    Takes before more after → inner_runs new ≡ inner_runs old ++ more → TellsInner first old before → TellsInner first new after
tells-more first old new before None more takes e tells runs is = absurd (none_is_none runs is)
tells-more first old new before (Some after) more takes e tells runs is =
    ap (λ rs. told_first first ++ rs) e ∙ sym (append_assoc (told_first first) (inner_runs old) more)
    ∙ ap (λ rs. rs ++ more) (tells takes.0 takes.1) ∙ sym takes.2 ∙ ap (λ o. unwrap_or o []) is

-- The inner job's runs are still told as its own.
pub TellsInner-more : (first : Option (List Run)) (old new : List GatedRun) (before after : Option (List Run)) (more : List Run) →
    Takes before more after → inner_runs new ≡ inner_runs old ++ more → ∥ TellsInner first old before ∥₁ → ∥ TellsInner first new after ∥₁
TellsInner-more first old new before after more takes e tells = ∥∥₁_map tells (tells-more first old new before after more takes e)

pub on_err : {T E : Type 0} (P : Type 0) (r : Result T E) → P → OnErr r P
on_err P (Ok x) p = tt
on_err P (Err e) p = p
