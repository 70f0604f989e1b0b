-- The work at the index of the first that passes a test is the first that passes.
use Rattle.std.proofs.Common.{◌≡◌, ℕ, suc, ◌+◌, List, [], ◌∷◌, Bool, true, false, not, Some, None, cond, refl, sym, ap, ◌∙◌, set, remove, position, arith}
use Rattle.std.specs.Prelude.{Option, slice_get}
use Rattle.std.specs.Option.{option_map_or}
use Rattle.std.specs.List.{position_or_len}
use Rattle.sk_seats.specs.declared.phase.Phase.{Phase}
use Rattle.sk_seats.specs.declared.work.Stage.{Stage}
use Rattle.sk_seats.specs.declared.work.Work.{Work}
use Rattle.sk_seats.specs.Phases.{releasing, releasing_at, staging, staging_at, with_works, works_of}
use Rattle.sk_seats.specs.Works.{first, staged, staged_at, without}

-- the index is that of the first that passes
first_at : (test : Work → Bool) (works : List Work) (at : ℕ) → position test works ≡ Some at → at ≡ position_or_len test works
first_at test works at is = grind (arith, is)

one_more : (n : ℕ) → 1 + n ≡ suc n
one_more n = omega arith

read_first : (test : Work → Bool) (works : List Work) → slice_get works (position_or_len test works) ≡ first test works
read_first test [] = refl
read_first test (work ∷ works) = by_test (test work) (read_first test works) where
  at : ℕ
  at = position_or_len test works

  by_test : (passes : Bool) → slice_get works at ≡ first test works → slice_get (work ∷ works) (cond (not passes) (1 + at) 0) ≡ cond passes (Some work) (first test works)
  by_test true more = refl
  by_test false more = rw (one_more at) more

behind : (f : Work → List Work) (work : Work) (works : List Work) (o : Option Work) → option_map_or (λ w. work ∷ f w) o (work ∷ works) ≡ work ∷ option_map_or f o works
behind f work works None = refl
behind f work works (Some other) = refl

staged_first : (test : Work → Bool) (stage : Stage) (works : List Work) → staged_at (position_or_len test works) stage works ≡ staged test stage works
staged_first test stage [] = refl
staged_first test stage (work ∷ works) = by_test (test work) (staged_first test stage works) where
  at : ℕ
  at = position_or_len test works

  set_there : Work → List Work
  set_there w = set works at (record w { stage = stage })

  by_test : (passes : Bool) → staged_at at stage works ≡ staged test stage works → staged_at (cond (not passes) (1 + at) 0) stage (work ∷ works) ≡ cond passes (record work { stage = stage } ∷ works) (work ∷ staged test stage works)
  by_test true more = refl
  by_test false more = rw (one_more at) (behind set_there work works (slice_get works at) ∙ ap (λ left. work ∷ left) more)

remove_first : (test : Work → Bool) (works : List Work) → remove works (position_or_len test works) ≡ without test works
remove_first test [] = refl
remove_first test (work ∷ works) = by_test (test work) (remove_first test works) where
  at : ℕ
  at = position_or_len test works

  by_test : (passes : Bool) → remove works at ≡ without test works → remove (work ∷ works) (cond (not passes) (1 + at) 0) ≡ cond passes works (work ∷ without test works)
  by_test true more = refl
  by_test false more = rw (one_more at) (ap (λ left. work ∷ left) more)

-- the work there is the first that passes
pub first_is : (test : Work → Bool) (works : List Work) (work : Work) (at : ℕ) → position test works ≡ Some at → slice_get works at ≡ Some work → first test works ≡ Some work
first_is test works work at is read = sym (read_first test works) ∙ ap (slice_get works) (sym (first_at test works at is)) ∙ read

-- another stage of the work there
pub staging_is : (test : Work → Bool) (stage : Stage) (phase : Phase) (at : ℕ) → position test (works_of phase) ≡ Some at → staging_at at stage phase ≡ staging test stage phase
staging_is test stage phase at is =
    ap (λ n. staging_at n stage phase) (first_at test (works_of phase) at is) ∙ ap (λ works. with_works works phase) (staged_first test stage (works_of phase))

-- the work there goes
pub releasing_is : (test : Work → Bool) (phase : Phase) (at : ℕ) → position test (works_of phase) ≡ Some at → releasing_at at phase ≡ releasing test phase
releasing_is test phase at is =
    ap (λ n. releasing_at n phase) (first_at test (works_of phase) at is) ∙ ap (λ works. with_works works phase) (remove_first test (works_of phase))
