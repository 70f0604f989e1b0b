-- Lists of works: what holds of each where one comes, changes or goes, and the first of those that pass a test.
use Rattle.std.proofs.Common.{◌≡◌, List, [], ◌∷◌, ◌++◌, refl, sym, ap, subst, ◌∙◌, arith, Bool, true, false, cond}
use Rattle.std.specs.Prelude.{Some}
use Rattle.std.specs.Option.{is_some}
use Rattle.std.specs.List.{AllByRecursion, list_any}
use Rattle.sk_seats.specs.declared.work.Stage.{Stage}
use Rattle.sk_seats.specs.declared.work.Work.{Work}
use Rattle.sk_seats.specs.Works.{first, staged, without}

-- ## What holds of each

pub all_weaker : (P Q : Work → Type 0) (works : List Work) → ((work : Work) → P work → Q work) → AllByRecursion P works → AllByRecursion Q works
all_weaker P Q [] f all = tt
all_weaker P Q (work ∷ works) f all = (f work all.0, all_weaker P Q works f all.1)

pub all_appended : (P : Work → Type 0) (works : List Work) (last : Work) → AllByRecursion P works → P last → AllByRecursion P (works ++ last ∷ [])
all_appended P [] last all one = (one, tt)
all_appended P (work ∷ works) last all one = (all.0, all_appended P works last all.1 one)

pub all_staged : (P : Work → Type 0) (test : Work → Bool) (stage : Stage) (works : List Work) → ((work : Work) → test work ≡ true → P (record work { stage = stage })) → AllByRecursion P works → AllByRecursion P (staged test stage works)
all_staged P test stage [] turns all = tt
all_staged P test stage (work ∷ works) turns all = by_test (test work) refl (all_staged P test stage works turns all.1) where
  by_test : (b : Bool) → test work ≡ b → AllByRecursion P (staged test stage works) → AllByRecursion P (cond b (record work { stage = stage } ∷ works) (work ∷ staged test stage works))
  by_test true e more = (turns work e, all.1)
  by_test false e more = (all.0, more)

pub all_without : (P : Work → Type 0) (test : Work → Bool) (works : List Work) → AllByRecursion P works → AllByRecursion P (without test works)
all_without P test [] all = tt
all_without P test (work ∷ works) all = by_test (test work) (all_without P test works all.1) where
  by_test : (b : Bool) → AllByRecursion P (without test works) → AllByRecursion P (cond b works (work ∷ without test works))
  by_test true more = all.1
  by_test false more = (all.0, more)

-- where none passes the test, it holds of all that it holds of each that fails
pub all_none : (P : Work → Type 0) (test : Work → Bool) (works : List Work) → ((work : Work) → test work ≡ false → P work) → list_any test works ≡ false → AllByRecursion P works
all_none P test [] fails none = tt
all_none P test (work ∷ works) fails none = (fails work (grind (arith, none)), all_none P test works fails (grind (arith, none)))

-- ## Those that pass a test

pub any_weaker : (test other : Work → Bool) (works : List Work) → ((work : Work) → test work ≡ true → other work ≡ true) → list_any test works ≡ true → list_any other works ≡ true
any_weaker test other [] is any = any
any_weaker test other (work ∷ works) is any = grind (arith, any_weaker test other works is, is work)

-- one passes where there is a first
pub any_first : (test : Work → Bool) (works : List Work) → list_any test works ≡ is_some (first test works)
any_first test [] = refl
any_first test (work ∷ works) = by_test (test work) refl (any_first test works) where
  by_test : (b : Bool) → test work ≡ b → list_any test works ≡ is_some (first test works) → list_any test (work ∷ works) ≡ is_some (cond b (Some work) (first test works))
  by_test true e more = grind (arith, e)
  by_test false e more = grind (arith, e, more)

-- the first passes
pub first_passes : (test : Work → Bool) (works : List Work) (work : Work) → first test works ≡ Some work → test work ≡ true
first_passes test [] work e = absurd (cc e)
first_passes test (one ∷ works) work e = by_test (test one) refl (first_passes test works work) e where
  by_test : (b : Bool) → test one ≡ b → (first test works ≡ Some work → test work ≡ true) → cond b (Some one) (first test works) ≡ Some work → test work ≡ true
  by_test true t more e = let same : one ≡ work = cc e in ap test (sym same) ∙ t
  by_test false t more e = more e

-- and it is one of them
pub first_of_all : (P : Work → Type 0) (test : Work → Bool) (works : List Work) (work : Work) → first test works ≡ Some work → AllByRecursion P works → P work
first_of_all P test [] work e all = absurd (cc e)
first_of_all P test (one ∷ works) work e all = by_test (test one) (λ e. first_of_all P test works work e all.1) e where
  by_test : (b : Bool) → (first test works ≡ Some work → P work) → cond b (Some one) (first test works) ≡ Some work → P work
  by_test true more e = let same : one ≡ work = cc e in subst P same all.0
  by_test false more e = more e
