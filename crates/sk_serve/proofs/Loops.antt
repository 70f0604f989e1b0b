-- What comes of a loop that runs, once and again, and of several.
use Rattle.std.proofs.Common.{◌≡◌, ◌≢◌, ℕ, ◌+◌, ◌⊎◌, List, [], ◌∷◌, ◌++◌, length, refl, sym, ap, ◌∙◌, subst, arith, inl, inr, Result, Ok, Err, Option, None, Bool, true}
use Rattle.std.specs.Prelude.{◌≤◌, ◌<◌, All, IfErr, IfOk, MatchOption}
use Rattle.std.specs.List.{AllZip, sum_by}
use Rattle.std.proofs.lemmas.List.Elements.{AllZip-get_or, length_all_zip}
use Rattle.std.proofs.lemmas.List.Sums.{sum_by-append, sum_by-cons}
use Rattle.sk_base.specs.Outside.{Rose}
use Rattle.sk_desk.specs.Pass.{PassView}
use Rattle.sk_edge.specs.Collected.{Collected, Keeps}
use Rattle.sk_edge.specs.Doors.{GivesFirst, IsNudged}
use Rattle.sk_edge.specs.declared.door.Ear as an_ear
use Rattle.sk_serve.specs.declared.accept_loop.LoopEnd.{LoopEnd}
use Rattle.sk_serve.specs.declared.accept_loop.LoopEnd.TheVariants as loop_end
use Rattle.sk_serve.specs.Server.{IsFresh, IsLoop, LoopView, Runs, nudges_at, stands}
use Rattle.sk_serve.specs.Attending.{Attending}
use Rattle.sk_serve.specs.Visits.{AreVisits, EndsUnserved, HasShutdown, HasUnsettled, IsShutdown, IsUnsettled, IsVisit, Standing, Visit, count_of, rows_of, standing}
use Rattle.sk_serve.proofs.Lists.{among_either, among_first, among_later, among_one, folds_on, plus_none, plus_on, unserved_first, unserved_later}
use Rattle.sk_serve.proofs.Nudging.{nudged_more, nudged_none}

pub from_ok : {T E : Type 0} (r : Result T E) (x : T) (F : T → Type 0) → r ≡ Ok x → IfOk r F → F x
from_ok r x F is got = subst (λ z. IfOk z F) is got

pub from_err : {T E : Type 0} (r : Result T E) (e : E) (F : E → Type 0) → r ≡ Err e → IfErr r F → F e
from_err r e F is got = subst (λ z. IfErr z F) is got

-- one more connection was served
pub served_one : (old new : PassView) (numbers served : ℕ) (how : LoopEnd) → IsLoop old numbers served how → new.parts ≡ old.parts → new.count + 1 ≡ old.count → IsLoop new numbers (served + 1) how
served_one old new numbers served how loop parts left = record {
  parts = parts ∙ loop.parts;
  left = omega (arith, left, loop.left);
  spent = λ is. absurd (omega (arith, left, loop.spent is));
}

pub all_used : (pass : PassView) (numbers served : ℕ) (how : LoopEnd) → IsLoop pass numbers served how → how ≡ loop_end.Spent → served ≡ numbers
all_used pass numbers served how loop spent = omega (arith, loop.left, loop.spent spent)

-- ## One run after another

pub rose_on : (a b c : ℕ) → Rose a b → b ≤ c → Rose a c
rose_on a b c (inl less) le = inl (omega (arith, less, le))
rose_on a b c (inr last) le = inr (omega (arith, last, le))

pub rose_from : (a b c : ℕ) → a ≤ b → Rose b c → Rose a c
rose_from a b c le (inl less) = inl (omega (arith, less, le))
rose_from a b c le (inr last) = inr last

done_or : (end : LoopEnd) → (end ≡ loop_end.Done) ⊎ (end ≢ loop_end.Done)
done_or loop_end.Done = inl refl
done_or loop_end.Shutdown = inr (λ is. cc is)
done_or loop_end.Failed = inr (λ is. cc is)
done_or loop_end.Spent = inr (λ is. cc is)
done_or loop_end.Memory = inr (λ is. cc is)
done_or loop_end.Unsettled = inr (λ is. cc is)

-- ## A loop that stops

-- It ended for an unsettled session, or because it couldn't wake the others.
abbrev IsHalted : LoopEnd → Type 0
IsHalted end = (end ≡ loop_end.Unsettled) ⊎ (end ≡ loop_end.Failed)

-- It ended by this cause, or because it couldn't wake the others.
module _ (end end' : LoopEnd) (cause : end ≢ loop_end.Done) (ended : (end' ≡ end) ⊎ (end' ≡ loop_end.Failed)) where
  pub ended_by : end' ≢ loop_end.Done
  ended_by done = by_cause ended where
    by_cause : (end' ≡ end) ⊎ (end' ≡ loop_end.Failed) → ⊥
    by_cause (inl is) = cause (sym is ∙ done)
    by_cause (inr is) = cc (sym is ∙ done)

  pub unspent_by : end ≢ loop_end.Spent → end' ≢ loop_end.Spent
  unspent_by other spent = by_cause ended where
    by_cause : (end' ≡ end) ⊎ (end' ≡ loop_end.Failed) → ⊥
    by_cause (inl is) = other (sym is ∙ spent)
    by_cause (inr is) = cc (sym is ∙ spent)

  pub unsettled_by : end' ≡ loop_end.Unsettled → end ≡ loop_end.Unsettled
  unsettled_by unsettled = by_cause ended where
    by_cause : (end' ≡ end) ⊎ (end' ≡ loop_end.Failed) → end ≡ loop_end.Unsettled
    by_cause (inl is) = sym is ∙ unsettled
    by_cause (inr is) = absurd (cc (sym is ∙ unsettled))

  pub settled_by : end ≢ loop_end.Unsettled → end' ≢ loop_end.Unsettled
  settled_by other unsettled = by_cause ended where
    by_cause : (end' ≡ end) ⊎ (end' ≡ loop_end.Failed) → ⊥
    by_cause (inl is) = other (sym is ∙ unsettled)
    by_cause (inr is) = cc (sym is ∙ unsettled)

  pub ends_by : end ≡ loop_end.Unsettled → IsHalted end'
  ends_by unsettled = by_cause ended where
    by_cause : (end' ≡ end) ⊎ (end' ≡ loop_end.Failed) → IsHalted end'
    by_cause (inl is) = inl (is ∙ unsettled)
    by_cause (inr is) = inr is

-- A session ended by SHUTDOWN before, or this one did.
pub shut_by : (was : Bool) (end' end : LoopEnd) (Shut : Type 0) → end' ≢ loop_end.Done → (was ≡ true) ⊎ (end ≡ loop_end.Shutdown) → (end ≡ loop_end.Shutdown → Shut)
    → (was ≡ true) ⊎ (Shut × (end' ≢ loop_end.Done))
shut_by was end' end Shut over (inl before) law = inl before
shut_by was end' end Shut over (inr now) law = inr (law now, over)

nudges_of : (others : ℕ) (end : LoopEnd) → end ≢ loop_end.Done → nudges_at end others ≡ others
nudges_of others loop_end.Done ended = absurd (ended refl)
nudges_of others loop_end.Shutdown ended = refl
nudges_of others loop_end.Failed ended = refl
nudges_of others loop_end.Spent ended = refl
nudges_of others loop_end.Memory ended = refl
nudges_of others loop_end.Unsettled ended = refl

pub nudged_by : (others : ℕ) (end : LoopEnd) (a a' b : Option ℕ) → end ≢ loop_end.Done → a' ≡ a → IsNudged a' others b → IsNudged a (nudges_at end others) b
nudged_by others end a a' b ended same nudged = subst (λ n. IsNudged a n b) (sym (nudges_of others end ended)) (subst (λ z. IsNudged z others b) same nudged)

pub unnudged : (others : ℕ) (end : LoopEnd) (a b : Option ℕ) → end ≡ loop_end.Done → b ≡ a → IsNudged a (nudges_at end others) b
unnudged others end a b done same = subst (λ e. IsNudged a (nudges_at e others) b) (sym done) (subst (λ z. IsNudged a 0 z) (sym same) (nudged_none a))

sum_one : {T : Type 0} (f : T → ℕ) (x : T) → sum_by f (x ∷ []) ≡ f x
sum_one f x = sum_by-cons f x [] ∙ sym (plus_none (f x))

abbrev stand_of : {C K : Type 0} → Option (List C) → Option (Collected C) → K → Standing C K
stand_of heard kept clock = record { heard = heard; kept = kept; clock = clock }

module _ {E C K : Type 0} (Ear : an_ear.Ghosts E C) (Attended : Attending C K) where
  -- one connection
  pub one_visit : (old new : Standing C K) (v : Visit C) → IsVisit Attended old v new → AreVisits Attended old (v ∷ []) new
  one_visit old new v is = (new, is, refl)

  abbrev Ran : ℕ → LoopView E K → LoopView E K → Type 0
  Ran = Runs Ear Attended

  pub runs_nothing : (others : ℕ) (l : LoopView E K) → Ran others l l
  runs_nothing others l = record {
    visits = [];
    came = refl;
    served = plus_none l.served;
    amount = plus_none l.pass.amount;
    numbers_same = refl;
    later = omega arith;
    failed = λ is. inl is;
    spent = λ is. inl is;
    unsettled = λ is. inl is;
    ends = λ some. absurd some;
    ends_shut = λ some. absurd some;
    woke = λ done. subst (λ end. IsNudged (Ear.nudged l.ear) (nudges_at end others) (Ear.nudged l.ear)) (sym done) (nudged_none (Ear.nudged l.ear));
    over = λ ended. (refl, refl);
    quit = λ shut. inl shut;
  }

  module _ (others : ℕ) (old mid new : LoopView E K) (first : Ran others old mid) (then_ : Ran others mid new) where
    -- A loop that had ended by a cause of its own by then doesn't run again.
    woke_on : IsNudged (Ear.nudged old.ear) (nudges_at mid.end others) (Ear.nudged mid.ear) → IsNudged (Ear.nudged old.ear) (nudges_at new.end others) (Ear.nudged new.ear)
    woke_on woken = by_end (done_or mid.end) where
      by_end : (mid.end ≡ loop_end.Done) ⊎ (mid.end ≢ loop_end.Done) → IsNudged (Ear.nudged old.ear) (nudges_at new.end others) (Ear.nudged new.ear)
      by_end (inl done) =
          nudged_more (Ear.nudged old.ear) (Ear.nudged mid.ear) (Ear.nudged new.ear) 0 (nudges_at new.end others) (nudges_at new.end others)
          (subst (λ end. IsNudged (Ear.nudged old.ear) (nudges_at end others) (Ear.nudged mid.ear)) done woken) (then_.woke done) (omega arith)
      by_end (inr ended) = subst (λ (l : LoopView E K). IsNudged (Ear.nudged old.ear) (nudges_at l.end others) (Ear.nudged l.ear)) (sym (then_.over ended).0) woken

    -- what ended stays ended
    ended_on : mid.end ≢ loop_end.Done → new.end ≢ loop_end.Done
    ended_on ended done = ended (sym (ap (λ (l : LoopView E K). l.end) (then_.over ended).0) ∙ done)

    quit_on : (mid.shut ≡ true) ⊎ (HasShutdown then_.visits × (new.end ≢ loop_end.Done)) → (old.shut ≡ true) ⊎ (HasShutdown (first.visits ++ then_.visits) × (new.end ≢ loop_end.Done))
    quit_on (inr (some, ended)) = inr (among_later (λ v. IsShutdown v.session) first.visits then_.visits some, ended)
    quit_on (inl shut) = by_first (first.quit shut) where
      by_first : (old.shut ≡ true) ⊎ (HasShutdown first.visits × (mid.end ≢ loop_end.Done)) → (old.shut ≡ true) ⊎ (HasShutdown (first.visits ++ then_.visits) × (new.end ≢ loop_end.Done))
      by_first (inl was) = inl was
      by_first (inr (some, ended)) = inr (among_first (λ v. IsShutdown v.session) first.visits then_.visits some, ended_on ended)

    spent_on : (mid.end ≡ loop_end.Spent) ⊎ EndsUnserved then_.visits → (old.end ≡ loop_end.Spent) ⊎ EndsUnserved (first.visits ++ then_.visits)
    spent_on (inr last) = inr (unserved_later first.visits then_.visits last)
    spent_on (inl spent) = by_first (first.spent spent) where
      by_first : (old.end ≡ loop_end.Spent) ⊎ EndsUnserved first.visits → (old.end ≡ loop_end.Spent) ⊎ EndsUnserved (first.visits ++ then_.visits)
      by_first (inl was) = inl was
      by_first (inr last) = inr (unserved_first first.visits then_.visits last (then_.over (λ done. cc (sym spent ∙ done))).1)

    unsettled_on : (mid.end ≡ loop_end.Unsettled) ⊎ HasUnsettled then_.visits → (old.end ≡ loop_end.Unsettled) ⊎ HasUnsettled (first.visits ++ then_.visits)
    unsettled_on (inr some) = inr (among_later (λ v. IsUnsettled v.session) first.visits then_.visits some)
    unsettled_on (inl is) = by_first (first.unsettled is) where
      by_first : (old.end ≡ loop_end.Unsettled) ⊎ HasUnsettled first.visits → (old.end ≡ loop_end.Unsettled) ⊎ HasUnsettled (first.visits ++ then_.visits)
      by_first (inl was) = inl was
      by_first (inr some) = inr (among_first (λ v. IsUnsettled v.session) first.visits then_.visits some)

    -- Of a loop that ended for an unsettled session the end stays as it is.
    stays : IsHalted mid.end → IsHalted new.end
    stays (inl is) = inl (ap (λ (l : LoopView E K). l.end) (then_.over (λ done. cc (sym is ∙ done))).0 ∙ is)
    stays (inr is) = inr (ap (λ (l : LoopView E K). l.end) (then_.over (λ done. cc (sym is ∙ done))).0 ∙ is)

    ends_on : HasUnsettled (first.visits ++ then_.visits) → IsHalted new.end
    ends_on some = by_run (among_either (λ v. IsUnsettled v.session) first.visits then_.visits some) where
      by_run : HasUnsettled first.visits ⊎ HasUnsettled then_.visits → IsHalted new.end
      by_run (inl before) = stays (first.ends before)
      by_run (inr now) = then_.ends now

    ends_shut_on : HasShutdown (first.visits ++ then_.visits) → new.end ≢ loop_end.Done
    ends_shut_on some = by_run (among_either (λ v. IsShutdown v.session) first.visits then_.visits some) where
      by_run : HasShutdown first.visits ⊎ HasShutdown then_.visits → new.end ≢ loop_end.Done
      by_run (inl before) = ended_on (first.ends_shut before)
      by_run (inr now) = then_.ends_shut now

    failed_on : (mid.end ≡ loop_end.Failed) ⊎ Rose (Ear.ear_faults mid.ear) (Ear.ear_faults new.ear) → (old.end ≡ loop_end.Failed) ⊎ Rose (Ear.ear_faults old.ear) (Ear.ear_faults new.ear)
    failed_on (inr rose) = inr (rose_from (Ear.ear_faults old.ear) (Ear.ear_faults mid.ear) (Ear.ear_faults new.ear) first.later rose)
    failed_on (inl failed) = by_first (first.failed failed) where
      by_first : (old.end ≡ loop_end.Failed) ⊎ Rose (Ear.ear_faults old.ear) (Ear.ear_faults mid.ear) → (old.end ≡ loop_end.Failed) ⊎ Rose (Ear.ear_faults old.ear) (Ear.ear_faults new.ear)
      by_first (inl was) = inl was
      by_first (inr rose) = inr (rose_on (Ear.ear_faults old.ear) (Ear.ear_faults mid.ear) (Ear.ear_faults new.ear) rose then_.later)

    over_on : old.end ≢ loop_end.Done → (new ≡ old) × (first.visits ++ then_.visits ≡ [])
    over_on ended =
        let same = first.over ended in
        let again = then_.over (λ done. ended (sym (ap (λ (l : LoopView E K). l.end) same.0) ∙ done)) in
        (again.0 ∙ same.0, subst (λ z. z ++ then_.visits ≡ []) (sym same.1) again.1)

    pub runs_on : Ran others old new
    runs_on = record {
      visits = first.visits ++ then_.visits;
      came = folds_on (IsVisit Attended) (stands Ear old) (stands Ear mid) (stands Ear new) first.visits then_.visits first.came then_.came;
      served = plus_on old.served mid.served new.served _ _ _ first.served then_.served (sum_by-append (λ v. count_of v.session) first.visits then_.visits);
      amount = plus_on old.pass.amount mid.pass.amount new.pass.amount _ _ _ first.amount then_.amount (sum_by-append (λ v. rows_of v.session) first.visits then_.visits);
      numbers_same = then_.numbers_same ∙ first.numbers_same;
      later = omega (arith, first.later, then_.later);
      failed = λ is. failed_on (then_.failed is);
      spent = λ is. spent_on (then_.spent is);
      unsettled = λ is. unsettled_on (then_.unsettled is);
      ends = ends_on;
      ends_shut = ends_shut_on;
      woke = λ done. woke_on (first.woke done);
      over = over_on;
      quit = λ shut. quit_on (then_.quit shut);
    }

  pub all_run_on : (others : ℕ) (old mid new : List (LoopView E K)) → AllZip (Ran others) old mid → AllZip (Ran others) mid new → AllZip (Ran others) old new
  all_run_on others [] [] [] first then_ = tt
  all_run_on others (a ∷ old) (b ∷ mid) (c ∷ new) first then_ = (runs_on others a b c first.0 then_.0, all_run_on others old mid new first.1 then_.1)
  all_run_on others [] (b ∷ mid) new first then_ = absurd first
  all_run_on others (a ∷ old) [] new first then_ = absurd first
  all_run_on others [] [] (c ∷ new) first then_ = absurd then_
  all_run_on others (a ∷ old) (b ∷ mid) [] first then_ = absurd then_

  -- ## One step

  module _ (others : ℕ) (old new : LoopView E K) (waits : old.end ≡ loop_end.Done) (numbers : new.numbers ≡ old.numbers) (later : Ear.ear_faults old.ear ≤ Ear.ear_faults new.ear)
      (failed : new.end ≡ loop_end.Failed → Rose (Ear.ear_faults old.ear) (Ear.ear_faults new.ear))
      (woke : IsNudged (Ear.nudged old.ear) (nudges_at new.end others) (Ear.nudged new.ear)) where
    -- no connection came
    pub runs_none : stands Ear new ≡ stands Ear old → new.served ≡ old.served → new.pass.amount ≡ old.pass.amount → new.end ≢ loop_end.Spent → new.end ≢ loop_end.Unsettled → new.shut ≡ old.shut
        → Ran others old new
    runs_none same served amount unspent settled shut = record {
      visits = [];
      came = sym same;
      served = served ∙ plus_none old.served;
      amount = amount ∙ plus_none old.pass.amount;
      numbers_same = numbers;
      later = later;
      failed = λ is. inr (failed is);
      spent = λ is. absurd (unspent is);
      unsettled = λ is. absurd (settled is);
      ends = λ some. absurd some;
      ends_shut = λ some. absurd some;
      woke = λ done. woke;
      over = λ ended. absurd (ended waits);
      quit = λ is. inl (sym shut ∙ is);
    }

    -- one did
    pub runs_one : (v : Visit C) → IsVisit Attended (stands Ear old) v (stands Ear new) → new.served ≡ old.served + count_of v.session
        → new.pass.amount ≡ old.pass.amount + rows_of v.session → (new.end ≡ loop_end.Spent → v.session ≡ None) → (new.end ≡ loop_end.Unsettled → IsUnsettled v.session)
        → (IsUnsettled v.session → IsHalted new.end) → (IsShutdown v.session → new.end ≢ loop_end.Done)
        → (new.shut ≡ true → (old.shut ≡ true) ⊎ (IsShutdown v.session × (new.end ≢ loop_end.Done))) → Ran others old new
    runs_one v visit served amount spent unsettled ends ends_shut quit = record {
      visits = v ∷ [];
      came = one_visit (stands Ear old) (stands Ear new) v visit;
      served = served ∙ ap (λ n. old.served + n) (sym (sum_one (λ u. count_of u.session) v));
      amount = amount ∙ ap (λ n. old.pass.amount + n) (sym (sum_one (λ u. rows_of u.session) v));
      numbers_same = numbers;
      later = later;
      failed = λ is. inr (failed is);
      spent = λ is. inr ([], v, refl, spent is);
      unsettled = λ is. inr (inl (unsettled is));
      ends = λ some. ends (among_one (λ u. IsUnsettled u.session) v some);
      ends_shut = λ some. ends_shut (among_one (λ u. IsShutdown u.session) v some);
      woke = λ done. woke;
      over = λ ended. absurd (ended waits);
      quit = λ is. by_cause (quit is);
    }
      where
        by_cause : (old.shut ≡ true) ⊎ (IsShutdown v.session × (new.end ≢ loop_end.Done)) → (old.shut ≡ true) ⊎ (HasShutdown (v ∷ []) × (new.end ≢ loop_end.Done))
        by_cause (inl was) = inl was
        by_cause (inr (down, ended)) = inr (inl down, ended)

  -- a connection that was accepted, and left
  pub left_visit : (ear ear1 ear2 : E) (clock clock' : K) (v : Visit C) (stand : Standing C K) → stand ≡ standing Ear ear2 clock' → GivesFirst (Ear.heard ear) v.came (Ear.heard ear1)
      → Ear.heard ear2 ≡ Ear.heard ear1 → Ear.kept ear1 ≡ Ear.kept ear → Keeps (Ear.kept ear1) (v.gone ∷ []) (Ear.kept ear2)
      → MatchOption v.session ((v.gone ≡ v.came) × (clock' ≡ clock)) (λ s. Attended s clock v.came clock' v.gone) → IsVisit Attended (standing Ear ear clock) v stand
  left_visit ear ear1 ear2 clock clock' v stand is gave heard kept left had = subst (IsVisit Attended (standing Ear ear clock) v) (sym is) (record {
    gave = subst (GivesFirst (Ear.heard ear) v.came) (sym heard) gave;
    had = had;
    left = subst (λ k. Keeps k (v.gone ∷ []) (Ear.kept ear2)) kept left;
  })

  -- An ear that tells the same stands as it stood.
  pub stands_same : (ear ear' : E) (clock : K) → Ear.heard ear' ≡ Ear.heard ear → Ear.kept ear' ≡ Ear.kept ear → standing Ear ear' clock ≡ standing Ear ear clock
  stands_same ear ear' clock heard kept = ap (λ h. stand_of h (Ear.kept ear') clock) heard ∙ ap (λ k. stand_of (Ear.heard ear) k clock) kept

  -- each loop has as many numbers after its run as before it
  pub numbers_kept : (others n : ℕ) (old new : List (LoopView E K)) → AllZip (Ran others) old new → All (IsFresh n) old → All (λ it. it.numbers ≡ n) new
  numbers_kept others n old new ran fresh k d less =
      let before : k < length old = omega (arith, less, length_all_zip (Ran others) old new ran) in
      (AllZip-get_or (Ran others) old new k d d ran before).numbers_same ∙ (fresh k d before).numbers_are
