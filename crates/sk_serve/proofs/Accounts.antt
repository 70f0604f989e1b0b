-- What came of the ears of a server, by the loops that had them.
use Rattle.std.proofs.Common.{◌≡◌, ◌≢◌, ℕ, ◌-◌, ◌/◌, ◌^◌, ◌⊎◌, List, [], ◌∷◌, refl, sym, ap, ◌∙◌, subst, arith, inl, inr, true, zero, suc}
use Rattle.std.specs.Prelude.{All, map, reverse}
use Rattle.std.specs.List.{AllByRecursion, AllZip, Any, sum_by}
use Rattle.std.proofs.lemmas.List.{reverse-reverse}
use Rattle.sk_base.specs.Outside.{Rose}
use Rattle.sk_edge.specs.Doors.{IsNudged}
use Rattle.sk_edge.specs.declared.door.Ear as an_ear
use Rattle.sk_serve.specs.declared.accept_loop.LoopEnd.{LoopEnd}
use Rattle.sk_serve.specs.declared.accept_loop.LoopEnd.TheVariants as loop_end
use Rattle.sk_serve.specs.declared.serve_end.ServeFault.{ServeFault}
use Rattle.sk_serve.specs.declared.serve_end.ServeFault.TheVariants as fault
use Rattle.sk_serve.specs.Server.{Account, Became, EarFailed, EndedAt, EndsUnsettled, HaveRun, IsAccount, IsFresh, IsFull, IsSettled, IsShut, IsUsed, IsUsedUp, LoopView, NoneAt, Runs, nudges_at}
use Rattle.sk_serve.specs.Attending.{Attending}
use Rattle.sk_serve.specs.Visits.{Among, EndsUnserved, HasShutdown, HasUnsettled, acknowledged_in, served_in}
use Rattle.sk_serve.proofs.Lists.{all_turned, among_back, map_turned, sum_turned, sums_same}

nudged_at : (others : ℕ) (end : LoopEnd) (P : ℕ → Type 0) → end ≢ loop_end.Done → P (nudges_at end others) → P others
nudged_at others loop_end.Done P ended nudged = absurd (ended refl)
nudged_at others loop_end.Shutdown P ended nudged = nudged
nudged_at others loop_end.Failed P ended nudged = nudged
nudged_at others loop_end.Spent P ended nudged = nudged
nudged_at others loop_end.Memory P ended nudged = nudged
nudged_at others loop_end.Unsettled P ended nudged = nudged

module _ {E C K : Type 0} (Ear : an_ear.Ghosts E C) (Attended : Attending C K) (others n : ℕ) where
  abbrev Ran : LoopView E K → LoopView E K → Type 0
  Ran = Runs Ear Attended others

  -- what came of a loop's ear
  abbrev account : (a b : LoopView E K) → Ran a b → Account E C K
  account a b r = record { ear = a.ear; ear' = b.ear; clock = a.clock; clock' = b.clock; visits = r.visits }

  abbrev pub accounts : (old new : List (LoopView E K)) → AllZip Ran old new → List (Account E C K)
  accounts [] [] ran = []
  accounts (a ∷ old) (b ∷ new) ran = account a b ran.0 ∷ accounts old new ran.1
  accounts [] (b ∷ new) ran = absurd ran
  accounts (a ∷ old) [] ran = absurd ran

  abbrev rest_fresh : (a : LoopView E K) (old : List (LoopView E K)) → All (IsFresh n) (a ∷ old) → All (IsFresh n) old
  rest_fresh a old fresh = λ i d below. fresh (suc i) d (omega (arith, below))

  at_first : (old new : List (LoopView E K)) (ran : AllZip Ran old new) → map (λ a. a.ear) (accounts old new ran) ≡ map (λ l. l.ear) old
  at_first [] [] ran = refl
  at_first (a ∷ old) (b ∷ new) ran = ap (λ ears. a.ear ∷ ears) (at_first old new ran.1)
  at_first [] (b ∷ new) ran = absurd ran
  at_first (a ∷ old) [] ran = absurd ran

  at_last : (old new : List (LoopView E K)) (ran : AllZip Ran old new) → map (λ a. a.ear') (accounts old new ran) ≡ map (λ l. l.ear) new
  at_last [] [] ran = refl
  at_last (a ∷ old) (b ∷ new) ran = ap (λ ears. b.ear ∷ ears) (at_last old new ran.1)
  at_last [] (b ∷ new) ran = absurd ran
  at_last (a ∷ old) [] ran = absurd ran

  each : (old new : List (LoopView E K)) (ran : AllZip Ran old new) → AllByRecursion (IsAccount Ear Attended) (accounts old new ran)
  each [] [] ran = tt
  each (a ∷ old) (b ∷ new) ran = (ran.0.came, each old new ran.1)
  each [] (b ∷ new) ran = absurd ran
  each (a ∷ old) [] ran = absurd ran

  served_by : (a b : LoopView E K) (r : Ran a b) → IsFresh n a → served_in r.visits ≡ b.served
  served_by a b r fresh = omega (arith, r.served, fresh.served_are)

  acknowledged_by : (a b : LoopView E K) (r : Ran a b) → IsFresh n a → acknowledged_in r.visits ≡ b.pass.amount
  acknowledged_by a b r fresh = omega (arith, r.amount, fresh.amount_is)

  served_all : (old new : List (LoopView E K)) (ran : AllZip Ran old new) → All (IsFresh n) old → sum_by (λ a. served_in a.visits) (accounts old new ran) ≡ sum_by (λ l. l.served) new
  served_all [] [] ran fresh = refl
  served_all (a ∷ old) (b ∷ new) ran fresh =
      sums_same (λ a. served_in a.visits) (λ l. l.served) (account a b ran.0) (accounts old new ran.1) b new
      (served_by a b ran.0 (fresh 0 a (omega arith))) (served_all old new ran.1 (rest_fresh a old fresh))
  served_all [] (b ∷ new) ran fresh = absurd ran
  served_all (a ∷ old) [] ran fresh = absurd ran

  acknowledged_all : (old new : List (LoopView E K)) (ran : AllZip Ran old new) → All (IsFresh n) old → sum_by (λ a. acknowledged_in a.visits) (accounts old new ran) ≡ sum_by (λ l. l.pass.amount) new
  acknowledged_all [] [] ran fresh = refl
  acknowledged_all (a ∷ old) (b ∷ new) ran fresh =
      sums_same (λ a. acknowledged_in a.visits) (λ l. l.pass.amount) (account a b ran.0) (accounts old new ran.1) b new
      (acknowledged_by a b ran.0 (fresh 0 a (omega arith))) (acknowledged_all old new ran.1 (rest_fresh a old fresh))
  acknowledged_all [] (b ∷ new) ran fresh = absurd ran
  acknowledged_all (a ∷ old) [] ran fresh = absurd ran

  full_all : (bound : ℕ) (old new : List (LoopView E K)) (ran : AllZip Ran old new) → All (IsFresh n) old → All (λ l. l.served ≡ bound) new
      → AllByRecursion (λ a. served_in a.visits ≡ bound) (accounts old new ran)
  full_all bound [] [] ran fresh full = tt
  full_all bound (a ∷ old) (b ∷ new) ran fresh full = (
    served_by a b ran.0 (fresh 0 a (omega arith)) ∙ full 0 b (omega arith),
    full_all bound old new ran.1 (rest_fresh a old fresh) (λ i d below. full (suc i) d (omega (arith, below))),
  )
  full_all bound [] (b ∷ new) ran fresh full = absurd ran
  full_all bound (a ∷ old) [] ran fresh full = absurd ran

  -- one loop after its run, which hadn't run before
  among_all : (P : LoopView E K → Type 0) (Q : Account E C K → Type 0) → ((a b : LoopView E K) (r : Ran a b) → IsFresh n a → P b → Q (account a b r))
      → (old new : List (LoopView E K)) (ran : AllZip Ran old new) → All (IsFresh n) old → Any P new → Among Q (accounts old new ran)
  among_all P Q one [] [] ran fresh (k, x, less, is, p) = absurd (omega (arith, less))
  among_all P Q one (a ∷ old) (b ∷ new) ran fresh (zero, x, less, is, p) = inl (one a b ran.0 (fresh 0 a (omega arith)) (subst P (sym is) p))
  among_all P Q one (a ∷ old) (b ∷ new) ran fresh (suc k, x, less, is, p) = inr (among_all P Q one old new ran.1 (rest_fresh a old fresh) (k, x, omega (arith, less), is, p))
  among_all P Q one [] (b ∷ new) ran fresh some = absurd ran
  among_all P Q one (a ∷ old) [] ran fresh some = absurd ran

  -- ## Of one loop

  failed_one : (a b : LoopView E K) (r : Ran a b) → IsFresh n a → b.end ≡ loop_end.Failed → EarFailed Ear (account a b r)
  failed_one a b r fresh is = by_cause (r.failed is) where
    by_cause : (a.end ≡ loop_end.Failed) ⊎ Rose (Ear.ear_faults a.ear) (Ear.ear_faults b.ear) → Rose (Ear.ear_faults a.ear) (Ear.ear_faults b.ear)
    by_cause (inl was) = absurd (cc (sym fresh.end_is ∙ was))
    by_cause (inr rose) = rose

  used_one : (numbers : ℕ) → n ≡ numbers → (a b : LoopView E K) (r : Ran a b) → IsFresh n a → IsUsed b → IsUsedUp numbers (account a b r)
  used_one numbers same a b r fresh (spent, all) = (served_by a b r fresh ∙ all ∙ r.numbers_same ∙ fresh.numbers_are ∙ same, by_cause (r.spent spent)) where
    by_cause : (a.end ≡ loop_end.Spent) ⊎ EndsUnserved r.visits → EndsUnserved r.visits
    by_cause (inl was) = absurd (cc (sym fresh.end_is ∙ was))
    by_cause (inr last) = last

  unsettled_one : (a b : LoopView E K) (r : Ran a b) → IsFresh n a → b.end ≡ loop_end.Unsettled → EndsUnsettled (account a b r)
  unsettled_one a b r fresh is = by_cause (r.unsettled is) where
    by_cause : (a.end ≡ loop_end.Unsettled) ⊎ HasUnsettled r.visits → HasUnsettled r.visits
    by_cause (inl was) = absurd (cc (sym fresh.end_is ∙ was))
    by_cause (inr some) = some

  settled_one : (a b : LoopView E K) (r : Ran a b) → b.end ≢ loop_end.Failed → b.end ≢ loop_end.Unsettled → EndsUnsettled (account a b r) → ⊥
  settled_one a b r unfailed settled some = by_end (r.ends some) where
    by_end : (b.end ≡ loop_end.Unsettled) ⊎ (b.end ≡ loop_end.Failed) → ⊥
    by_end (inl is) = settled is
    by_end (inr is) = unfailed is

  all_settled : (old new : List (LoopView E K)) (ran : AllZip Ran old new) → NoneAt loop_end.Failed new → NoneAt loop_end.Unsettled new → Among EndsUnsettled (accounts old new ran) → ⊥
  all_settled [] [] ran unfailed settled some = some
  all_settled (a ∷ old) (b ∷ new) ran unfailed settled (inl one) = settled_one a b ran.0 (unfailed 0 b (omega arith)) (settled 0 b (omega arith)) one
  all_settled (a ∷ old) (b ∷ new) ran unfailed settled (inr more) =
      all_settled old new ran.1 (λ i d below. unfailed (suc i) d (omega (arith, below))) (λ i d below. settled (suc i) d (omega (arith, below))) more
  all_settled [] (b ∷ new) ran unfailed settled some = absurd ran
  all_settled (a ∷ old) [] ran unfailed settled some = absurd ran

  shut_one : (count : ℕ) → others ≡ count → (a b : LoopView E K) (r : Ran a b) → IsFresh n a → b.shut ≡ true → IsShut Ear count (account a b r)
  shut_one count same a b r fresh shut = by_cause (r.quit shut) where
    by_cause : (a.shut ≡ true) ⊎ (HasShutdown r.visits × (b.end ≢ loop_end.Done)) → IsShut Ear count (account a b r)
    by_cause (inl was) = absurd (cc (sym fresh.shut_is ∙ was))
    by_cause (inr (some, ended)) =
        (some, subst (λ k. IsNudged (Ear.nudged a.ear) k (Ear.nudged b.ear)) same (nudged_at others b.end (λ k. IsNudged (Ear.nudged a.ear) k (Ear.nudged b.ear)) ended (r.woke fresh.end_is)))

  -- ## Of all ears, which stand the other way round

  module _ (old new : List (LoopView E K)) (ran : AllZip Ran old new) (fresh : All (IsFresh n) old) where
    pub became : (ears ears' : List E) (P : List (Account E C K) → Type 0) → map (λ l. l.ear) old ≡ reverse ears → ears' ≡ reverse (map (λ l. l.ear) new)
        → P (reverse (accounts old new ran)) → Became Ear Attended ears ears' P
    became ears ears' P first last p = record {
      accounts = reverse (accounts old new ran);
      at_first = map_turned (λ a. a.ear) (accounts old new ran) ∙ ap reverse (at_first old new ran ∙ first) ∙ reverse-reverse ears;
      at_last = map_turned (λ a. a.ear') (accounts old new ran) ∙ ap reverse (at_last old new ran) ∙ sym last;
      each = all_turned (IsAccount Ear Attended) (accounts old new ran) (each old new ran);
      holds = p;
    }

    pub some_failed : Any (λ it. it.end ≡ loop_end.Failed) new → Among (EarFailed Ear) (reverse (accounts old new ran))
    some_failed some = among_back (EarFailed Ear) (accounts old new ran) (among_all (λ l. l.end ≡ loop_end.Failed) (EarFailed Ear) failed_one old new ran fresh some)

    pub some_used : (numbers : ℕ) → n ≡ numbers → Any (λ it. IsUsed it) new → Among (IsUsedUp numbers) (reverse (accounts old new ran))
    some_used numbers same some = among_back (IsUsedUp numbers) (accounts old new ran) (among_all IsUsed (IsUsedUp numbers) (used_one numbers same) old new ran fresh some)

    pub some_unsettled : Any (λ it. it.end ≡ loop_end.Unsettled) new → Among EndsUnsettled (reverse (accounts old new ran))
    some_unsettled some = among_back EndsUnsettled (accounts old new ran) (among_all (λ l. l.end ≡ loop_end.Unsettled) EndsUnsettled unsettled_one old new ran fresh some)

    none_unsettled : NoneAt loop_end.Failed new × NoneAt loop_end.Unsettled new → Among EndsUnsettled (reverse (accounts old new ran)) → ⊥
    none_unsettled whole some =
        all_settled old new ran whole.0 whole.1 (subst (Among EndsUnsettled) (reverse-reverse (accounts old new ran)) (among_back EndsUnsettled (reverse (accounts old new ran)) some))

    done_by : (bound count : ℕ) → others ≡ count → IsSettled bound new → IsFull bound (reverse (accounts old new ran)) ⊎ Among (IsShut Ear count) (reverse (accounts old new ran))
    done_by bound count same (inl (some, all)) = inl (some, all_turned (λ a. served_in a.visits ≡ bound) (accounts old new ran) (full_all bound old new ran fresh all))
    done_by bound count same (inr shut) =
        inr (among_back (IsShut Ear count) (accounts old new ran) (among_all (λ l. l.shut ≡ true) (IsShut Ear count) (shut_one count same) old new ran fresh shut))

    pub all_run : (bound loops sessions rows : ℕ) → others ≡ loops - 1 → IsSettled bound new → NoneAt loop_end.Failed new × NoneAt loop_end.Unsettled new
        → sessions ≡ sum_by (λ l. l.served) new → rows ≡ sum_by (λ l. l.pass.amount) new → HaveRun Ear bound loops sessions rows (reverse (accounts old new ran))
    all_run bound loops sessions rows same settled whole sessions_are rows_are = record {
      sessions_are = sessions_are ∙ sym (sum_turned (λ a. served_in a.visits) (accounts old new ran) ∙ served_all old new ran fresh);
      rows_are = rows_are ∙ sym (sum_turned (λ a. acknowledged_in a.visits) (accounts old new ran) ∙ acknowledged_all old new ran fresh);
      done = done_by bound (loops - 1) same settled;
      settled = none_unsettled whole;
    }

    pub by_fault : (loops : ℕ) (ears ears' : List E) (f : ServeFault) → n ≡ (2 ^ 32 - 2) / loops → map (λ l. l.ear) old ≡ reverse ears → ears' ≡ reverse (map (λ l. l.ear) new)
        → (f ≡ fault.Failed → Any (λ it. it.end ≡ loop_end.Failed) new) → (f ≡ fault.Spent → Any (λ it. IsUsed it) new)
        → (f ≡ fault.Unsettled → Any (λ it. it.end ≡ loop_end.Unsettled) new) → EndedAt Ear Attended loops ears ears' f
    by_fault loops ears ears' fault.Failed same first last failed spent unsettled = became ears ears' (Among (EarFailed Ear)) first last (some_failed (failed refl))
    by_fault loops ears ears' fault.Spent same first last failed spent unsettled =
        became ears ears' (Among (IsUsedUp ((2 ^ 32 - 2) / loops))) first last (some_used ((2 ^ 32 - 2) / loops) same (spent refl))
    by_fault loops ears ears' fault.Unsettled same first last failed spent unsettled = became ears ears' (Among EndsUnsettled) first last (some_unsettled (unsettled refl))
    by_fault loops ears ears' fault.Memory same first last failed spent unsettled = tt
