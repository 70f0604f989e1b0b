-- How a server ends, by its door and by the fault of its loops.
use Rattle.std.proofs.Common.{◌≡◌, ℕ, ◌-◌, ◌/◌, ◌^◌, List, [], ◌∷◌, length, Ok, Option, None, Some, false, suc, inl, inr, arith, sym, subst}
use Rattle.std.specs.Prelude.{All, MatchOption}
use Rattle.sk_desk.specs.State.{IsBalanced}
use Rattle.sk_edge.specs.Collected.{Keeps, MakesRoom}
use Rattle.sk_edge.specs.Doors.{Listens}
use Rattle.sk_edge.specs.declared.door.Door as a_door
use Rattle.sk_edge.specs.declared.door.Ear as an_ear
use Rattle.sk_serve.specs.declared.serve_end.ServeEnd.{ServeEnd}
use Rattle.sk_serve.specs.declared.serve_end.ServeEnd.TheVariants as serve_end
use Rattle.sk_serve.specs.declared.serve_end.Served.{Served}
use Rattle.sk_serve.specs.declared.serve_end.ServeFault.{ServeFault}
use Rattle.sk_serve.specs.declared.serve_end.ServeFault.TheVariants as fault
use Rattle.sk_serve.specs.Ending.{end_of}
use Rattle.sk_serve.specs.Server.{Account, Became, EarFailed, EndedAt, EndsUnsettled, HasEnded, HaveEnded, HaveRun, IsAccount, IsServed, IsUsedUp, LoopsEnded, Serves}
use Rattle.sk_serve.specs.Attending.{Attending, Summary}
use Rattle.sk_serve.specs.Visits.{Among, AreVisits, HasUnsettled, IsUnsettled, Standing, Visit}

-- ## Where replies don't wait, nothing is unsettled

module _ {E C K : Type 0} (Ear : an_ear.Ghosts E C) (Attended : Attending C K) (calm : (s : Summary) (k : K) (c : C) (k' : K) (c' : C) → Attended s k c k' c' → s.how.unsettled ≡ false) where
  calm_one : (session : Option Summary) (Unserved : Type 0) (k : K) (c : C) (k' : K) (c' : C) → MatchOption session Unserved (λ s. Attended s k c k' c') → IsUnsettled session → ⊥
  calm_one None Unserved k c k' c' had is = is
  calm_one (Some s) Unserved k c k' c' had is = cc (calm s k c k' c' had, is)

  calm_visits : (old new : Standing C K) (visits : List (Visit C)) → AreVisits Attended old visits new → HasUnsettled visits → ⊥
  calm_visits old new [] came some = some
  calm_visits old new (v ∷ visits) came (inl one) = calm_one v.session _ old.clock v.came came.0.clock v.gone came.1.had one
  calm_visits old new (v ∷ visits) came (inr more) = calm_visits came.0 new visits came.2 more

  never_among : (accounts : List (Account E C K)) → All (IsAccount Ear Attended) accounts → Among EndsUnsettled accounts → ⊥
  never_among [] all some = some
  never_among (a ∷ accounts) all (inl one) = calm_visits _ _ a.visits (all 0 a (omega arith)) one
  never_among (a ∷ accounts) all (inr more) = never_among accounts (λ i d below. all (suc i) d (omega (arith, below))) more

-- ## What came of ears

module _ {E C K : Type 0} (Ear : an_ear.Ghosts E C) (Attended : Attending C K) (ears ears' : List E) where
  pub became_so : (P Q : List (Account E C K) → Type 0) → ((accounts : List (Account E C K)) → P accounts → Q accounts) → Became Ear Attended ears ears' P → Became Ear Attended ears ears' Q
  became_so P Q law came = record { accounts = came.accounts; at_first = came.at_first; at_last = came.at_last; each = came.each; holds = law came.accounts came.holds }

  pub served_with : (bound loops sessions rows : ℕ) (s : Served) → s.sessions ≡ sessions → s.acknowledged ≡ rows → s.acknowledged ≡ s.tally.outside → IsBalanced s.tally
      → LoopsEnded Ear Attended bound loops rows ears ears' (Ok sessions) → HaveEnded Ear Attended bound loops ears ears' (Ok s)
  served_with bound loops sessions rows s sessions_are rows_are outside balanced came =
      became_so (HaveRun Ear bound loops sessions rows) (IsServed Ear bound loops s) (λ accounts ran. record {
        ran = subst (λ n. HaveRun Ear bound loops n s.acknowledged accounts) (sym sessions_are) (subst (λ n. HaveRun Ear bound loops sessions n accounts) (sym rows_are) ran);
        outside = outside;
        balanced = balanced;
      }) came

-- ## A server's end

module _ {N E C K : Type 0} (Door : a_door.Ghosts N C E) (Ear : an_ear.Ghosts E C) (Attended : Attending C K)
    (bound loops count : ℕ) (old mid new : N) (ears ears' : List E) (many : length ears ≡ loops) (counted : count ≡ loops)
    (hears : Listens Ear.heard Ear.kept Ear.nudged (Door.heard old) ears (Door.heard mid)) (same : Door.heard new ≡ Door.heard mid)
    (made : MakesRoom (Door.gathered old) loops (Door.gathered mid)) (gathers : Keeps (Door.gathered mid) ears' (Door.gathered new)) where
  -- The ears go back to the door.
  pub serves : (P : List (Account E C K) → Type 0) → Became Ear Attended ears ears' P → Serves Door Ear Attended loops old new P
  serves P became = record {
    ears = ears;
    ears' = ears';
    room = Door.gathered mid;
    many = many;
    hears = subst (λ heard. Listens Ear.heard Ear.kept Ear.nudged (Door.heard old) ears heard) (sym same) hears;
    made = made;
    gathers = gathers;
    became = became;
  }

  pub served_at : (s : Served) → HaveEnded Ear Attended bound count ears ears' (Ok s) → HasEnded Door Ear Attended bound loops old new (serve_end.Served s)
  served_at s came = serves (IsServed Ear bound loops s) (subst (λ n. HaveEnded Ear Attended bound n ears ears' (Ok s)) counted came)

  module _ (calm : (s : Summary) (k : K) (c : C) (k' : K) (c' : C) → Attended s k c k' c' → s.how.unsettled ≡ false) where
    by_fault : (f : ServeFault) → EndedAt Ear Attended loops ears ears' f → HasEnded Door Ear Attended bound loops old new (end_of f)
    by_fault fault.Failed came = inr (serves (Among (EarFailed Ear)) came)
    by_fault fault.Spent came = serves (Among (IsUsedUp ((2 ^ 32 - 2) / loops))) came
    by_fault fault.Memory came = tt
    by_fault fault.Unsettled came = absurd (never_among Ear Attended calm came.accounts came.each came.holds)

    pub ended_at : (f : ServeFault) (end : ServeEnd) → end ≡ end_of f → EndedAt Ear Attended count ears ears' f → HasEnded Door Ear Attended bound loops old new end
    ended_at f end is came = subst (HasEnded Door Ear Attended bound loops old new) (sym is) (by_fault f (subst (λ n. EndedAt Ear Attended n ears ears' f) counted came))
