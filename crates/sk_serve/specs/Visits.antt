-- What came of a connection that an ear gave, and what several of them add up to.
use Rattle.std.specs.Prelude.{◌≡◌, ◌⊎◌, ◌++◌, ℕ, List, [], ◌∷◌, Option, None, Some, MatchOption, true}
use Rattle.std.specs.List.{FoldsTo, sum_by}
use Rattle.sk_edge.specs.declared.door.Ear as an_ear
use Rattle.sk_edge.specs.Collected.{Collected, Keeps}
use Rattle.sk_edge.specs.Doors.{GivesFirst}
use Rattle.sk_talk.specs.declared.talk_end.TalkEnd.TheVariants as end
use Rattle.sk_serve.specs.Attending.{Attending, Summary}

-- a connection as an ear gave it and as it was left to the ear, and what its session came to, where it had one
pub record Visit (C : Type 0) : Type 0 where
  pub came : C
  pub gone : C
  pub session : Option Summary

-- the connections that an ear is going to give, those that were left to it, and the clock beside it
pub record Standing (C K : Type 0) : Type 0 where
  pub heard : Option (List C)
  pub kept : Option (Collected C)
  pub clock : K

abbrev pub standing : {E C K : Type 0} → an_ear.Ghosts E C → E → K → Standing C K
standing Ear ear clock = record { heard = Ear.heard ear; kept = Ear.kept ear; clock = clock }

module _ {C K : Type 0} (Attended : Attending C K) where
  -- The ear gave the connection. That had its session at the clock; or none, and is as it came. Then it was left to the ear.
  pub record IsVisit (old : Standing C K) (v : Visit C) (new : Standing C K) : Type 0 where
    pub gave : GivesFirst old.heard v.came new.heard
    pub had : MatchOption v.session ((v.gone ≡ v.came) × (new.clock ≡ old.clock)) (λ s. Attended s old.clock v.came new.clock v.gone)
    pub left : Keeps old.kept (v.gone ∷ []) new.kept

  -- These connections came, one after another.
  abbrev pub AreVisits : Standing C K → List (Visit C) → Standing C K → Type 0
  AreVisits old visits new = FoldsTo IsVisit old visits new

-- ## Several

-- this holds of one of them
abbrev pub Among : {T : Type 0} → (T → Type 0) → List T → Type 0
Among P [] = ⊥
Among P (x ∷ xs) = P x ⊎ Among P xs

abbrev pub count_of : Option Summary → ℕ
count_of None = 0
count_of (Some s) = 1

abbrev pub rows_of : Option Summary → ℕ
rows_of None = 0
rows_of (Some s) = s.acknowledged

abbrev pub IsShutdown : Option Summary → Type 0
IsShutdown None = ⊥
IsShutdown (Some s) = s.how.end ≡ end.Shutdown

abbrev pub IsUnsettled : Option Summary → Type 0
IsUnsettled None = ⊥
IsUnsettled (Some s) = s.how.unsettled ≡ true

module _ {C : Type 0} where
  -- how many had a session
  abbrev pub served_in : List (Visit C) → ℕ
  served_in visits = sum_by (λ v. count_of v.session) visits

  abbrev pub acknowledged_in : List (Visit C) → ℕ
  acknowledged_in visits = sum_by (λ v. rows_of v.session) visits

  -- A session of one of them ended by SHUTDOWN.
  abbrev pub HasShutdown : List (Visit C) → Type 0
  HasShutdown visits = Among (λ v. IsShutdown v.session) visits

  -- What was done before the replies of one of them couldn't be stored.
  abbrev pub HasUnsettled : List (Visit C) → Type 0
  HasUnsettled visits = Among (λ v. IsUnsettled v.session) visits

  -- The last of them had no session.
  abbrev pub EndsUnserved : List (Visit C) → Type 0
  EndsUnserved visits = (before : List (Visit C)) × (v : Visit C) × (visits ≡ before ++ v ∷ []) × (v.session ≡ None)
