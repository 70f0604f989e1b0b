-- What a log that was opened stands for.
use Rattle.std.proofs.Common.{◌≡◌, ◌≤◌, ◌^◌, inl, inr, refl, sym, subst, List, [], ◌∷◌, ◌++◌, ℕ, length}
use Rattle.sk_disk.specs.Images.{Images}
use Rattle.sk_log.specs.File.{AllStood, Begins, Body, IsAt, Stood, framed, records}
use Rattle.sk_log.specs.Reading.{Blames, IsOpened, RunsAll}
use Rattle.sk_log.specs.declared.fault.LogFault.{LogFault}
use Rattle.sk_log.specs.declared.fault.LogFault.TheVariants.{Disk, NotALog, Damaged, Full, Memory}
use Rattle.sk_log.proofs.Blaming.{stood_once}
use Rattle.sk_model.specs.declared.limits.Limits.{Limits}
use Rattle.sk_model.specs.World.{World, first}
use Rattle.sk_model.specs.Event.{Step, world_after}
use Rattle.sk_model.specs.Replay.{Entry, Replays}
use Rattle.sk_model.proofs.Replay.Replaying.{replay}
use Rattle.sk_aof.specs.Accepted.{Refuses, Runs}
use Rattle.sk_aof.specs.Stored.{AllAccepted, AllMayStand, HoldsRun, IsOutside, IsSameInTime, IsStored, bodies_in}
use Rattle.sk_aof.proofs.Accepting.{all_once, bodies_run, entries_of, logged_accepted, next_of}

pub stored_of : (limits : Limits) (reads may_leave : Images) (gate : ℕ) (w : World) → IsOpened Runs reads may_leave gate (first limits) w → IsStored limits reads may_leave gate w
stored_of limits reads may_leave gate w o =
    let found = entries_of (first limits) w o.bodies o.ran in
    record {
      entries = found.0;
      lead = found.1.0;
      read = subst (λ (bodies : List Body). AllStood bodies reads) (sym found.1.1) o.read;
      ready = λ c is. subst (λ (bodies : List Body). IsAt bodies gate may_leave) (sym found.1.1) (o.ready c is);
    }

-- a log begins as one
stood_begins : (bodies : List Body) (c : List ℕ) → Stood bodies c → Begins c
stood_begins [] c s = record { byte = s.gate; rest = s.rest; is = s.is }
stood_begins (body ∷ bodies) c s = record {
  byte = 1;
  rest = (framed body ++ records bodies) ++ (s.gate ∷ s.rest);
  is = s.is;
}

pub outside : (e : LogFault) → (e ≡ NotALog → ⊥) → ((at : ℕ) → e ≡ Damaged at → ⊥) → (e ≡ Full → ⊥) → IsOutside e
outside Disk no_log damaged full = inl refl
outside NotALog no_log damaged full = absurd (no_log refl)
outside (Damaged at) no_log damaged full = absurd (damaged at refl)
outside Full no_log damaged full = absurd (full refl)
outside Memory no_log damaged full = inr refl

module _ (limits : Limits) (steps : List Step) (reads : Images) (h : HoldsRun limits steps reads) where
  again : Replays limits h.entries (world_after (first limits) steps)
  again = replay limits steps h.entries h.run h.logged

  runs_again : RunsAll Runs (first limits) (bodies_in h.entries) (world_after (first limits) again.steps)
  runs_again =
      let accepted = logged_accepted (first limits) steps h.entries h.run h.logged in
      subst (λ (entries : List Entry). RunsAll Runs (first limits) (bodies_in entries) (world_after (first limits) again.steps)) again.told_is
      (bodies_run (first limits) again.steps again.served (subst AllMayStand (sym again.told_is) h.may) (subst AllAccepted (sym again.told_is) accepted))

  pub holds_store : (may_leave : Images) (gate : ℕ) (w : World) → IsOpened Runs reads may_leave gate (first limits) w → IsSameInTime (world_after (first limits) steps) w
  holds_store may_leave gate w o =
      let same = stood_once o.bodies (bodies_in h.entries) h.file (o.read h.file h.there) h.stood in
      let ran = subst (λ (bodies : List Body). RunsAll Runs (first limits) bodies w) same o.ran in
      let w_is = all_once (first limits) w (world_after (first limits) again.steps) (bodies_in h.entries) ran runs_again in
      subst (λ (v : World). IsSameInTime (world_after (first limits) steps) v) (sym w_is) again.same

  pub never_damaged : ((c : List ℕ) → reads c → length c ≤ 2 ^ 60 → Blames Runs Refuses (first limits) c) → ⊥
  never_damaged blames =
      let blamed = blames h.file h.there h.short (bodies_in h.entries) h.stood in
      let end = world_after (first limits) again.steps in
      let ran = subst (λ (bodies : List Body). RunsAll Runs (first limits) bodies end) blamed.is runs_again in
      let next = (next_of (first limits) end blamed.state blamed.done blamed.more blamed.body ran blamed.ran).1 in
      cc (blamed.refused next.event next.may next.is next.accepts.outcome next.accepts.served, next.accepts.accepted)

  pub always_a_log : ((c : List ℕ) → reads c → Begins c → ⊥) → ⊥
  always_a_log none = none h.file h.there (stood_begins (bodies_in h.entries) h.file h.stood)
