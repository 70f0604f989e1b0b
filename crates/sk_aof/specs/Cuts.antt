-- Seats that are cut off, one after another.
use Rattle.std.specs.Prelude.{◌≡◌, ℕ, List, [], ◌∷◌, map, true}
use Rattle.sk_disk.specs.Images.{Images}
use Rattle.sk_log.specs.File.{Body}
use Rattle.sk_log.specs.declared.fault.LogFault.{LogFault}
use Rattle.sk_seats.specs.Phases.{is_plain}
use Rattle.sk_model.specs.World.{World, phase_of}
use Rattle.sk_model.specs.Event.{Cut, Step, world_after}
use Rattle.sk_model.specs.Step.{cut}
use Rattle.sk_aof.specs.Appends.{Appends, LeavesFront}
use Rattle.sk_aof.specs.Bodies.{body_of}
use Rattle.sk_aof.specs.Causes.{Hinders}

abbrev pub cut_steps : List ℕ → List Step
cut_steps seats = map (λ seat. record { event = Cut seat; outcome = cut seat }) seats

abbrev pub cut_bodies : List ℕ → List Body
cut_bodies seats = map (λ seat. body_of (Cut seat)) seats

module _ {D : Type 0} (may_leave : D → Images) (moment : D → ℕ) (left_since : D → ℕ → Images) where
  -- These seats were cut off, and their cuts are in the log.
  pub record CutsOff (before : ℕ) (old_disk : D) (old : World) (gate : ℕ) (disk : D) (new : World) : Type 0 where
    pub seats : List ℕ
    pub world_is : new ≡ world_after old (cut_steps seats)
    pub appends : Appends may_leave moment left_since (cut_bodies seats) before old_disk gate disk

  -- A crash at any moment leaves the log with the first few of some cuts behind what it had.
  abbrev pub LeavesCuts : ℕ → D → D → Type 0
  LeavesCuts gate old new = (seats : List ℕ) × LeavesFront may_leave moment left_since (cut_bodies seats) gate old new

  -- These seats were cut off, and their cuts are in the log, which can't take the next.
  pub record CutsStop (before : ℕ) (old_disk : D) (old new : World) (fault : LogFault) : Type 0 where
    pub gate : ℕ
    pub disk : D
    pub cuts : CutsOff before old_disk old gate disk new
    pub seat : ℕ
    pub cause : Hinders gate (cut_bodies (seat ∷ [])) fault

-- No seat is a worker's.
abbrev pub AllPlain : World → Type 0
AllPlain w = (seat : ℕ) → is_plain (phase_of w seat) ≡ true
