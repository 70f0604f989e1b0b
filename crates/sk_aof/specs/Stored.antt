-- Stores that stand for a log, and logs that stand for a store.
use Rattle.std.specs.Prelude.{◌≡◌, ◌⊎◌, ◌≤◌, ◌^◌, ℕ, List, [], ◌∷◌, map, length, false, Result, MatchResult}
use Rattle.sk_disk.specs.Images.{Images}
use Rattle.sk_log.specs.File.{AllStood, Body, IsAt, Stood}
use Rattle.sk_log.specs.Reading.{OnceRead}
use Rattle.sk_log.specs.declared.fault.LogFault.{LogFault}
use Rattle.sk_log.specs.declared.fault.LogFault.TheVariants as fault
use Rattle.sk_model.specs.declared.limits.Limits.{Limits}
use Rattle.sk_model.specs.World.{World, first}
use Rattle.sk_model.specs.Change.{passed}
use Rattle.sk_model.specs.Event.{Run, Step, world_after}
use Rattle.sk_resp.specs.Errors.{is_error}
use Rattle.sk_model.specs.Replay.{Entry, Logged, Served, told}
use Rattle.sk_aof.specs.Bodies.{MayStand, body_of}

abbrev pub bodies_in : List Entry → List Body
bodies_in entries = map (λ entry. body_of entry.event) entries

-- Each of the events may stand in a file.
abbrev pub AllMayStand : List Entry → Type 0
AllMayStand [] = Unit {0}
AllMayStand (entry ∷ entries) = MayStand entry.event × AllMayStand entries

-- None of the replies is an error.
abbrev pub AllAccepted : List Entry → Type 0
AllAccepted [] = Unit {0}
AllAccepted (entry ∷ entries) = (is_error entry.reply ≡ false) × AllAccepted entries

-- From this world the entries come about, one after another, and lead to that one. There was memory for each, and none is refused.
pub record LeadTo (old : World) (entries : List Entry) (new : World) : Type 0 where
  pub steps : List Step
  pub run : Run old steps
  pub served : Served old steps
  pub told_is : told steps ≡ entries
  pub may : AllMayStand entries
  pub accepted : AllAccepted entries
  pub new_is : new ≡ world_after old steps

-- The store is what its log's entries lead to from an empty one. Whatever was read is a log of them. So is whatever a crash leaves now, and the place is
-- its first closed gate.
pub record IsStored (limits : Limits) (reads may_leave : Images) (gate : ℕ) (w : World) : Type 0 where
  pub entries : List Entry
  pub lead : LeadTo (first limits) entries w
  pub read : AllStood (bodies_in entries) reads
  pub ready : OnceRead reads (IsAt (bodies_in entries) gate may_leave)

-- A file that is read, of at most 2^60 bytes, is a log of all that was logged of this run.
pub record HoldsRun (limits : Limits) (steps : List Step) (reads : Images) : Type 0 where
  pub run : Run (first limits) steps
  pub entries : List Entry
  pub logged : Logged (first limits) steps entries
  pub may : AllMayStand entries
  pub file : List ℕ
  pub there : reads file
  pub short : length file ≤ 2 ^ 60
  pub stood : Stood (bodies_in entries) file

-- the same world as soon as time has come as far
abbrev pub IsSameInTime : World → World → Type 0
IsSameInTime old new = passed old.moment new ≡ passed old.moment old

-- The disk has failed, or there was no memory.
abbrev pub IsOutside : LogFault → Type 0
IsOutside e = (e ≡ fault.Disk) ⊎ (e ≡ fault.Memory)

-- What was logged of a run with these limits is opened to the run's last world, or the disk fails, or there is no memory.
abbrev pub GivesBack : Limits → Images → Result (ℕ × World) LogFault → Type 0
GivesBack limits reads result = (steps : List Step) → HoldsRun limits steps reads → MatchResult result (λ r. IsSameInTime (world_after (first limits) steps) r.1) IsOutside
