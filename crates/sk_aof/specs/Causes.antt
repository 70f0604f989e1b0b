-- Why a log can't go on.
use Rattle.std.specs.Prelude.{◌≡◌, ◌⊎◌, ◌≤◌, ◌<◌, ◌+◌, ◌^◌, ℕ, List, length, Option, Some, None}
use Rattle.sk_base.specs.Outside.{Rose}
use Rattle.sk_log.specs.File.{Body, records}
use Rattle.sk_log.specs.declared.fault.LogFault.{LogFault}
use Rattle.sk_log.specs.declared.fault.LogFault.TheVariants.{Disk, NotALog, Damaged, Full, Memory}

-- A log whose closed gate stands there can't take these bodies: the disk fails, there is no memory, or the file would have more than 2^50 bytes.
abbrev pub Hinders : ℕ → List Body → LogFault → Type 0
Hinders gate bodies Disk = Unit {0}
Hinders gate bodies Memory = Unit {0}
Hinders gate bodies Full = 2 ^ 50 < gate + length (records bodies) + 1
Hinders gate bodies NotALog = ⊥
Hinders gate bodies (Damaged at) = ⊥

-- what ends a log that is talked over
abbrev pub IsHindrance : LogFault → Type 0
IsHindrance Disk = Unit {0}
IsHindrance Memory = Unit {0}
IsHindrance Full = Unit {0}
IsHindrance NotALog = ⊥
IsHindrance (Damaged at) = ⊥

-- Where none is known there was no memory.
abbrev pub fault_of : Option LogFault → LogFault
fault_of None = Memory
fault_of (Some fault) = fault

-- The disk's count of faults doesn't fall, and it rose where a failing of the disk is why the log can't go on.
pub record Blames (before : ℕ) (was : Option LogFault) (now : ℕ) (is : Option LogFault) : Type 0 where
  pub later : before ≤ now
  pub disk : is ≡ Some Disk → (was ≡ Some Disk) ⊎ Rose before now
