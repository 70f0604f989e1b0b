-- What a shelf does to the file that stands on it, where it tells that.
use Rattle.std.specs.Prelude.{◌≡◌, ℕ, Option, Some, None}
use Rattle.sk_disk.specs.Memory.{Stored}

-- It gives the file away.
abbrev pub Gives : {D : Type 0} → Option (Option D) → D → Option (Option D) → Type 0
Gives None disk after = after ≡ None
Gives (Some stood) disk after = (stood ≡ Some disk) × (after ≡ Some None)

-- a shelf in memory
pub record Shelved : Type 0 where
  -- the file, unless it was given away
  pub disk : Option Stored
  -- how often an opening has failed
  pub faults : ℕ
