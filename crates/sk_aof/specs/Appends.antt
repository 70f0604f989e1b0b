-- What calls, one after another, have put behind a log's closed gate.
use Rattle.std.specs.Prelude.{◌≡◌, ℕ, List, ◌++◌}
use Rattle.sk_disk.specs.Images.{Images, LeavesOnly}
use Rattle.sk_log.specs.File.{Body, IsAt, Stood}
use Rattle.sk_log.specs.Appending.{Adds}

-- The file is a log of the old bodies, and of the first few of the new ones.
pub record StoodFront (old bodies : List Body) (image : List ℕ) : Type 0 where
  pub done : List Body
  pub more : List Body
  pub is : bodies ≡ done ++ more
  pub stood : Stood (old ++ done) image

module _ {D : Type 0} (may_leave : D → Images) (moment : D → ℕ) (left_since : D → ℕ → Images) where
  -- A crash at any moment leaves the log with the first few of these bodies behind those that it had.
  abbrev pub LeavesFront : List Body → ℕ → D → D → Type 0
  LeavesFront bodies gate old new = (events : List Body) → IsAt events gate (may_leave old) → LeavesOnly moment left_since old new (StoodFront events bodies)

  -- All of them are in the log now.
  pub record Appends (bodies : List Body) (before : ℕ) (old : D) (gate : ℕ) (new : D) : Type 0 where
    pub moments : LeavesFront bodies before old new
    pub added : Adds bodies before (may_leave old) gate (may_leave new)
