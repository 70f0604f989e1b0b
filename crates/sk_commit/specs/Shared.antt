-- What a shared log keeps under its two locks: what waits for a leader, and what its file has.
use Rattle.std.specs.Prelude.{ℕ, ◌≡◌, ◌<◌, ◌≤◌, ◌+◌, ◌^◌, List, [], ◌∷◌, ◌++◌, Option, None, Some, length}
use Rattle.sk_base.specs.Outside.{Rose}
use Rattle.sk_disk.specs.Images.{Images, Narrows}
use Rattle.sk_log.specs.File.{Body, IsAt, IsGroup, Stood, place, records}

-- all that was logged, and the record that is drafted and may yet be dropped
pub record Backed : Type 0 where
  pub history : List Body
  pub draft : List Body

abbrev pub backed : List Body → Backed
backed history = record { history = history; draft = [] }

abbrev pub draft_in : Option Body → List Body
draft_in None = []
draft_in (Some body) = body ∷ []

-- The history's last records wait, and the draft behind them, as a group; so many stand before them.
pub record IsDrafted (history : List Body) (count : ℕ) (draft : List Body) (group : List ℕ) : Type 0 where
  pub before : List Body
  pub waiting : List Body
  pub whole : history ≡ before ++ waiting
  pub counted : count ≡ length before
  pub is : IsGroup (waiting ++ draft) group
  pub room : length history + length draft ≤ 2 ^ 60

-- The history's last records wait, as a group; so many stand before them.
pub record IsWaiting (history : List Body) (count : ℕ) (group : List ℕ) : Type 0 where
  pub before : List Body
  pub waiting : List Body
  pub whole : history ≡ before ++ waiting
  pub counted : count ≡ length before
  pub is : IsGroup waiting group

-- Whatever bodies the file may have had at first, each file that a crash may leave is a log of these, and the gate is its closed one.
abbrev pub IsStart : (List Body → Type 0) → ℕ → Images → Type 0
IsStart starts gate may_leave = (events : List Body) → starts events → IsAt events gate may_leave

-- It is a log of these and, behind them, of the stored ones.
abbrev pub HasBehind : (List Body → Type 0) → List Body → ℕ → Images → Type 0
HasBehind starts stored gate may_leave = (events : List Body) → starts events → IsAt (events ++ stored) gate may_leave

-- ## At each crash

-- The file is a log of these bodies and, behind them, of some of which that holds.
pub record StoodSome (events : List Body) (Holds : List Body → Type 0) (image : List ℕ) : Type 0 where
  pub bodies : List Body
  pub holds : Holds bodies
  pub stood : Stood (events ++ bodies) image

module _ {D : Type 0} (moment : D → ℕ) (left_since : D → ℕ → Images) where
  -- So is each file that a crash at any moment since then might have left.
  pub record LeavesSome (events : List Body) (Holds : List Body → Type 0) (since : ℕ) (disk : D) : Type 0 where
    pub later : since ≤ moment disk
    pub each : Narrows (StoodSome events Holds) (left_since disk since)

  -- whatever bodies the file may have had at first
  abbrev pub KeepsSome : (List Body → Type 0) → (List Body → Type 0) → ℕ → D → Type 0
  KeepsSome starts Holds since disk = (events : List Body) → starts events → LeavesSome events Holds since disk

-- ## An end

-- A disk of a log has failed: its count of faults rose above the first.
pub record HasFailed {D : Type 0} (faults : D → ℕ) (first : ℕ) : Type 0 where
  pub disk : D
  pub rose : Rose first (faults disk)

-- ## A full file

-- With the next records, behind what is stored, the file would have more than 2^50 bytes.
pub record Overflows (starts Holds : List Body → Type 0) : Type 0 where
  pub stored : List Body
  pub next : List Body
  pub holds : Holds (stored ++ next)
  pub gate : ℕ
  pub gate_is : (events : List Body) → starts events → gate ≡ place (events ++ stored)
  pub too_long : 2 ^ 50 < gate + length (records next) + 1
