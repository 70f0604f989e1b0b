-- What appending does to each file that a crash may leave, wherever the log stood at its closed gate.
use Rattle.std.specs.Prelude.{ℕ, List, ◌++◌}
use Rattle.sk_disk.specs.Images.{Images, LeavesOnly, Narrows}
use Rattle.sk_log.specs.File.{Body, IsAt, IsStaged, Stages, Stood, StoodOrMore, staged}

-- ## Behind the call

-- The bytes stand behind the closed gate.
abbrev pub PutsBehind : ℕ → List ℕ → Images → Images → Type 0
PutsBehind gate bytes old new = (events : List Body) → IsAt events gate old → IsStaged events gate bytes new

-- What was put behind the closed gate is in the log.
abbrev pub Opens : ℕ → Images → Images → Type 0
Opens gate old new = (events group : List Body) → Stages group (staged group) → IsStaged events gate (staged group) old → Narrows (Stood (events ++ group)) new

-- Groups of that kind are in the log.
abbrev pub Holds : (List Body → Type 0) → ℕ → Images → Images → Type 0
Holds Is gate old new = (events group : List Body) → IsAt events gate old → Is group → Narrows (Stood (events ++ group)) new

-- The same, and the log is at its closed gate.
abbrev pub AddsAll : (List Body → Type 0) → ℕ → Images → ℕ → Images → Type 0
AddsAll Is before old gate new = (events group : List Body) → IsAt events before old → Is group → IsAt (events ++ group) gate new

abbrev pub Adds : List Body → ℕ → Images → ℕ → Images → Type 0
Adds group before old gate new = (events : List Body) → IsAt events before old → IsAt (events ++ group) gate new

-- ## At any moment of the call

module _ {D : Type 0} (may_leave : D → Images) (moment : D → ℕ) (left_since : D → ℕ → Images) where
  -- A crash leaves the log as it was.
  abbrev pub Keeps : ℕ → D → D → Type 0
  Keeps gate old new = (events : List Body) → IsAt events gate (may_leave old) → LeavesOnly moment left_since old new (Stood events)

  -- It leaves the log as it was, or with all that was put behind it.
  abbrev pub OpensOrKeeps : ℕ → D → D → Type 0
  OpensOrKeeps gate old new =
      (events group : List Body) → Stages group (staged group) → IsStaged events gate (staged group) (may_leave old) → LeavesOnly moment left_since old new (StoodOrMore events group)

  -- It leaves the log as it was, or with all of a group of that kind.
  abbrev pub AddsAllOrKeeps : (List Body → Type 0) → ℕ → D → D → Type 0
  AddsAllOrKeeps Is gate old new =
      (events group : List Body) → IsAt events gate (may_leave old) → Is group → LeavesOnly moment left_since old new (StoodOrMore events group)

  abbrev pub AddsOrKeeps : List Body → ℕ → D → D → Type 0
  AddsOrKeeps group gate old new = (events : List Body) → IsAt events gate (may_leave old) → LeavesOnly moment left_since old new (StoodOrMore events group)
