-- A log that many connections share, by groups: what is in the file, what a leader has taken to write, and what waits. A reply is handed out only where
-- all that was logged before it is in the file.
use Rattle.std.specs.Prelude.{◌≡◌, ◌≤◌, ℕ, List, [], ◌∷◌, ◌++◌, length, max}
use Rattle.sk_log.specs.File.{Body, Stood, StoodOrMore}

pub record Commit : Type 0 where
  -- all that was logged, in the order in which it was done
  pub journal : List Body
  -- of it, what a crash leaves
  pub stored : List Body
  -- what a leader has taken, and writes
  pub taken : List Body
  -- what waits for the next
  pub waiting : List Body
  -- the number of the newest record before a reply that was handed out
  pub handed : ℕ

abbrev pub begun : List Body → Commit
begun bodies = record { journal = bodies; stored = bodies; taken = []; waiting = []; handed = 0 }

-- One step of any thread: a command is done and logged; a leader takes what waits; what it took is in the file; a reply is handed out.
pub data Move : Type 0 where
  Log : (body : Body) → Move
  Take : Move
  Store : Move
  Hand : (number : ℕ) → Move

-- what may come about, and what of it
abbrev pub Goes : Commit → Move → Commit → Type 0
Goes old (Log body) new = new ≡ record old { journal = old.journal ++ body ∷ []; waiting = old.waiting ++ body ∷ [] }
Goes old Take new = (old.taken ≡ []) × (new ≡ record old { taken = old.waiting; waiting = [] })
Goes old Store new = new ≡ record old { stored = old.stored ++ old.taken; taken = [] }
Goes old (Hand number) new = (number ≤ length old.stored) × (new ≡ record old { handed = max old.handed number })

abbrev pub GoesAll : Commit → List Move → Commit → Type 0
GoesAll old [] new = new ≡ old
GoesAll old (move ∷ moves) new = (mid : Commit) × Goes old move mid × GoesAll mid moves new

-- The file stands for a beginning of all that was logged, which has the first `handed` records.
pub record Keeps (c : Commit) (image : List ℕ) : Type 0 where
  pub bodies : List Body
  pub rest : List Body
  pub begins : c.journal ≡ bodies ++ rest
  pub reaches : c.handed ≤ length bodies
  pub stood : Stood bodies image

-- At each moment, whatever a crash leaves keeps all that any reply was handed out behind: a crash leaves what is stored, or that and what was taken.
abbrev pub WhatWasHandedStands : Type 0
WhatWasHandedStands = (bodies : List Body) (moves : List Move) (c : Commit) (image : List ℕ) → GoesAll (begun bodies) moves c → StoodOrMore c.stored c.taken image → Keeps c image
