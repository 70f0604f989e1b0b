-- What contracts see of a connection whose writes are held back until what was done before them is stored, and what its calls do.
use Rattle.std.specs.Prelude.{◌≡◌, ◌≤◌, ◌⊎◌, ◌++◌, [], ℕ, List, Option, Some, None, Bool, true, Result, Ok, Err, OnOk, take}
use Rattle.sk_base.specs.Outside.{Rose, Takes}
use Rattle.sk_base.specs.declared.failed.Failed.{Failed}
use Rattle.sk_base.specs.declared.sink.Sink as a_sink
use Rattle.sk_held.specs.Counts.{HasSettled}
use Rattle.sk_held.specs.declared.settler.Settler as a_settler

abbrev pub Bytes : Type 0
Bytes = List ℕ

-- a connection, and who settles what is handed to it
pub record Out (C W : Type 0) : Type 0 where
  pub conn : C
  pub settler : W

pub record Held (C W : Type 0) : Type 0 where
  pub conn : C
  pub settler : W
  -- what was written, and not handed on yet
  pub gathered : Bytes
  -- A settle has failed, or a write of the connection: nothing is handed on any more.
  pub broken : Bool
  -- how many reads have failed
  pub reads : ℕ
  -- how many writes have failed
  pub writes : ℕ

-- what a connection took, and what is gathered behind it
abbrev pub with_gathered : Option Bytes → Bytes → Option Bytes
with_gathered None gathered = None
with_gathered (Some told) gathered = Some (told ++ gathered)

-- Since the connection had taken so much, and its settler had settled so often, it took something only where the settler has settled again, and
-- what it found stored is stored.
pub record IsSince (first : Option Bytes) (count : ℕ) (told : Option Bytes) (settled : ℕ) (Stored : Type 0) : Type 0 where
  pub later : count ≤ settled
  pub sent : Bytes
  pub took : Takes first sent told
  pub behind : (sent ≡ []) ⊎ HasSettled count settled Stored

module _ {C W : Type 0} (Sink : a_sink.Ghosts C) (Settler : a_settler.Ghosts W) where
  -- The connection took the front of what was due, and the rest is kept. It took something only behind a settle that passed.
  pub record Hands (conn : C) (settler : W) (due : Bytes) (conn' : C) (settler' : W) (kept : Bytes) : Type 0 where
    pub sent : Bytes
    pub took : Takes (Sink.taken conn) sent (Sink.taken conn')
    pub order : due ≡ sent ++ kept
    pub behind : (sent ≡ []) ⊎ Rose (Settler.settled settler) (Settler.settled settler')

  abbrev pub HandsOn : Held C W → Bytes → Held C W → Type 0
  HandsOn old due new = Hands old.conn old.settler due new.conn new.settler new.gathered

  -- So many of the bytes were written, behind what was gathered; or none, where the write failed.
  abbrev pub HandsWritten : Held C W → Bytes → Result ℕ Failed → Held C W → Type 0
  HandsWritten old bytes (Ok n) new = HandsOn old (old.gathered ++ take n bytes) new
  HandsWritten old bytes (Err e) new = HandsOn old old.gathered new

  -- What was gathered was handed on, or some of it, and the connection and the settler are given back. Ok tells that nothing was kept.
  abbrev pub HandsBack : Held C W → C → W → Result (Unit {0}) Failed → Type 0
  HandsBack old conn settler end = (kept : Bytes) × Hands old.conn old.settler old.gathered conn settler kept × OnOk end (kept ≡ [])

  -- Where a settle failed, or a write of the connection, it is broken from then on. Then nothing is settled, handed on or forgotten.
  pub record Breaks (old new : Held C W) : Type 0 where
    pub settle : (Settler.settle_faults new.settler ≡ Settler.settle_faults old.settler) ⊎ (new.broken ≡ true)
    pub write : (Sink.write_faults new.conn ≡ Sink.write_faults old.conn) ⊎ (new.broken ≡ true)
    pub stays : old.broken ≡ true → (new.conn ≡ old.conn) × (new.settler ≡ old.settler) × (new.gathered ≡ old.gathered) × (new.broken ≡ true)

  -- It was broken, or a settle failed, or a write of the connection.
  abbrev pub IsBlamed : Held C W → Held C W → Type 0
  IsBlamed old new = (old.broken ≡ true)
      ⊎ Rose (Settler.settle_faults old.settler) (Settler.settle_faults new.settler)
      ⊎ Rose (Sink.write_faults old.conn) (Sink.write_faults new.conn)
