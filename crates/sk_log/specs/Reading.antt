-- What stands at a gate of a log.
use Rattle.std.specs.Prelude.{◌≡◌, ◌≢◌, ◌⊎◌, ◌≤◌, ◌<◌, ◌^◌, ℕ, Bool, List, [], ◌∷◌, ◌++◌, length, take, Option, Some, None}
use Rattle.std.specs.Bool.{MatchBool}
use Rattle.std.specs.Int.{w32, to_be_bytes}
use Rattle.sk_disk.specs.Images.{Images, Narrows, Same, LeavesOnly}
use Rattle.sk_log.specs.File.{AllFit, AllStood, Begins, Body, framed, front, place, IsAt, Stood}
use Rattle.sk_log.specs.declared.reading.Found.{Found}
use Rattle.sk_log.specs.declared.reading.Found.TheVariants as found

-- ## A gate

-- a closed gate
pub record IsShut (bytes : List ℕ) : Type 0 where
  pub gate : ℕ
  pub rest : List ℕ
  pub closed : gate ≢ 1
  pub is : bytes ≡ gate ∷ rest

-- a body of fewer than 2^25 bytes behind its length, and a gate behind it
pub record IsFramed (body : Body) (bytes : List ℕ) : Type 0 where
  pub rest : List ℕ
  pub fits : length body < 2 ^ 25
  pub gate : 0 < length rest
  pub is : bytes ≡ framed body ++ rest

-- an open gate, and such a body behind it
pub record IsWhole (body : Body) (bytes : List ℕ) : Type 0 where
  pub behind : List ℕ
  pub framed : IsFramed body behind
  pub is : bytes ≡ 1 ∷ behind

-- an open gate and no such body, or no gate
pub record IsBroken (bytes : List ℕ) : Type 0 where
  pub not_shut : IsShut bytes → ⊥
  pub not_whole : (body : Body) → IsWhole body bytes → ⊥

abbrev pub Finds : Found → List ℕ → Type 0
Finds found.Shut bytes = IsShut bytes
Finds (found.Whole v) bytes = IsWhole v.items bytes
Finds found.Broken bytes = IsBroken bytes

-- the same of what stands behind an open gate
abbrev pub FindsBehind : Found → List ℕ → Type 0
FindsBehind found.Shut bytes = ⊥
FindsBehind (found.Whole v) bytes = IsFramed v.items bytes
FindsBehind found.Broken bytes = (body : Body) → IsFramed body bytes → ⊥

-- the length of a body that may stand there
abbrev pub IsLen : Option ℕ → List ℕ → Type 0
IsLen None bytes = (body : Body) → IsFramed body bytes → ⊥
IsLen (Some n) bytes = (4 ≤ length bytes) × (take 4 bytes ≡ to_be_bytes w32 n)

-- ## Reading a disk

-- The disk was read and no more: what a read gives is the same, and a crash within leaves what it might have left before.
pub record OnlyRead {D : Type 0} (reads may_leave : D → Images) (moment : D → ℕ) (left_since : D → ℕ → Images) (old new : D) : Type 0 where
  pub same : Same (reads old) (reads new)
  pub fewer : Narrows (may_leave old) (may_leave new)
  pub leaves : LeavesOnly moment left_since old new (may_leave old)

-- The buffer is full of the bytes, or there are not so many.
abbrev pub Fills : List ℕ → List ℕ → Bool → Type 0
Fills bytes buf full = MatchBool full ((length buf ≤ length bytes) × (buf ≡ take (length buf) bytes)) (length bytes < length buf)

-- ## Whatever a read gives

-- if it gives anything
abbrev pub OnceRead : Images → Type 0 → Type 0
OnceRead reads P = (c : List ℕ) → reads c → P

-- each file of at most 2^60 bytes
abbrev pub EachFile : Images → (List ℕ → Type 0) → Type 0
EachFile reads P = (c : List ℕ) → reads c → length c ≤ 2 ^ 60 → P c

-- those of the files that begin as a log does
abbrev pub Begun : Images → Images
Begun reads c = reads c × Begins c

-- ## Opening

-- From the old state on these bodies were run, one after another, which led to the new one.
abbrev pub RunsAll : {R : Type 0} → (R → Body → R → Type 0) → R → List Body → R → Type 0
RunsAll runs old [] new = new ≡ old
RunsAll runs old (body ∷ bodies) new = (mid : _) × runs old body mid × RunsAll runs mid bodies new

-- The file begins with these bodies, and the place is behind them.
pub record HasFront (bodies : List Body) (at : ℕ) (c : List ℕ) : Type 0 where
  pub rest : List ℕ
  pub fit : AllFit bodies
  pub is : c ≡ front bodies ++ rest
  pub at_is : at ≡ place bodies

-- The file is a log of these bodies, and the place is its first closed gate.
abbrev pub IsClosed : List Body → ℕ → Images
IsClosed bodies at c = Stood bodies c × (at ≡ place bodies)

-- So far, from the old state to the new one, these bodies were run, and each of the files has them before the place.
pub record HasRun {R : Type 0} (runs : R → Body → R → Type 0) (Has : List Body → ℕ → Images) (files : Images) (at : ℕ) (old new : R) : Type 0 where
  pub bodies : List Body
  pub ran : RunsAll runs old bodies new
  pub each : Narrows (Has bodies at) files

-- These bodies were run, and whatever was read is a log of them. So is whatever a crash leaves now, and the place is its first closed gate: the log may
-- be appended to.
pub record IsOpened {R : Type 0} (runs : R → Body → R → Type 0) (reads may_leave : Images) (at : ℕ) (old new : R) : Type 0 where
  pub bodies : List Body
  pub ran : RunsAll runs old bodies new
  pub read : AllStood bodies reads
  pub ready : OnceRead reads (IsAt bodies at may_leave)

-- ## Damage

-- The file begins as a log does, with these bodies; behind them no record stands, or one whose body is refused in this state.
pub record IsBrokenBehind {R : Type 0} (refuses : R → Body → Type 0) (bodies : List Body) (at : ℕ) (state : R) (c : List ℕ) : Type 0 where
  pub begins : Begins c
  pub before : HasFront bodies at c
  pub why : IsBroken before.rest ⊎ ((body : Body) × (IsWhole body before.rest × refuses state body))

-- Bodies were run, and behind them, at the place, each of the files is broken.
pub record IsDamaged {R : Type 0} (runs : R → Body → R → Type 0) (refuses : R → Body → Type 0) (files : Images) (at : ℕ) (old : R) : Type 0 where
  pub bodies : List Body
  pub state : R
  pub ran : RunsAll runs old bodies state
  pub each : EachFile files (IsBrokenBehind refuses bodies at state)

-- One of these bodies is refused behind the ones before it.
pub record IsBlamed {R : Type 0} (runs : R → Body → R → Type 0) (refuses : R → Body → Type 0) (old : R) (bodies : List Body) : Type 0 where
  pub done : List Body
  pub body : Body
  pub more : List Body
  pub is : bodies ≡ done ++ body ∷ more
  pub state : R
  pub ran : RunsAll runs old done state
  pub refused : refuses state body

-- Of whatever bodies the file is a log, one of them was refused.
abbrev pub Blames : {R : Type 0} → (R → Body → R → Type 0) → (R → Body → Type 0) → R → List ℕ → Type 0
Blames runs refuses old c = (bodies : List Body) → Stood bodies c → IsBlamed runs refuses old bodies
