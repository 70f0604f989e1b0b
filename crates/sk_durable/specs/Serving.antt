-- How a server over a store that a file keeps ends.
use Rattle.std.specs.Prelude.{◌≡◌, ◌⊎◌, ◌-◌, ◌/◌, ◌^◌, ◌+◌, ℕ, Bool, not, List, Option, None, Some, Result, Ok, Err, IfSome, IsSomeAnd, true, vec_len}
use Rattle.std.specs.Option.{is_some}
use Rattle.std_alloc.specs.declared.vec.Vec.{Vec}
use Rattle.sk_base.specs.Outside.{Rose}
use Rattle.sk_base.specs.declared.clock.Clock as a_clock
use Rattle.sk_base.specs.declared.sink.Sink as a_sink
use Rattle.sk_base.specs.declared.source.Source as a_source
use Rattle.sk_commit.specs.Shared.{HasBehind, KeepsSome, Overflows}
use Rattle.sk_commit.specs.declared.broken.Halt.{Halt}
use Rattle.sk_commit.specs.declared.broken.Halt.TheVariants as halt
use Rattle.sk_commit.specs.declared.log_id.LogId as a_log_id
use Rattle.sk_desk.specs.State.{IsBalanced, pushed_in}
use Rattle.sk_desk.specs.Writing.{IsWritten}
use Rattle.sk_disk.specs.Images.{Images}
use Rattle.sk_disk.specs.declared.disk.Disk as a_disk
use Rattle.sk_edge.specs.declared.door.Door as a_door
use Rattle.sk_edge.specs.declared.door.Ear as an_ear
use Rattle.sk_edge.specs.declared.door.DoorFault.{DoorFault}
use Rattle.sk_edge.specs.declared.door.DoorFault.TheVariants as door_fault
use Rattle.sk_held.specs.declared.settler.Settler as a_settler
use Rattle.sk_jobs.specs.Counting.{tally_of}
use Rattle.sk_log.specs.File.{Body, IsAt}
use Rattle.sk_model.specs.World.{World}
use Rattle.sk_serve.specs.Attending.{Attending, Attends}
use Rattle.sk_serve.specs.Server.{Account, Became, EndedAt, HasFailed, HasSpent, HaveRun, LoopsEnded, Serves}
use Rattle.sk_serve.specs.declared.serve_end.ServeFault.{ServeFault}
use Rattle.sk_serve.specs.declared.serve_end.ServeFault.TheVariants as serve_fault
use Rattle.sk_serve.specs.declared.serve_end.Served.{Served}
use Rattle.sk_status.specs.declared.tally.Tally.{Tally}
use Rattle.sk_durable.specs.Writes.{IsKeptLog, IsStored, SettlerView, SpellsBody}
use Rattle.sk_durable.specs.declared.server.KeptEnd.{KeptEnd}
use Rattle.sk_durable.specs.declared.server.KeptFault.{KeptFault}
use Rattle.sk_durable.specs.declared.server.KeptFault.TheVariants as fault
use Rattle.sk_durable.specs.declared.server.KeptStore.{KeptStore}

-- what a settler counts, and what it says is stored, where it always waits and where it doesn't
abbrev pub settling : Bool → World → a_settler.Ghosts SettlerView
settling waits start = record { settled = λ s. s.settled; settle_faults = λ s. s.faults; stored = λ s. IsStored waits start s }

-- Replies always wait until all that was logged before them is stored.
abbrev pub is_always : Option ℕ → Bool
is_always sync_every = not (is_some sync_every)

-- The session's replies waited for a settler, each time until it had settled. Where that always waits, all that was logged then was stored.
abbrev pub Waited : {C K : Type 0} → (waits : Bool) → World → a_source.Ghosts C → a_sink.Ghosts C → a_clock.Ghosts K → Attending C K
Waited waits start Source Sink Clock = Attends true true Source Sink Clock (settling waits start)

-- what a fault of the loops is, where the file has all that was logged
abbrev pub kept_fault : ServeFault → KeptFault
kept_fault serve_fault.Failed = fault.Failed
kept_fault serve_fault.Spent = fault.Spent
kept_fault serve_fault.Memory = fault.Memory
kept_fault serve_fault.Unsettled = fault.Astray

-- how a server ends whose file has all that was logged: as its loops did, with the rows that were acknowledged, and the tally
abbrev pub EndsSo : Result ℕ ServeFault → ℕ → Tally → Result Served KeptFault → Type 0
EndsSo (Ok sessions) acknowledged tally end = end ≡ Ok (record { sessions = sessions; acknowledged = acknowledged; tally = tally })
EndsSo (Err f) acknowledged tally end = end ≡ Err (kept_fault f)

-- ## The file

module _ {D : Type 0} (may_leave : D → Images) (starts : List Body → Type 0) (start : World) where
  -- Whatever a crash leaves is a log of what the file was before and, behind that, of all that a log keeps of a run from the start to this world.
  pub record HasAll (w : World) (disk : D) : Type 0 where
    pub bodies : List Body
    pub written : IsWritten SpellsBody start w bodies
    pub gate : ℕ
    pub behind : HasBehind starts bodies gate (may_leave disk)

  -- So it is of the disk that is given back, and of a world with this tally.
  pub record KeepsAll (s : Served) (given : Option D) : Type 0 where
    pub disk : D
    pub is : given ≡ Some disk
    pub world : World
    pub tally_is : s.tally ≡ tally_of world
    pub all : HasAll world disk

-- Whatever a crash at any moment since this disk might have left is a log of what the file was, whose gate stood there, and behind that of what a log
-- keeps of some run from this world. So it is of the disk that is given back.
abbrev pub OutlivesCrashes : {D : Type 0} → a_disk.Ghosts D → ℕ → World → D → Option D → Type 0
OutlivesCrashes Disk gate start disk given =
    IfSome given (KeepsSome Disk.moment Disk.left_since (λ events. IsAt events gate (Disk.may_leave disk)) (λ bodies. IsKeptLog start bodies) (Disk.moment disk))

-- The end of a log is told so: that nothing more could be logged, as want of memory, where it was that.
abbrev pub IsToldAs : Halt → KeptFault → Type 0
IsToldAs halt.Disk told = told ≡ fault.Disk
IsToldAs halt.Full told = told ≡ fault.Full
IsToldAs halt.Astray told = (told ≡ fault.Astray) ⊎ (told ≡ fault.Memory)

module _ {D J : Type 0} (Disk : a_disk.Ghosts D) (Log : a_log_id.Ghosts J) where
  -- The log on this disk ended for that cause, and has outlived each crash.
  pub record IsBroken (why : Halt) (disk : D) : Type 0 where
    pub failed : why ≡ halt.Disk → Rose Log.faults (Disk.disk_faults disk)
    pub full : why ≡ halt.Full → Overflows Log.starts Log.holds
    pub left : KeepsSome Disk.moment Disk.left_since Log.starts Log.holds Log.since disk

  -- The log's end is told.
  abbrev TellsHalt : Halt → KeptEnd D → Type 0
  TellsHalt why e = (told : KeptFault) × (e.end ≡ Err told) × IsToldAs why told

  -- A log ended so: that is told, and its disk is given back. Where nobody has the file, nothing more could be logged.
  abbrev pub IsHalted : Option Halt → KeptEnd D → Type 0
  IsHalted None e = TellsHalt halt.Astray e × (e.disk ≡ None)
  IsHalted (Some why) e = TellsHalt why e × IsSomeAnd e.disk (IsBroken why)

-- what a fault of the door is, where it gave no ears
abbrev pub unheard_fault : DoorFault → KeptFault
unheard_fault door_fault.Failed = fault.Failed
unheard_fault door_fault.Memory = fault.Memory

-- ## The server

-- Its loops ran, and what its sessions acknowledged is what the store counts from outside since the start.
pub record IsServedOn {E C K : Type 0} (Ear : an_ear.Ghosts E C) (start : World) (bound loops : ℕ) (s : Served) (accounts : List (Account E C K)) : Type 0 where
  pub ran : HaveRun Ear bound loops s.sessions s.acknowledged accounts
  pub outside : s.acknowledged + pushed_in start ≡ s.tally.outside
  pub balanced : IsBalanced s.tally

module _ {D E C K : Type 0} (may_leave : D → Images) (faults : D → ℕ) (Ear : an_ear.Ghosts E C) (Attended : Attending C K) (starts : List Body → Type 0) (start : World) (first : ℕ) where
  -- The loops over these ears ended so, and then the log. Where the disk failed, it is given back, and its count rose above the first; where the file is
  -- full, there is no room for the next records of a run. Nothing says when there is no memory, or when nothing more can be logged.
  abbrev pub KeptEnds : (bound loops : ℕ) → List E → List E → Result Served KeptFault → Option D → Type 0
  KeptEnds bound loops ears ears' (Ok s) given = Became Ear Attended ears ears' (IsServedOn Ear start bound loops s) × KeepsAll may_leave starts start s given
  KeptEnds bound loops ears ears' (Err fault.Failed) given = EndedAt Ear Attended loops ears ears' serve_fault.Failed
  KeptEnds bound loops ears ears' (Err fault.Spent) given = EndedAt Ear Attended loops ears ears' serve_fault.Spent
  KeptEnds bound loops ears ears' (Err fault.Disk) given = IsSomeAnd given (λ disk. Rose first (faults disk))
  KeptEnds bound loops ears ears' (Err fault.Full) given = Overflows starts (λ bodies. IsKeptLog start bodies)
  KeptEnds bound loops ears ears' (Err other) given = Unit {0}

  module _ {N : Type 0} (Door : a_door.Ghosts N C E) where
    -- So did a server whose door gave the ears.
    abbrev pub KeptServerEnds : (bound loops : ℕ) → N → N → Result Served KeptFault → Option D → Type 0
    KeptServerEnds bound loops old new (Ok s) given = Serves Door Ear Attended loops old new (IsServedOn Ear start bound loops s) × KeepsAll may_leave starts start s given
    KeptServerEnds bound loops old new (Err fault.Failed) given = HasFailed Door Ear Attended loops old new
    KeptServerEnds bound loops old new (Err fault.Spent) given = HasSpent Door Ear Attended ((2 ^ 32 - 2) / loops) loops old new
    KeptServerEnds bound loops old new (Err fault.Disk) given = IsSomeAnd given (λ disk. Rose first (faults disk))
    KeptServerEnds bound loops old new (Err fault.Full) given = Overflows starts (λ bodies. IsKeptLog start bodies)
    KeptServerEnds bound loops old new (Err other) given = Unit {0}

-- ## What is said of the calls

-- The loops of a server ended so, whose sessions' replies waited.
abbrev pub WaitedEnded : {E C K Z : Type 0} → (waits : Bool) → World → an_ear.Ghosts E C → a_source.Ghosts C → a_sink.Ghosts C → a_clock.Ghosts K → (bound rows : ℕ) → Vec E Z → Vec E Z → Result ℕ ServeFault → Type 0
WaitedEnded waits start Ear Source Sink Clock bound rows ears ears' result =
    LoopsEnded Ear (Waited waits start Source Sink Clock) bound (vec_len ears) rows ears.items ears'.items result

-- So did a server over a log that is named, from this world on.
abbrev pub NamedEnds : {D E C J K Z : Type 0} → a_disk.Ghosts D → an_ear.Ghosts E C → a_source.Ghosts C → a_sink.Ghosts C → a_clock.Ghosts K → a_log_id.Ghosts J → (sync_every : Option ℕ) → World → (bound : ℕ) → Vec E Z → Vec E Z → KeptEnd D → Type 0
NamedEnds Disk Ear Source Sink Clock Log sync_every start bound ears ears' e =
    KeptEnds Disk.may_leave Disk.disk_faults Ear (Waited (is_always sync_every) start Source Sink Clock) Log.starts start Log.faults bound (vec_len ears) ears.items ears'.items e.end e.disk

-- So did a server over this store, whose door gave the ears. Its sessions' replies waited as the store says.
abbrev pub KeptServed : {D N E C K : Type 0} → a_disk.Ghosts D → an_ear.Ghosts E C → a_source.Ghosts C → a_sink.Ghosts C → a_clock.Ghosts K → a_door.Ghosts N C E → KeptStore D → (bound loops : ℕ) → N → N → KeptEnd D → Type 0
KeptServed Disk Ear Source Sink Clock Door store bound loops old new e =
    KeptServerEnds Disk.may_leave Disk.disk_faults Ear (Waited (is_always store.sync_every) store.core Source Sink Clock) (λ events. IsAt events store.log (Disk.may_leave store.disk)) store.core (Disk.disk_faults store.disk) Door
    bound loops old new e.end e.disk
