-- How a server over a kept store ends, by its loops and by its file.
use Rattle.std.proofs.Common.{◌≡◌, ◌+◌, ◌-◌, ◌/◌, ◌^◌, ℕ, List, ◌++◌, length, Option, None, Some, Result, Ok, Err, IfSome, refl, sym, subst, inl, inr}
use Rattle.std.specs.Prelude.{IsSomeAnd}
use Rattle.sk_base.specs.Outside.{Rose}
use Rattle.sk_desk.specs.State.{IsBalanced, pushed_in}
use Rattle.sk_commit.specs.Shared.{KeepsSome, Overflows}
use Rattle.sk_commit.specs.declared.broken.Halt.{Halt}
use Rattle.sk_commit.specs.declared.broken.Halt.TheVariants as halt
use Rattle.sk_commit.specs.declared.log_id.LogId as a_log_id
use Rattle.sk_disk.specs.Images.{Images}
use Rattle.sk_disk.specs.declared.disk.Disk as a_disk
use Rattle.sk_edge.specs.Collected.{Keeps, MakesRoom}
use Rattle.sk_edge.specs.Doors.{Listens}
use Rattle.sk_edge.specs.declared.door.Door as a_door
use Rattle.sk_edge.specs.declared.door.DoorFault.{DoorFault}
use Rattle.sk_edge.specs.declared.door.DoorFault.TheVariants as door_fault
use Rattle.sk_edge.specs.declared.door.Ear as an_ear
use Rattle.sk_jobs.specs.Counting.{tally_of}
use Rattle.sk_log.specs.File.{Body}
use Rattle.sk_model.specs.World.{World}
use Rattle.sk_serve.specs.Attending.{Attending}
use Rattle.sk_serve.specs.Server.{EarFailed, EndedAt, HaveRun, IsUsedUp, LoopsEnded}
use Rattle.sk_serve.specs.Visits.{Among}
use Rattle.sk_serve.specs.declared.serve_end.ServeFault.{ServeFault}
use Rattle.sk_serve.specs.declared.serve_end.ServeFault.TheVariants as serve_fault
use Rattle.sk_serve.specs.declared.serve_end.Served.{Served}
use Rattle.sk_serve.proofs.Ends.{became_so, serves}
use Rattle.sk_durable.specs.Serving.{EndsSo, HasAll, IsBroken, IsHalted, IsServedOn, IsToldAs, KeptEnds, KeptServerEnds, kept_fault, unheard_fault}
use Rattle.sk_durable.specs.Writes.{IsKeptLog, TellsOf}
use Rattle.sk_status.specs.declared.tally.Tally.{Tally}
use Rattle.sk_durable.specs.declared.server.KeptEnd.{KeptEnd}
use Rattle.sk_durable.specs.declared.server.KeptFault.{KeptFault}
use Rattle.sk_durable.specs.declared.server.KeptFault.TheVariants as fault

module _ {D E C K : Type 0} (may_leave : D → Images) (faults : D → ℕ) (Ear : an_ear.Ghosts E C) (Attended : Attending C K) (starts : List Body → Type 0) (start : World) (first : ℕ)
    (bound loops : ℕ) (ears ears' : List E) where
  abbrev Ends : Result Served KeptFault → Option D → Type 0
  Ends = KeptEnds may_leave faults Ear Attended starts start first bound loops ears ears'

  -- There was no memory.
  pub starved_ends : (end : Result Served KeptFault) (given : Option D) → end ≡ Err fault.Memory → Ends end given
  starved_ends end given is = subst (λ e. Ends e given) (sym is) tt

  -- The loops had ended.
  by_loops : (f : ServeFault) (given : Option D) → EndedAt Ear Attended loops ears ears' f → Ends (Err (kept_fault f)) given
  by_loops serve_fault.Failed given came = came
  by_loops serve_fault.Spent given came = came
  by_loops serve_fault.Memory given came = tt
  by_loops serve_fault.Unsettled given came = tt

  -- All was done, and is in the file.
  served_ends : (s : Served) (rows : ℕ) (disk : D) (w : World) → s.acknowledged ≡ rows → s.acknowledged + pushed_in start ≡ s.tally.outside → IsBalanced s.tally → s.tally ≡ tally_of w
      → LoopsEnded Ear Attended bound loops rows ears ears' (Ok s.sessions) → HasAll may_leave starts start w disk → Ends (Ok s) (Some disk)
  served_ends s rows disk w acknowledged outside balanced tally came all = (
    became_so Ear Attended ears ears' (HaveRun Ear bound loops s.sessions rows) (IsServedOn Ear start bound loops s) (λ accounts ran. record {
      ran = subst (λ n. HaveRun Ear bound loops s.sessions n accounts) (sym acknowledged) ran;
      outside = outside;
      balanced = balanced;
    }) came,
    record { disk = disk; is = refl; world = w; tally_is = tally; all = all },
  )

  -- The one or the other.
  pub ends_so : (ended : Result ℕ ServeFault) (end : Result Served KeptFault) (acknowledged rows : ℕ) (tally : Tally) (disk : D) (w : World) → EndsSo ended acknowledged tally end → acknowledged ≡ rows
      → acknowledged + pushed_in start ≡ tally.outside → IsBalanced tally → tally ≡ tally_of w → LoopsEnded Ear Attended bound loops rows ears ears' ended → HasAll may_leave starts start w disk
      → Ends end (Some disk)
  ends_so (Ok sessions) end acknowledged rows tally disk w so same outside balanced tally_is came all = subst (λ e. Ends e (Some disk)) (sym so)
      (served_ends (record { sessions = sessions; acknowledged = acknowledged; tally = tally }) rows disk w same outside balanced tally_is came all)
  ends_so (Err f) end acknowledged rows tally disk w so same outside balanced tally_is came all = subst (λ e. Ends e (Some disk)) (sym so) (by_loops f (Some disk) came)

-- ## By the log

-- What holds of all that leaders take holds of what they have no room for.
overflows_kept : (starts Holds : List Body → Type 0) (start : World) → TellsOf start Holds → Overflows starts Holds → Overflows starts (λ bodies. IsKeptLog start bodies)
overflows_kept starts Holds start law over = record {
  stored = over.stored;
  next = over.next;
  holds = (law (over.stored ++ over.next)).1 over.holds;
  gate = over.gate;
  gate_is = over.gate_is;
  too_long = over.too_long;
}

module _ {D E C J K : Type 0} (Disk : a_disk.Ghosts D) (Log : a_log_id.Ghosts J) (Ear : an_ear.Ghosts E C) (Attended : Attending C K) (start : World) (law : TellsOf start Log.holds)
    (bound loops : ℕ) (ears ears' : List E) where
  abbrev LogEnds : Result Served KeptFault → Option D → Type 0
  LogEnds = KeptEnds Disk.may_leave Disk.disk_faults Ear Attended Log.starts start Log.faults bound loops ears ears'

  by_astray : (told : KeptFault) (given : Option D) → IsToldAs halt.Astray told → LogEnds (Err told) given
  by_astray told given (inl is) = subst (λ f. LogEnds (Err f) given) (sym is) tt
  by_astray told given (inr is) = subst (λ f. LogEnds (Err f) given) (sym is) tt

  by_halt : (why : Halt) (told : KeptFault) (given : Option D) → IsToldAs why told → IsSomeAnd given (IsBroken Disk Log why) → LogEnds (Err told) given
  by_halt halt.Disk told (Some disk) is broken = subst (λ f. LogEnds (Err f) (Some disk)) (sym is) (broken.failed refl)
  by_halt halt.Full told (Some disk) is broken = subst (λ f. LogEnds (Err f) (Some disk)) (sym is) (overflows_kept Log.starts Log.holds start law (broken.full refl))
  by_halt halt.Astray told (Some disk) is broken = by_astray told (Some disk) is
  by_halt why told None is broken = absurd broken

  pub halted_ends : (broken : Option Halt) (e : KeptEnd D) → IsHalted Disk Log broken e → LogEnds e.end e.disk
  halted_ends None e ((told, is, so), none) = subst (λ end. LogEnds end e.disk) (sym is) (by_astray told e.disk so)
  halted_ends (Some why) e ((told, is, so), some) = subst (λ end. LogEnds end e.disk) (sym is) (by_halt why told e.disk so some)

module _ {D J : Type 0} (Disk : a_disk.Ghosts D) (Log : a_log_id.Ghosts J) where
  abbrev Kept : D → Type 0
  Kept = KeepsSome Disk.moment Disk.left_since Log.starts Log.holds Log.since

  broken_left : (why : Halt) (given : Option D) → IsSomeAnd given (IsBroken Disk Log why) → IfSome given Kept
  broken_left why None broken = tt
  broken_left why (Some disk) broken = broken.left

  -- A disk that is given back has outlived each crash.
  pub halted_left : (broken : Option Halt) (e : KeptEnd D) → IsHalted Disk Log broken e → IfSome e.disk Kept
  halted_left None e (told, none) = subst (λ given. IfSome given Kept) (sym none) tt
  halted_left (Some why) e (told, some) = broken_left why e.disk some

-- ## With its door

module _ {D N E C K : Type 0} (may_leave : D → Images) (faults : D → ℕ) (Ear : an_ear.Ghosts E C) (Attended : Attending C K) (starts : List Body → Type 0) (start : World) (first : ℕ)
    (Door : a_door.Ghosts N C E) (bound loops count : ℕ) where
  -- The door gave no ears.
  pub unheard_ends : (old new : N) (f : DoorFault) (end : Result Served KeptFault) (given : Option D) → end ≡ Err (unheard_fault f)
      → (f ≡ door_fault.Failed → Rose (Door.door_faults old) (Door.door_faults new)) → KeptServerEnds may_leave faults Ear Attended starts start first Door bound loops old new end given
  unheard_ends old new f end given is rose = subst (λ e. KeptServerEnds may_leave faults Ear Attended starts start first Door bound loops old new e given) (sym is) (by_fault f rose) where
    by_fault : (f : DoorFault) → (f ≡ door_fault.Failed → Rose (Door.door_faults old) (Door.door_faults new))
        → KeptServerEnds may_leave faults Ear Attended starts start first Door bound loops old new (Err (unheard_fault f)) given
    by_fault door_fault.Failed rose = inl (rose refl)
    by_fault door_fault.Memory rose = tt

  module _ (old mid new : N) (ears ears' : List E) (many : length ears ≡ loops) (counted : count ≡ loops)
      (hears : Listens Ear.heard Ear.kept Ear.nudged (Door.heard old) ears (Door.heard mid)) (same : Door.heard new ≡ Door.heard mid)
      (made : MakesRoom (Door.gathered old) loops (Door.gathered mid)) (gathers : Keeps (Door.gathered mid) ears' (Door.gathered new)) where
    by_end : (end : Result Served KeptFault) (given : Option D) → KeptEnds may_leave faults Ear Attended starts start first bound loops ears ears' end given
        → KeptServerEnds may_leave faults Ear Attended starts start first Door bound loops old new end given
    by_end (Ok s) given came = (serves Door Ear Attended bound loops count old mid new ears ears' many counted hears same made gathers (IsServedOn Ear start bound loops s) came.0, came.1)
    by_end (Err fault.Failed) given came = inr (serves Door Ear Attended bound loops count old mid new ears ears' many counted hears same made gathers (Among (EarFailed Ear)) came)
    by_end (Err fault.Spent) given came = serves Door Ear Attended bound loops count old mid new ears ears' many counted hears same made gathers (Among (IsUsedUp ((2 ^ 32 - 2) / loops))) came
    by_end (Err fault.Disk) given came = came
    by_end (Err fault.Full) given came = came
    by_end (Err fault.Astray) given came = tt
    by_end (Err fault.Memory) given came = tt

    -- The ears went back to the door.
    pub gathered_ends : (end : Result Served KeptFault) (given : Option D) → KeptEnds may_leave faults Ear Attended starts start first bound count ears ears' end given
        → KeptServerEnds may_leave faults Ear Attended starts start first Door bound loops old new end given
    gathered_ends end given came = by_end end given (subst (λ n. KeptEnds may_leave faults Ear Attended starts start first bound n ears ears' end given) counted came)
