-- What alone may keep a program whose words are a line of it from status 0, besides its sink and want of memory.
use Rattle.std.specs.Prelude.{◌≡◌, ◌≢◌, ◌⊎◌, ℕ, List, Result, Err}
use Rattle.clap.specs.Words.{Text}
use Rattle.sk_base.specs.Outside.{Rose}
use Rattle.sk_base.specs.declared.sink.Sink as a_sink
use Rattle.sk_base.specs.declared.source.Source as a_source
use Rattle.sk_edge.specs.declared.door.Door as a_door
use Rattle.sk_launcher.specs.declared.counts.Counts.{Counts}
use Rattle.sk_launcher.specs.declared.launch_fault.LaunchFault.{LaunchFault}
use Rattle.sk_launcher.specs.declared.launch_fault.LaunchFault.TheVariants as launch
use Rattle.sk_launcher.specs.declared.work_settings.WorkSettings.{WorkSettings}
use Rattle.sk_line.specs.Lines.{IsServe}
use Rattle.sk_line.specs.Work.{IsWork}
use Rattle.sk_line.specs.declared.serve_line.ServeLine.{ServeLine}
use Rattle.sk_link.specs.Call.{Call}
use Rattle.sk_link.specs.Wire.{WireCarries, WireState}
use Rattle.sk_serve.specs.declared.serve_end.ServeEnd.{ServeEnd}
use Rattle.sk_serve.specs.declared.serve_end.ServeEnd.TheVariants as serve_end
use Rattle.sk_app.specs.Dialogue.{DoorTells, door_tells, fresh}
use Rattle.sk_app.specs.Paging.{IsPageSpoilt}
use Rattle.sk_app.specs.Pushing.{IsPushSpoilt}
use Rattle.sk_app.specs.declared.job.PushJob.{PushJob}

-- All was done; or there was no memory; or this hindered it.
abbrev pub DoneOr : Type 0 → ℕ → Type 0
DoneOr Hindered status = (status ≡ 0) ⊎ (status ≡ 5) ⊎ Hindered

-- A server by the line failed, or a loop of it had used up its numbers of seats.
abbrev pub ServeHindered : List Text → (ServeLine → ServeEnd → Type 0) → Type 0
ServeHindered words Ended = (line : ServeLine) × IsServe words line × (Ended line serve_end.Failed ⊎ Ended line serve_end.Spent)

-- The door gave no connection, or what was asked over the one that it gave was spoilt.
pub data IsBroken {Conn : Type 0} (before after : DoorTells Conn) (Carries : WireState Conn → WireState Conn → List Call → Type 0)
    (Spoilt : (List Call → Type 0) → Type 0) : Type 0 where
  closed : Rose before.faults after.faults → IsBroken before after Carries Spoilt
  spoilt : (conn : Conn) (end : WireState Conn) → Spoilt (Carries (fresh conn) end) → IsBroken before after Carries Spoilt

-- The same of a door and its connections, by what these tell.
abbrev pub Breaks : {N Conn Ear : Type 0} → a_door.Ghosts N Conn Ear → a_source.Ghosts Conn → a_sink.Ghosts Conn → N → N →
    ((List Call → Type 0) → Type 0) → Type 0
Breaks OfDoor OfSource OfSink net net_after Spoilt = IsBroken (door_tells OfDoor net) (door_tells OfDoor net_after)
    (WireCarries OfSink.taken OfSource.left OfSource.read_faults OfSink.write_faults) Spoilt

abbrev pub StatusHindered : {N Conn Ear : Type 0} → a_door.Ghosts N Conn Ear → a_source.Ghosts Conn → a_sink.Ghosts Conn → N → N → Type 0
StatusHindered OfDoor OfSource OfSink net net_after = Breaks OfDoor OfSource OfSink net net_after IsPageSpoilt

abbrev pub PushHindered : {N Conn Ear : Type 0} → a_door.Ghosts N Conn Ear → a_source.Ghosts Conn → a_sink.Ghosts Conn → N → N → Type 0
PushHindered OfDoor OfSource OfSink net net_after = (job : PushJob) × Breaks OfDoor OfSource OfSink net net_after (IsPushSpoilt job)

-- A launcher met a fault that is no want of memory.
abbrev pub WorkHindered : ℕ → List Text → (WorkSettings → Result Counts LaunchFault → Type 0) → Type 0
WorkHindered teams words Launches = (settings : WorkSettings) × IsWork teams words settings × (f : LaunchFault) × (f ≢ launch.Memory)
    × Launches settings (Err f)
