-- Why a launcher has no counts, and which of several faults it answers.
use Rattle.std.specs.Prelude.{ℕ, Bool, true, false, length, nat_eq}
use Rattle.sk_edge.specs.declared.door.DoorFault.{DoorFault}
use Rattle.sk_edge.specs.declared.door.DoorFault.TheVariants as door
use Rattle.sk_link.specs.declared.link.LinkFault.TheVariants as link
use Rattle.sk_poller.specs.declared.report.PollFault.{PollFault}
use Rattle.sk_poller.specs.declared.report.PollFault.TheVariants as poll
use Rattle.sk_worker.specs.declared.turn.WorkFault.{WorkFault}
use Rattle.sk_worker.specs.declared.turn.WorkFault.TheVariants as work
use Rattle.sk_launcher.specs.declared.launch_fault.LaunchFault.{LaunchFault}
use Rattle.sk_launcher.specs.declared.launch_fault.LaunchFault.TheVariants as fault

-- the exit status
abbrev pub status_of : LaunchFault → ℕ
status_of fault.Memory = 5
status_of (fault.Link link.Memory) = 5
status_of fault.Door = 6
status_of (fault.Link f) = 6
status_of (fault.Refused reply) = 7
status_of fault.GenLimit = 7

-- The server is away: the door gave no connection, or a link failed, or it ended and nothing of a reply had come.
abbrev pub is_away : LaunchFault → Bool
is_away fault.Memory = false
is_away fault.Door = true
is_away (fault.Link link.Failed) = true
is_away (fault.Link (link.Unreadable bytes)) = nat_eq (length bytes) 0
is_away (fault.Link link.Ended) = true
is_away (fault.Link link.Memory) = false
is_away (fault.Refused reply) = false
is_away fault.GenLimit = false

abbrev pub by_door : DoorFault → LaunchFault
by_door door.Failed = fault.Door
by_door door.Memory = fault.Memory

abbrev pub by_poll : PollFault → LaunchFault
by_poll (poll.Link f) = fault.Link f
by_poll (poll.Refused reply) = fault.Refused reply
by_poll poll.Memory = fault.Memory

-- A worker whose turns are told by their events never has the fault that it had ended before.
abbrev pub by_work : WorkFault → LaunchFault
by_work (work.Link f) = fault.Link f
by_work (work.Refused reply) = fault.Refused reply
by_work work.GenLimit = fault.GenLimit
by_work work.Ended = fault.Memory
by_work work.Memory = fault.Memory
