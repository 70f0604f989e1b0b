-- The exit status of each failure of a program, and the line that it prints.
use Rattle.std.specs.Prelude.{◌++◌, ◌-◌, ℕ, Option, Some, None, codes, drop, length, take}
use Rattle.std.specs.List.{flat_map}
use Rattle.hex.specs.Hex.{encode_lower}
use Rattle.sk_resp.specs.Reply.{wire}
use Rattle.sk_compare.specs.DifferenceText.{difference_text}
use Rattle.sk_resp.specs.Spelling.{Bytes}
use Rattle.sk_resp.specs.declared.reply.Reply.{Reply}
use Rattle.sk_edge.specs.declared.door.DoorFault.{DoorFault}
use Rattle.sk_edge.specs.declared.door.DoorFault.TheVariants as door
use Rattle.sk_launcher.specs.declared.launch_fault.LaunchFault.{LaunchFault}
use Rattle.sk_launcher.specs.declared.launch_fault.LaunchFault.TheVariants as launch
use Rattle.sk_line.specs.declared.fault.LineFault.{LineFault}
use Rattle.sk_line.specs.declared.fault.LineFault.TheVariants as line
use Rattle.sk_link.specs.declared.link.LinkFault.TheVariants as link
use Rattle.sk_app.specs.Visible.{shown}
use Rattle.sk_app.specs.declared.failure.Failure.{Failure}
use Rattle.sk_app.specs.declared.failure.Failure.TheVariants.{Line, Memory, Door, Seats, Link, Refused, Cursor, GenLimit, Differs}

-- The status, by the cause.
abbrev pub status_of : Failure → ℕ
status_of Line = 2
status_of Memory = 5
status_of (Link link.Memory) = 5
status_of Door = 6
status_of Seats = 6
status_of (Link link.Failed) = 6
status_of (Link link.Ended) = 6
status_of (Link (link.Unreadable bytes)) = 6
status_of (Refused r) = 7
status_of (Cursor bytes) = 7
status_of GenLimit = 7
status_of (Differs d) = 8

-- a reply's text without its first byte, CR and LF: of an error reply, the error; each control character is shown by its number
abbrev pub reply_line : Reply → Bytes
reply_line r = flat_map shown (drop 1 (take (length (wire r) - 2) (wire r)))

-- What is printed, and LF behind it.
abbrev pub line_of : Failure → Option Bytes
line_of (Link (link.Unreadable bytes)) = Some (codes "unreadable " ++ encode_lower bytes)
line_of (Refused r) = Some (reply_line r)
line_of (Cursor bytes) = Some (codes "cursor " ++ encode_lower bytes)
line_of GenLimit = Some (codes "gen limit")
line_of Seats = Some (codes "seats spent")
line_of (Differs d) = Some (difference_text d)
line_of other = None

-- ## Failures by faults of others

abbrev pub by_line : LineFault → Failure
by_line line.Refused = Line
by_line line.Memory = Memory

abbrev pub by_door : DoorFault → Failure
by_door door.Failed = Door
by_door door.Memory = Memory

abbrev pub by_launch : LaunchFault → Failure
by_launch launch.Memory = Memory
by_launch launch.Door = Door
by_launch (launch.Link f) = Link f
by_launch (launch.Refused r) = Refused r
by_launch launch.GenLimit = GenLimit
