-- The exit status of each outcome of `pipe --log`, and the line that is told of it.
use Rattle.std.specs.Prelude.{◌++◌, ℕ, Option, Some, None, Result, Ok, Err, codes}
use Rattle.std.specs.Fmt.{decimal}
use Rattle.sk_aof.specs.declared.log_end.LogEnd.{LogEnd}
use Rattle.sk_aof.specs.declared.log_end.LogEnd.TheVariants.{Pipe, Fault}
use Rattle.sk_line.specs.declared.fault.LineFault.{LineFault}
use Rattle.sk_line.specs.declared.fault.LineFault.TheVariants as line
use Rattle.sk_log.specs.declared.fault.LogFault.{LogFault}
use Rattle.sk_log.specs.declared.fault.LogFault.TheVariants as fault
use Rattle.sk_pipe.specs.Run.{status_of as pipe_status_of}
use Rattle.sk_resp.specs.Spelling.{Bytes}
use Rattle.sk_app.specs.declared.log_outcome.Unopened.{Unopened}
use Rattle.sk_app.specs.declared.log_outcome.Unopened.TheVariants as unopened

-- how the pipe over the file ended, or why there was none
abbrev pub LogOutcome : Type 0
LogOutcome = Result LogEnd Unopened

abbrev pub by_line : LineFault → Unopened
by_line line.Refused = unopened.Line
by_line line.Memory = unopened.Memory

-- of a log that can't go on
abbrev pub fault_status_of : LogFault → ℕ
fault_status_of fault.Memory = 5
fault_status_of fault.Disk = 10
fault_status_of fault.NotALog = 11
fault_status_of (fault.Damaged at) = 11
fault_status_of fault.Full = 12

-- of words that opened no file
abbrev pub unopened_status_of : Unopened → ℕ
unopened_status_of unopened.Line = 2
unopened_status_of unopened.Memory = 5
unopened_status_of unopened.Shelf = 10

-- a pipe's end has that of `pipe`
abbrev pub status_of : LogOutcome → ℕ
status_of (Ok (Pipe end)) = pipe_status_of end
status_of (Ok (Fault f)) = fault_status_of f
status_of (Err why) = unopened_status_of why

abbrev pub fault_line_of : LogFault → Option Bytes
fault_line_of fault.NotALog = Some (codes "not a log")
fault_line_of (fault.Damaged at) = Some (codes "damaged at " ++ decimal at)
fault_line_of other = None

abbrev pub line_of : LogOutcome → Option Bytes
line_of (Ok (Fault f)) = fault_line_of f
line_of other = None
