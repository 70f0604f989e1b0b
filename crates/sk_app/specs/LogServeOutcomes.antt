-- The exit status of each outcome of `serve --log`, and what is told of it.
use Rattle.std.specs.Prelude.{◌≡◌, ◌⊎◌, ℕ, Option, Some, None, Result, Ok, Err, codes}
use Rattle.sk_durable.specs.declared.server.KeptFault.{KeptFault}
use Rattle.sk_durable.specs.declared.server.KeptFault.TheVariants as kept
use Rattle.sk_line.specs.declared.fault.LineFault.{LineFault}
use Rattle.sk_line.specs.declared.fault.LineFault.TheVariants as line
use Rattle.sk_resp.specs.Spelling.{Bytes}
use Rattle.sk_serve.specs.declared.serve_end.Served.{Served}
use Rattle.sk_app.specs.Ending.{Reports, Writes}
use Rattle.sk_app.specs.LogOutcomes.{fault_line_of, fault_status_of}
use Rattle.sk_app.specs.Serving.{summary_text}
use Rattle.sk_app.specs.declared.unserved.Unserved.{Unserved}
use Rattle.sk_app.specs.declared.unserved.Unserved.TheVariants as unserved

-- the summary, or why there is none
abbrev pub LogServeOutcome : Type 0
LogServeOutcome = Result Bytes Unserved

abbrev pub by_line : LineFault → Unserved
by_line line.Refused = unserved.Line
by_line line.Memory = unserved.Memory

-- of a server over the file
abbrev pub kept_status_of : KeptFault → ℕ
kept_status_of kept.Memory = 5
kept_status_of kept.Failed = 6
kept_status_of kept.Spent = 6
kept_status_of kept.Disk = 10
kept_status_of kept.Astray = 10
kept_status_of kept.Full = 12

-- a log that can't be opened has that of `pipe --log`
abbrev pub status_of : Unserved → ℕ
status_of unserved.Line = 2
status_of unserved.Memory = 5
status_of unserved.Shelf = 10
status_of (unserved.Log f) = fault_status_of f
status_of (unserved.Kept f) = kept_status_of f

abbrev pub kept_line_of : KeptFault → Option Bytes
kept_line_of kept.Spent = Some (codes "seats spent")
kept_line_of other = None

abbrev pub line_of : Unserved → Option Bytes
line_of (unserved.Log f) = fault_line_of f
line_of (unserved.Kept f) = kept_line_of f
line_of other = None

-- The summary is written with status 0; else what is told of the cause, with its own status.
abbrev pub Tells : LogServeOutcome → ℕ → Option Bytes → Option Bytes → Type 0
Tells (Ok summary) status before after = Writes summary 0 status before after
Tells (Err why) status before after = Reports (line_of why) (status_of why) status before after

-- An end of the server comes to its outcome, or there was no memory for the summary.
abbrev pub IsOutcomeOf : Result Served KeptFault → LogServeOutcome → Type 0
IsOutcomeOf (Ok s) outcome = (outcome ≡ Ok (summary_text s)) ⊎ (outcome ≡ Err unserved.Memory)
IsOutcomeOf (Err f) outcome = outcome ≡ Err (unserved.Kept f)
