-- What holds of the readings of any words.
use Rattle.std.specs.Prelude.{◌≡◌, ◌≢◌, Err}
use Rattle.sk_resp.specs.Request.{Command as Words}
use Rattle.sk_cmd.specs.declared.cmd_fault.CmdFault.TheVariants as fault
use Rattle.sk_cmd.specs.declared.command.Command.{Command}
use Rattle.sk_cmd.specs.Reading.{Read}
use Rattle.sk_cmd.specs.Table.{IsRead}

-- words are one command, or have one first fault; want of memory aside
abbrev pub OneCommand : Type 0
OneCommand = (words : Words) (a b : Read Command) → IsRead words a → IsRead words b → a ≢ Err fault.Memory → b ≢ Err fault.Memory → a ≡ b

-- any words are a command, or have a first fault, that isn't want of memory
abbrev pub SomeCommand : Type 0
SomeCommand = (words : Words) → (out : Read Command) × IsRead words out × (out ≢ Err fault.Memory)
