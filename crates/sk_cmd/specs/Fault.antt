-- The text that tells a client of a fault.
use Rattle.sk_resp.specs.declared.say.Say.{Say}
use Rattle.sk_resp.specs.declared.say.Say.TheVariants as say
use Rattle.sk_cmd.specs.declared.cmd_fault.CmdFault.{CmdFault}
use Rattle.sk_cmd.specs.declared.cmd_fault.CmdFault.TheVariants as fault

abbrev pub fault_say : CmdFault → Say
fault_say fault.Unknown = say.Unknown
fault_say (fault.Arity name) = say.Arity name
fault_say fault.NotInt = say.NotInt
fault_say fault.NotScore = say.NotScore
fault_say fault.BadBound = say.BadBound
fault_say fault.Syntax = say.Syntax
fault_say fault.Memory = say.Oom
