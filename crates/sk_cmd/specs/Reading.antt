-- What reading a command, or a part of it, comes to.
use Rattle.std.specs.Prelude.{◌≡◌, ◌⊎◌, Result, Err, MatchResult}
use Rattle.sk_cmd.specs.declared.cmd_fault.CmdFault.{CmdFault}
use Rattle.sk_cmd.specs.declared.cmd_fault.CmdFault.TheVariants as fault

abbrev pub Read : Type 0 → Type 0
Read A = Result A CmdFault

-- What is read first, and what follows from it. Of several faults the first is the answer.
abbrev pub Then : {A B : Type 0} → (Read A → Type 0) → Read B → (A → Type 0) → Type 0
Then {A} IsFirst out next = (r : Read A) × IsFirst r × MatchResult r next (λ e. out ≡ Err e)

-- a reading that may want memory
abbrev pub OrMemory : {A : Type 0} → (Read A → Type 0) → Read A → Type 0
OrMemory reads out = (out ≡ Err fault.Memory) ⊎ reads out
