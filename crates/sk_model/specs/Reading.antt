-- What the words of a command are to a pipe: a command for the store, a word of the pipe's own, or neither.
use Rattle.std.specs.Prelude.{◌≡◌, ◌≢◌, ℕ, ℤ, pos, negsuc, nat_le, cond, [], ◌∷◌, Option, Some, None, Result, Ok, Err, Bool, false, ◌||◌}
use Rattle.std.specs.Bool.{MatchBool}
use Rattle.std.specs.Str.{str_eq_ignore_ascii_case}
use Rattle.sk_base.specs.declared.limits.TheConstants.{LAST_SEAT}
use Rattle.sk_resp.specs.Spelling.{Bytes}
use Rattle.sk_resp.specs.Number.{IsInt}
use Rattle.sk_resp.specs.Name.{spelling}
pub use Rattle.sk_resp.specs.Request.{Command as Words}
use Rattle.sk_resp.specs.declared.name.Name.{Name}
use Rattle.sk_resp.specs.declared.name.Name.TheVariants.{As, Now, Cut}
use Rattle.sk_resp.specs.declared.say.Say.{Say}
use Rattle.sk_resp.specs.declared.say.Say.TheVariants as say
use Rattle.sk_cmd.specs.declared.cmd_fault.CmdFault.{CmdFault}
use Rattle.sk_cmd.specs.declared.cmd_fault.CmdFault.TheVariants.{Memory}
use Rattle.sk_cmd.specs.declared.command.Command.{Command}
use Rattle.sk_cmd.specs.Fault.{fault_say}
use Rattle.sk_cmd.specs.Table.{IsRead}

pub data PipeCommand : Type 0 where
  -- a refusal that comes from the words alone
  Refused : (say : Say) → PipeCommand
  -- `SK.NOW`: the moment that the store is handed from now on
  SetTime : (now : ℕ) → PipeCommand
  -- `SK.AS`: the seat that sends what follows
  ActAs : (seat : ℕ) → PipeCommand
  -- `SK.CUT`: a seat is cut off
  CutSeat : (seat : ℕ) → PipeCommand
  -- a command for the store
  RunCommand : (command : Command) → PipeCommand

abbrev pub is_word : Name → Bytes → Bool
is_word name word = str_eq_ignore_ascii_case word (spelling name)

-- ## The pipe's own words: SK.NOW milliseconds, SK.AS seat, SK.CUT seat

-- a moment is a number that isn't below zero
abbrev pub moment_said : Option ℤ → PipeCommand
moment_said (Some (pos n)) = SetTime n
moment_said (Some (negsuc n)) = Refused say.NotInt
moment_said None = Refused say.NotInt

abbrev pub last_seat : ℕ
last_seat = LAST_SEAT

-- and a seat one of 32 bits
abbrev pub seat_said : (ℕ → PipeCommand) → Option ℤ → PipeCommand
seat_said says (Some (pos n)) = cond (nat_le n last_seat) (says n) (Refused say.NotInt)
seat_said says (Some (negsuc n)) = Refused say.NotInt
seat_said says None = Refused say.NotInt

-- one number follows the name
abbrev pub IsNumber : Name → (Option ℤ → PipeCommand) → Words → PipeCommand → Type 0
IsNumber name meant [] said = said ≡ Refused (say.Arity name)
IsNumber name meant (text ∷ []) said = (n : Option ℤ) × IsInt text n × (said ≡ meant n)
IsNumber name meant (text ∷ more ∷ words) said = said ≡ Refused (say.Arity name)

-- ## Commands for the store

abbrev pub told : Result Command CmdFault → PipeCommand
told (Ok c) = RunCommand c
told (Err fault) = Refused (fault_say fault)

-- what the table of commands reads; want of memory is no reading
abbrev pub IsAsked : Words → PipeCommand → Type 0
IsAsked words said = (r : Result Command CmdFault) × IsRead words r × (r ≢ Err Memory) × (said ≡ told r)

-- ## All words

-- SK.NOW, SK.AS or SK.CUT comes first
abbrev pub is_own : Words → Bool
is_own [] = false
is_own (word ∷ words) = is_word Now word || (is_word As word || is_word Cut word)

abbrev pub IsSaid : Words → PipeCommand → Type 0
IsSaid [] said = IsAsked [] said
IsSaid (word ∷ words) said = MatchBool (is_word Now word) (IsNumber Now moment_said words said)
    (MatchBool (is_word As word) (IsNumber As (seat_said ActAs) words said)
    (MatchBool (is_word Cut word) (IsNumber Cut (seat_said CutSeat) words said)
    (IsAsked (word ∷ words) said)))

-- Any words have a reading, and in it there was memory for them.
abbrev pub SomeReading : Type 0
SomeReading = (words : Words) → (said : PipeCommand) × IsSaid words said
