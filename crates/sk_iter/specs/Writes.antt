-- Which commands may write a plain key.
use Rattle.std.specs.Prelude.{◌≡◌, ◌||◌, Bool, true, false, None, Ok, IfSome}
use Rattle.std.specs.List.{list_any}
use Rattle.std.specs.Str.{bytes_eq}
use Rattle.sk_resp.specs.Spelling.{Bytes}
use Rattle.sk_cmd.specs.Table.{IsRead}
use Rattle.sk_cmd.specs.declared.command.Command.{Command}
use Rattle.sk_cmd.specs.declared.command.Command.TheVariants as command
use Rattle.sk_value.specs.Action.{action_of}
use Rattle.sk_value.specs.Keys.{at}
use Rattle.sk_value.specs.declared.action.Action.{Action}
use Rattle.sk_value.specs.declared.action.Action.TheVariants as action
use Rattle.sk_model.specs.Event.{Ask, Cut, Event, Step, after}
use Rattle.sk_model.specs.World.{World}

-- One that edits, sets, deletes or moves it, or gives it a deadline; and FLUSHALL.
abbrev pub may_write : Bytes → Action → Bool
may_write key action.Ping = false
may_write key (action.Echo text) = false
may_write key action.Quit = false
may_write key (action.ReadOp other look) = false
may_write key (action.WriteOp other edit) = bytes_eq key other
may_write key (action.Set other text options) = bytes_eq key other
may_write key (action.Expire other millis) = bytes_eq key other
may_write key (action.Give other text) = bytes_eq key other
may_write key (action.Exists others) = false
may_write key (action.Delete others) = list_any (bytes_eq key) others
may_write key (action.Move source destination from to) = bytes_eq key source || bytes_eq key destination
may_write key action.Flush = true

-- None of the store's own does.
abbrev pub writes : Bytes → Command → Bool
writes key (command.Plain c) = may_write key (action_of c)
writes key (command.Script c) = false

-- The event may not write the key.
abbrev pub IsOther : Bytes → Event → Type 0
IsOther key (Ask seat now_ words) = (c : Command) → IsRead words (Ok c) → writes key c ≡ false
IsOther key (Cut seat) = Unit {0}

-- What stands under the key has no deadline, if anything does.
abbrev pub HasNoDeadline : Bytes → World → Type 0
HasNoDeadline key w = IfSome (at key w.keys) (λ entry. entry.deadline ≡ None)

-- The step leaves what stands there, and its deadline.
abbrev pub LeavesKey : Bytes → World → Step → Type 0
LeavesKey key w step = at key (after w step).keys ≡ at key w.keys

-- It does so where its event may not write the key, and what stands there has no deadline.
abbrev pub LeavesOther : Bytes → World → Step → Type 0
LeavesOther key w step = IsOther key step.event → HasNoDeadline key w → LeavesKey key w step
