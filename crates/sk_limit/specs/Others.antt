-- Which commands may write a key: all others leave it alone.
use Rattle.std.specs.Prelude.{◌≡◌, Bool, true, false, ◌||◌, Ok}
use Rattle.std.specs.List.{list_any}
use Rattle.std.specs.Str.{bytes_eq}
use Rattle.sk_resp.specs.Spelling.{Bytes}
use Rattle.sk_cmd.specs.Table.{IsRead}
use Rattle.sk_cmd.specs.declared.command.Command.{Command}
use Rattle.sk_cmd.specs.declared.command.Command.TheVariants as command
use Rattle.sk_value.specs.Action.{action_of}
use Rattle.sk_value.specs.declared.action.Action.{Action}
use Rattle.sk_value.specs.declared.action.Action.TheVariants as action
use Rattle.sk_model.specs.Change.{perform}
use Rattle.sk_model.specs.Event.{Event, Happens}
use Rattle.sk_model.specs.Outcome.{Outcome}
use Rattle.sk_model.specs.World.{World}
use Rattle.sk_limit.specs.Own.{Leaves, words_of}

-- it names the key in a write, or is FLUSHALL
abbrev pub may_write : Bytes → Action → Bool
may_write key (action.WriteOp name edit) = bytes_eq name key
may_write key (action.Set name text options) = bytes_eq name key
may_write key (action.Expire name millis) = bytes_eq name key
may_write key (action.Give name text) = bytes_eq name key
may_write key (action.Delete names) = list_any (λ name. bytes_eq name key) names
may_write key (action.Move source destination from to) = bytes_eq source key || bytes_eq destination key
may_write key action.Flush = true
may_write key other = false

-- The commands of the store's own write no plain key.
abbrev pub writes : Bytes → Command → Bool
writes key (command.Plain c) = may_write key (action_of c)
writes key (command.Script c) = false

-- An event whose words aren't read as a command that may write the key leaves it alone; and so does a cut.
abbrev pub OthersLeave : Type 0
OthersLeave = (w : World) (event : Event) (o : Outcome) (key : Bytes) → ((c : Command) → IsRead (words_of event) (Ok c) → writes key c ≡ false) → Happens w event o
    → Leaves key w (perform w o.changes)
