-- The two halves of LMOVE between two keys.
use Rattle.std.specs.Prelude.{◌≡◌, List, [], Option, Some, None, MatchOption, option_map}
use Rattle.std.specs.Option.{unwrap_or}
use Rattle.sk_resp.specs.Spelling.{Bytes}
use Rattle.sk_cmd.specs.declared.argument.Side.{Side}
use Rattle.sk_value.specs.declared.value.Value.TheVariants as value
use Rattle.sk_value.specs.Lists.{push_one, take_one}
use Rattle.sk_value.specs.Keys.{Keys, at, put}
use Rattle.sk_value.specs.Apply.{list_at, deadline_at, put_list}

-- the list under the name, with nothing in it where there is none
abbrev pub list_under : Bytes → Keys → List Bytes
list_under name keys = unwrap_or (list_at (at name keys)) []

abbrev pub push_at : Bytes → Side → Bytes → Keys → Keys
push_at name side text keys = put name (record { value = value.List (push_one side text (list_under name keys)); deadline = deadline_at (at name keys) }) keys

-- the text at that end, and the keys without it
abbrev pub take_at : Bytes → Side → Keys → Option (Bytes × Keys)
take_at name side keys = option_map (λ taken. (taken.0, put_list name taken.1 (deadline_at (at name keys)) keys)) (take_one side (list_under name keys))

-- The text that was found there is this one, and these keys are left; or there was none.
abbrev pub IsTaken : Option (Bytes × Keys) → Option Bytes → Keys → Type 0
IsTaken found text after = MatchOption text (found ≡ None) (λ text. found ≡ Some (text, after))

-- the list when what was taken from it has come back at that end
abbrev pub turned : Side → List Bytes → Option (Bytes × List Bytes) → List Bytes
turned to list None = list
turned to list (Some taken) = push_one to taken.0 taken.1
