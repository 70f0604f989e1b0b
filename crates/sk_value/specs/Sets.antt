-- Sets (Redis, "Sets"): SMEMBERS, SCARD, SISMEMBER, SADD, SREM. The members stand in the order of their bytes.
use Rattle.std.specs.Prelude.{◌-◌, List, [], ◌∷◌, Bool, length, Ok, Err}
use Rattle.std.specs.List.{list_any}
use Rattle.std.specs.BTreeMap.{is_at}
use Rattle.std.specs.BTreeSet.{insert_key}
use Rattle.std.specs.Set.{remove_key}
use Rattle.sk_resp.specs.Spelling.{Bytes}
use Rattle.sk_value.specs.declared.keys_fault.KeysFault.TheVariants as fault
use Rattle.sk_value.specs.declared.read_op.ReadOp.{ReadOp}
use Rattle.sk_value.specs.declared.read_op.ReadOp.TheVariants as look
use Rattle.sk_value.specs.declared.write_op.WriteOp.{WriteOp}
use Rattle.sk_value.specs.declared.write_op.WriteOp.TheVariants as edit
use Rattle.sk_value.specs.Answer.{Answer, AndThen, counted, one_if, texts}
use Rattle.sk_resp.specs.WordOrder.{is_member, text_cmp}

-- each at its place in the order, where it isn't there
abbrev pub with_members : List Bytes → List Bytes → List Bytes
with_members [] members = members
with_members (text ∷ more) members = with_members more (insert_key text_cmp members text)

abbrev pub without_members : List Bytes → List Bytes → List Bytes
without_members [] members = members
without_members (text ∷ more) members = without_members more (remove_key (is_at (text_cmp text)) members)

-- ## The commands

abbrev pub look_set : ReadOp → List Bytes → Answer
look_set look.Smembers members = Ok (texts members)
look_set look.Scard members = Ok (counted (length members))
look_set (look.Sismember text) members = Ok (one_if (is_member text members))
look_set other members = Err fault.WrongType

-- SADD answers how many members are new, SREM how many went.
unfoldable pub edit_set : WriteOp → List Bytes → AndThen (List Bytes)
edit_set (edit.Sadd more) members = Ok (counted (length (with_members more members) - length members), with_members more members)
edit_set (edit.Srem others) members = Ok (counted (length members - length (without_members others members)), without_members others members)
edit_set other members = Err fault.WrongType
