-- Hashes (Redis, "Hashes"): HGET, HLEN, HGETALL, HSET, HDEL. The fields stand in the order of their bytes, each with its value.
use Rattle.std.specs.Prelude.{◌-◌, List, [], ◌∷◌, Option, length, Ok, Err}
use Rattle.std.specs.BTreeMap.{is_at}
use Rattle.std.specs.Map.{lookup}
use Rattle.sk_resp.specs.Spelling.{Bytes}
use Rattle.sk_value.specs.declared.keys_fault.KeysFault.TheVariants as fault
use Rattle.sk_value.specs.declared.read_op.ReadOp.{ReadOp}
use Rattle.sk_value.specs.declared.read_op.ReadOp.TheVariants as look
use Rattle.sk_value.specs.declared.write_op.WriteOp.{WriteOp}
use Rattle.sk_value.specs.declared.write_op.WriteOp.TheVariants as edit
use Rattle.sk_value.specs.Answer.{Answer, AndThen, counted, texts, text_or_null}
use Rattle.sk_resp.specs.WordOrder.{text_cmp}
use Rattle.sk_value.specs.Maps.{with_pairs, without_texts}

abbrev pub Pairs : Type 0
Pairs = List (Bytes × Bytes)

abbrev pub field_of : Bytes → Pairs → Option Bytes
field_of field pairs = lookup (is_at (text_cmp field)) pairs

-- each field has its value; of one field given twice the last value stands
abbrev pub with_fields : Pairs → Pairs → Pairs
with_fields = with_pairs

abbrev pub without_fields : List Bytes → Pairs → Pairs
without_fields = without_texts

-- field, value, field, value and so on
abbrev pub flat : Pairs → List Bytes
flat [] = []
flat (pair ∷ pairs) = pair.0 ∷ pair.1 ∷ flat pairs

-- ## The commands

abbrev pub look_hash : ReadOp → Pairs → Answer
look_hash (look.Hget field) pairs = Ok (text_or_null (field_of field pairs))
look_hash look.Hlen pairs = Ok (counted (length pairs))
look_hash look.Hgetall pairs = Ok (texts (flat pairs))
look_hash other pairs = Err fault.WrongType

-- HSET answers how many fields are new, HDEL how many went.
unfoldable pub edit_hash : WriteOp → Pairs → AndThen Pairs
edit_hash (edit.Hset more) pairs = Ok (counted (length (with_fields more pairs) - length pairs), with_fields more pairs)
edit_hash (edit.Hdel fields) pairs = Ok (counted (length pairs - length (without_fields fields pairs)), without_fields fields pairs)
edit_hash other pairs = Err fault.WrongType
