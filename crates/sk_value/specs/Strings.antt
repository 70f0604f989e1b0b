-- Strings (Redis, "Strings"): GET, INCRBY. SET is a command on keys.
use Rattle.std.specs.Prelude.{ℤ, ◌+ℤ◌, cond, Option, Some, None, Ok, Err}
use Rattle.std.specs.Fmt.{signed_decimal}
use Rattle.sk_resp.specs.Spelling.{Bytes}
use Rattle.sk_resp.specs.declared.reply.Reply.TheVariants as reply
use Rattle.sk_value.specs.declared.keys_fault.KeysFault.TheVariants as fault
use Rattle.sk_value.specs.declared.read_op.ReadOp.{ReadOp}
use Rattle.sk_value.specs.declared.read_op.ReadOp.TheVariants as look
use Rattle.sk_value.specs.declared.write_op.WriteOp.{WriteOp}
use Rattle.sk_value.specs.declared.write_op.WriteOp.TheVariants as edit
use Rattle.sk_value.specs.Answer.{Answer, AndThen}
use Rattle.sk_value.specs.Number.{is_i64, int_of}

abbrev pub look_string : ReadOp → Bytes → Answer
look_string look.Get text = Ok (reply.Bulk text)
look_string other text = Err fault.WrongType

-- the sum is kept as its one spelling
abbrev pub sum : ℤ → Option ℤ → AndThen Bytes
sum n None = Err fault.NotInt
sum n (Some z) = cond (is_i64 (z +ℤ n)) (Ok (reply.Int (z +ℤ n), signed_decimal (z +ℤ n))) (Err fault.Overflow)

unfoldable pub edit_string : WriteOp → Bytes → AndThen Bytes
edit_string (edit.Incrby n) text = sum n (int_of text)
edit_string other text = Err fault.WrongType
