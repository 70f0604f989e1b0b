-- Replies on the wire (RESP2, "RESP protocol description"), one spelling each.
use Rattle.std.specs.Prelude.{List, ℕ, codes, length, ◌++◌, ◌∷◌, [], ◌&&◌, nat_le, if◌then◌else◌}
use Rattle.std.specs.Fmt.{signed_decimal}
use Rattle.sk_resp.specs.Spelling.{Bytes, plus, minus, colon, line, header, bulk, joined}
use Rattle.sk_resp.specs.Name.{spelling}
use Rattle.sk_resp.specs.Kind.{kind_text}
use Rattle.sk_resp.specs.Refusal.{refusal_text}
use Rattle.sk_resp.specs.declared.wire_fault.WireFault.{WireFault}
use Rattle.sk_resp.specs.declared.wire_fault.WireFault.TheVariants as fault
use Rattle.sk_resp.specs.declared.say.Say.{Say}
use Rattle.sk_resp.specs.declared.say.Say.TheVariants as say
use Rattle.sk_resp.specs.declared.reply.Reply.{Reply}
use Rattle.sk_resp.specs.declared.reply.Reply.TheVariants as reply

-- ## Fixed texts

-- A byte as it is shown in a text: one that isn't a visible ASCII character or a space is a `?`.
abbrev pub shown : ℕ → ℕ
shown byte = if nat_le 32 byte && nat_le byte 126 then byte else 63

abbrev pub fault_text : WireFault → Bytes
fault_text fault.MultiLength = codes "-ERR Protocol error: invalid multibulk length"
fault_text fault.BulkLength = codes "-ERR Protocol error: invalid bulk length"
fault_text (fault.NoDollar byte) = codes "-ERR Protocol error: expected '$', got '" ++ shown byte ∷ 39 ∷ []
fault_text fault.Quote = codes "-ERR Protocol error: quotes in inline request"
fault_text fault.InlineLong = codes "-ERR Protocol error: too big inline request"
fault_text fault.Limit = codes "-ERR Protocol error: command too big"
fault_text fault.Memory = codes "-OOM want of memory"

-- the fixed texts, with the byte that names their kind in front
abbrev pub say_text : Say → Bytes
say_text say.Ok = codes "+OK"
say_text say.Pong = codes "+PONG"
say_text (say.Kind kind) = kind_text kind
say_text say.Unknown = codes "-ERR unknown command"
say_text (say.Arity name) = codes "-ERR wrong number of arguments for '" ++ spelling name ++ codes "' command"
say_text say.NotInt = codes "-ERR value is not an integer or out of range"
say_text say.NotScore = codes "-ERR value is not a valid float"
say_text say.BadBound = codes "-ERR min or max is not a float"
say_text say.Syntax = codes "-ERR syntax error"
say_text say.WrongType = codes "-WRONGTYPE Operation against a key holding the wrong kind of value"
say_text say.Overflow = codes "-ERR increment or decrement would overflow"
say_text say.BadExpire = codes "-ERR invalid expire time"
say_text (say.Refused refusal) = refusal_text refusal
say_text say.Oom = codes "-OOM want of memory"
say_text (say.Protocol fault) = fault_text fault

-- ## Replies

-- the line with the number of elements, and their texts
abbrev pub array_text : List Bytes → Bytes
array_text texts = header (length texts) ++ joined texts

-- The text of a reply. The elements of an array are seen as their texts.
abbrev pub wire : Reply → Bytes
wire (reply.Say s) = line (say_text s)
wire (reply.Simple text) = line (plus ∷ text)
wire (reply.Error text) = line (minus ∷ text)
wire (reply.Int n) = line (colon ∷ signed_decimal n)
wire (reply.Bulk bytes) = bulk bytes
wire reply.Null = line (codes "$-1")
wire (reply.Array texts) = array_text texts
wire reply.NullArray = line (codes "*-1")
