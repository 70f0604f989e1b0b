-- Values of any kind. A command for another kind is refused.
use Rattle.std.specs.Prelude.{ℕ, ◌==◌, ◌-◌, ◌^◌, min, negsuc, [], codes, length, Bool, false, Option, Some, None, Ok, Err}
use Rattle.std.specs.Str.{bytes_eq}
use Rattle.sk_resp.specs.Spelling.{Bytes}
use Rattle.sk_resp.specs.declared.reply.Reply.{Reply}
use Rattle.sk_resp.specs.declared.reply.Reply.TheVariants as reply
use Rattle.sk_resp.specs.declared.say.Say.TheVariants as say
use Rattle.sk_resp.specs.declared.kind.Kind.{Kind}
use Rattle.sk_resp.specs.declared.kind.Kind.TheVariants as kind
use Rattle.sk_value.specs.declared.value.Value.{Value}
use Rattle.sk_value.specs.declared.value.Value.TheVariants as value
use Rattle.sk_value.specs.declared.entry.Entry.{Entry}
use Rattle.sk_value.specs.declared.read_op.ReadOp.{ReadOp}
use Rattle.sk_value.specs.declared.read_op.ReadOp.TheVariants as look
use Rattle.sk_value.specs.declared.write_op.WriteOp.{WriteOp}
use Rattle.sk_value.specs.declared.write_op.WriteOp.TheVariants as edit
use Rattle.sk_value.specs.Answer.{Answer, AndThen, counted}
use Rattle.sk_value.specs.Strings.{look_string, edit_string}
use Rattle.sk_value.specs.Lists.{look_list, edit_list}
use Rattle.sk_value.specs.Sets.{look_set, edit_set}
use Rattle.sk_value.specs.Hashes.{look_hash, edit_hash}
use Rattle.sk_value.specs.Sorted.{look_sorted, edit_sorted}

abbrev pub kind_of : Value → Kind
kind_of (value.String text) = kind.String
kind_of (value.List list) = kind.List
kind_of (value.Set members) = kind.Set
kind_of (value.Hash pairs) = kind.Hash
kind_of (value.Sorted pairs) = kind.Sorted

-- A list, a set, a hash or a sorted set with nothing in it. An empty string stays a value.
abbrev pub is_empty : Value → Bool
is_empty (value.String text) = false
is_empty (value.List list) = length list == 0
is_empty (value.Set members) = length members == 0
is_empty (value.Hash pairs) = length pairs == 0
is_empty (value.Sorted pairs) = length pairs == 0

-- the value is a string, and exactly this one
abbrev pub is_string : Bytes → Value → Bool
is_string text (value.String own) = bytes_eq own text
is_string text other = false

-- ## Reading

-- what a command that reads a value answers
abbrev pub look_in : ReadOp → Value → Answer
look_in l (value.String text) = look_string l text
look_in l (value.List list) = look_list l list
look_in l (value.Set members) = look_set l members
look_in l (value.Hash pairs) = look_hash l pairs
look_in l (value.Sorted pairs) = look_sorted l pairs

-- What it answers where there is no key: what it would of a value with nothing in it.
abbrev pub look_absent : ReadOp → Answer
look_absent look.Get = Ok reply.Null
look_absent look.KindOf = Ok (reply.Say (say.Kind kind.Absent))
look_absent look.Pttl = Ok (reply.Int (negsuc 1))
look_absent (look.Lrange first last) = look_list (look.Lrange first last) []
look_absent look.Llen = look_list look.Llen []
look_absent look.Smembers = look_set look.Smembers []
look_absent look.Scard = look_set look.Scard []
look_absent (look.Sismember text) = look_set (look.Sismember text) []
look_absent (look.Hget field) = look_hash (look.Hget field) []
look_absent look.Hlen = look_hash look.Hlen []
look_absent look.Hgetall = look_hash look.Hgetall []
look_absent look.Zcard = look_sorted look.Zcard []
look_absent (look.Zscore member) = look_sorted (look.Zscore member) []
look_absent (look.Zrange first last scores) = look_sorted (look.Zrange first last scores) []
look_absent (look.Zrangebyscore least greatest options) = look_sorted (look.Zrangebyscore least greatest options) []

-- How many milliseconds are left, as far as an integer of 64 bits goes; -1 where there is no deadline.
abbrev pub left_until : ℕ → Option ℕ → Reply
left_until now None = reply.Int (negsuc 0)
left_until now (Some deadline) = counted (min (deadline - now) (2 ^ 63 - 1))

abbrev pub look_there : ℕ → ReadOp → Entry → Answer
look_there now look.KindOf entry = Ok (reply.Say (say.Kind (kind_of entry.value)))
look_there now look.Pttl entry = Ok (left_until now entry.deadline)
look_there now other entry = look_in other entry.value

-- what a command that reads one key answers at a moment, where the key holds this
abbrev pub look_at : ℕ → ReadOp → Option Entry → Answer
look_at now l None = look_absent l
look_at now l (Some entry) = look_there now l entry

-- ## Editing

abbrev pub as_value : {A : Type 0} → (A → Value) → AndThen A → AndThen Value
as_value make (Ok p) = Ok (p.0, make p.1)
as_value make (Err f) = Err f

-- what a command that edits a value answers, and the value afterwards
abbrev pub edit_in : WriteOp → Value → AndThen Value
edit_in e (value.String text) = as_value value.String (edit_string e text)
edit_in e (value.List list) = as_value value.List (edit_list e list)
edit_in e (value.Set members) = as_value value.Set (edit_set e members)
edit_in e (value.Hash pairs) = as_value value.Hash (edit_hash e pairs)
edit_in e (value.Sorted pairs) = as_value value.Sorted (edit_sorted e pairs)

-- the value on which it acts where there is no key
abbrev pub blank : WriteOp → Value
blank (edit.Incrby n) = value.String (codes "0")
blank (edit.Push side more) = value.List []
blank (edit.Lrem count text) = value.List []
blank (edit.Sadd more) = value.Set []
blank (edit.Srem others) = value.Set []
blank (edit.Hset more) = value.Hash []
blank (edit.Hdel fields) = value.Hash []
blank (edit.Zadd more) = value.Sorted []
blank (edit.Zrem members) = value.Sorted []
blank (edit.Zremrangebyrank first last) = value.Sorted []
blank (edit.Zremrangebyscore least greatest) = value.Sorted []
