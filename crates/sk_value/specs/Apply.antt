-- What each action answers, and what it does to the plain keys.
use Rattle.std.specs.Prelude.{ℕ, ◌==◌, ◌+◌, ◌-◌, ◌*◌, ℤ, pos, negsuc, List, [], Option, Some, None, Bool, false, cond, ◌&&◌, nat_lt, nat_le, length, Result, Ok, Err}
use Rattle.std.specs.Option.{is_some}
use Rattle.std.specs.Str.{bytes_eq}
use Rattle.sk_base.specs.declared.limits.TheConstants.{LAST_CALENDAR_MOMENT}
use Rattle.sk_resp.specs.Spelling.{Bytes}
use Rattle.sk_resp.specs.declared.reply.Reply.{Reply}
use Rattle.sk_resp.specs.declared.reply.Reply.TheVariants as reply
use Rattle.sk_resp.specs.declared.say.Say.TheVariants as say
use Rattle.sk_cmd.specs.declared.argument.Side.{Side}
use Rattle.sk_cmd.specs.declared.argument.Expire.{Expire}
use Rattle.sk_cmd.specs.declared.argument.Expire.TheVariants as expire
use Rattle.sk_cmd.specs.declared.argument.SetOptions.{SetOptions}
use Rattle.sk_value.specs.declared.keys_fault.KeysFault.{KeysFault}
use Rattle.sk_value.specs.declared.keys_fault.KeysFault.TheVariants as fault
use Rattle.sk_value.specs.declared.value.Value.{Value}
use Rattle.sk_value.specs.declared.value.Value.TheVariants as value
use Rattle.sk_value.specs.declared.entry.Entry.{Entry}
use Rattle.sk_value.specs.declared.write_op.WriteOp.{WriteOp}
use Rattle.sk_value.specs.declared.action.Action.{Action}
use Rattle.sk_value.specs.declared.action.Action.TheVariants as action
use Rattle.sk_value.specs.Answer.{Answer, AndThen, counted}
use Rattle.sk_value.specs.Lists.{push_one, take_one}
use Rattle.sk_value.specs.Values.{is_empty, is_string, look_at, edit_in, blank}
use Rattle.sk_value.specs.Keys.{Keys, at, put, without, without_all, how_many}

-- ## One key

-- what becomes of a key
pub data Change : Type 0 where
  Stays : Change
  Goes : Change
  Becomes : (entry : Entry) → Change

abbrev pub changed : Bytes → Change → Keys → Keys
changed name Stays keys = keys
changed name Goes keys = without name keys
changed name (Becomes entry) keys = put name entry keys

-- what a command on one key answers, and what becomes of the key
pub record Turn : Type 0 where
  pub answer : Answer
  pub change : Change

abbrev pub says : Reply → Turn
says reply = record { answer = Ok reply; change = Stays }

abbrev pub goes : Reply → Turn
goes reply = record { answer = Ok reply; change = Goes }

abbrev pub becomes : Reply → Entry → Turn
becomes reply entry = record { answer = Ok reply; change = Becomes entry }

abbrev pub refuses : KeysFault → Turn
refuses f = record { answer = Err f; change = Stays }

-- the key holds the value, or goes where there is nothing in it
abbrev pub keeps : Reply → Value → Option ℕ → Turn
keeps reply value deadline = cond (is_empty value) (goes reply) (becomes reply (record { value = value; deadline = deadline }))

abbrev pub edited : AndThen Value → Option ℕ → Turn
edited (Ok p) deadline = keeps p.0 p.1 deadline
edited (Err f) deadline = refuses f

-- An edit leaves the deadline.
unfoldable pub edit_at : WriteOp → Option Entry → Turn
edit_at e None = edited (edit_in e (blank e)) None
edit_at e (Some entry) = edited (edit_in e entry.value) entry.deadline

-- ## Deadlines

-- the last millisecond of the year 9999
abbrev pub latest : ℕ
latest = LAST_CALENDAR_MOMENT

-- so many milliseconds from now, where that isn't past the latest deadline
abbrev pub after : ℕ → ℕ → Option ℕ
after now millis = cond (nat_le (now + millis) latest) (Some (now + millis)) None

-- a time to live: at least 1
abbrev pub deadline_after : ℕ → ℕ → ℤ → Result (Option ℕ) KeysFault
deadline_after now unit (pos n) = deadline (cond (nat_lt 0 n) (after now (unit * n)) None) where
  deadline : Option ℕ → Result (Option ℕ) KeysFault
  deadline None = Err fault.BadExpire
  deadline (Some d) = Ok (Some d)
deadline_after now unit (negsuc n) = Err fault.BadExpire

-- the deadline that the options of SET give
abbrev pub deadline_of : ℕ → Expire → Result (Option ℕ) KeysFault
deadline_of now expire.Never = Ok None
deadline_of now (expire.Seconds n) = deadline_after now 1000 n
deadline_of now (expire.Millis n) = deadline_after now 1 n

abbrev pub set_until : Bytes → Bool → Result (Option ℕ) KeysFault → Option Entry → Turn
set_until text only_new (Err f) before = refuses f
set_until text only_new (Ok deadline) before = cond (only_new && is_some before) (says reply.Null) (becomes (reply.Say say.Ok) (record { value = value.String text; deadline = deadline }))

-- SET: a value of any kind and its deadline go, and the string stands.
unfoldable pub set_at : ℕ → Bytes → SetOptions → Option Entry → Turn
set_at now text options before = set_until text options.only_new (deadline_of now options.expire) before

abbrev pub expire_at : Option ℕ → Option Entry → Turn
expire_at deadline None = says (counted 0)
expire_at None (Some entry) = goes (counted 1)
expire_at (Some deadline) (Some entry) = becomes (counted 1) (record entry { deadline = Some deadline })

-- PEXPIRE: with 0 or less the key goes.
unfoldable pub expires_at : ℕ → ℤ → Option Entry → Turn
expires_at now (negsuc n) before = expire_at None before
expires_at now (pos n) before = cond (nat_lt 0 n) (within (after now n)) (expire_at None before) where
  within : Option ℕ → Turn
  within None = refuses fault.BadExpire
  within (Some deadline) = expire_at (Some deadline) before

-- ## Deleting by what is held

-- what is held is exactly this string
abbrev pub holds_string : Bytes → Option Entry → Bool
holds_string text None = false
holds_string text (Some entry) = is_string text entry.value

-- SK.GIVE: a key that holds exactly this string goes. Any other stays, whatever its kind.
unfoldable pub give_at : Bytes → Option Entry → Turn
give_at text before = cond (holds_string text before) (goes (counted 1)) (says (counted 0))

-- ## All keys

-- what an action answers, and the keys afterwards
pub record Applied : Type 0 where
  pub answer : Answer
  pub keys : Keys

abbrev pub answers : Answer → Keys → Applied
answers answer keys = record { answer = answer; keys = keys }

abbrev pub turns : Bytes → Turn → Keys → Applied
turns name turn keys = record { answer = turn.answer; keys = changed name turn.change keys }

-- ## LMOVE

-- the list that an entry holds; an absent key holds one with nothing in it
abbrev pub list_in : Value → Option (List Bytes)
list_in (value.List list) = Some list
list_in other = None

abbrev pub list_at : Option Entry → Option (List Bytes)
list_at None = Some []
list_at (Some entry) = list_in entry.value

abbrev pub deadline_at : Option Entry → Option ℕ
deadline_at None = None
deadline_at (Some entry) = entry.deadline

-- the list stands under the name, with this deadline, or nothing does where it is empty
abbrev pub put_list : Bytes → List Bytes → Option ℕ → Keys → Keys
put_list name list deadline keys = cond (length list == 0) (without name keys) (put name (record { value = value.List list; deadline = deadline }) keys)

-- the element leaves one end of a list for an end of the same one
abbrev pub turn_list : Bytes → Side → Option ℕ → Option (Bytes × List Bytes) → Keys → Applied
turn_list name to deadline None keys = answers (Ok reply.Null) keys
turn_list name to deadline (Some taken) keys = answers (Ok (reply.Bulk taken.0)) (put_list name (push_one to taken.0 taken.1) deadline keys)

-- it leaves one end of a list for an end of another
abbrev pub carry : Bytes → Option Entry → Bytes → Side → Option Entry → Option (Bytes × List Bytes) → Option (List Bytes) → Keys → Applied
carry source from destination to there taken None keys = answers (Err fault.WrongType) keys
carry source from destination to there None (Some list) keys = answers (Ok reply.Null) keys
carry source from destination to there (Some taken) (Some list) keys =
    answers (Ok (reply.Bulk taken.0)) (put_list destination (push_one to taken.0 list) (deadline_at there) (put_list source taken.1 (deadline_at from) keys))

abbrev pub move_list : Bytes → Bytes → Side → Side → Option (List Bytes) → Keys → Applied
move_list source destination from to None keys = answers (Err fault.WrongType) keys
move_list source destination from to (Some list) keys = cond (bytes_eq source destination)
    (turn_list source to (deadline_at (at source keys)) (take_one from list) keys)
    (carry source (at source keys) destination to (at destination keys) (take_one from list) (list_at (at destination keys)) keys)

-- Without a source there is nothing to move, whatever the destination holds.
unfoldable pub move_keys : Bytes → Bytes → Side → Side → Keys → Applied
move_keys source destination from to keys = cond (is_some (at source keys)) (move_list source destination from to (list_at (at source keys)) keys) (answers (Ok reply.Null) keys)

-- ## Every action

abbrev pub applied : ℕ → Action → Keys → Applied
applied now action.Ping keys = answers (Ok (reply.Say say.Pong)) keys
applied now (action.Echo text) keys = answers (Ok (reply.Bulk text)) keys
applied now action.Quit keys = answers (Ok (reply.Say say.Ok)) keys
applied now (action.ReadOp name look) keys = answers (look_at now look (at name keys)) keys
applied now (action.WriteOp name edit) keys = turns name (edit_at edit (at name keys)) keys
applied now (action.Set name text options) keys = turns name (set_at now text options (at name keys)) keys
applied now (action.Expire name millis) keys = turns name (expires_at now millis (at name keys)) keys
applied now (action.Give name text) keys = turns name (give_at text (at name keys)) keys
applied now (action.Exists names) keys = answers (Ok (counted (how_many (λ name. at name keys) names))) keys
applied now (action.Delete names) keys = answers (Ok (counted (length keys - length (without_all names keys)))) (without_all names keys)
applied now (action.Move source destination from to) keys = move_keys source destination from to keys
applied now action.Flush keys = answers (Ok (reply.Say say.Ok)) []
