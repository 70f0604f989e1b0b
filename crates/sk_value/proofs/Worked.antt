-- Worked rows, computed from the definitions.
use Rattle.std.proofs.Common.{◌≡◌, ◌<◌, ◌^◌, ℕ, [], ◌∷◌, length, get_or, refl, sym, ap, arith}
use Rattle.std.specs.Prelude.{pos, negsuc, codes, Option, Some, None, Ok, Err, false, true}
use Rattle.std.specs.Fmt.{decimal}
use Rattle.std.proofs.lemmas.Fmt.{decimal_digit, decimal-digits_value}
use Rattle.sk_resp.proofs.Digits.{AreDigits, own, read_on}
use Rattle.sk_resp.specs.Spelling.{Bytes}
use Rattle.sk_value.proofs.IntOf.{int_of_at}
use Rattle.sk_resp.specs.declared.reply.Reply.TheVariants as reply
use Rattle.sk_resp.specs.declared.say.Say.TheVariants as say
use Rattle.sk_resp.specs.declared.kind.Kind.TheVariants as kind
use Rattle.sk_cmd.specs.declared.argument.Side.TheVariants.{Left, Right}
use Rattle.sk_cmd.specs.declared.argument.Expire.TheVariants as expire
use Rattle.sk_value.specs.declared.keys_fault.KeysFault.TheVariants as fault
use Rattle.sk_value.specs.declared.value.Value.{Value}
use Rattle.sk_value.specs.declared.value.Value.TheVariants as value
use Rattle.sk_value.specs.declared.read_op.ReadOp.{ReadOp}
use Rattle.sk_value.specs.declared.read_op.ReadOp.TheVariants as look
use Rattle.sk_value.specs.declared.write_op.WriteOp.{WriteOp}
use Rattle.sk_value.specs.declared.write_op.WriteOp.TheVariants as edit
use Rattle.sk_value.specs.declared.action.Action.TheVariants as action
use Rattle.sk_value.specs.Answer.{counted, texts}
use Rattle.sk_value.specs.Number.{int_of}
use Rattle.sk_value.specs.Strings.{edit_string}
use Rattle.sk_value.specs.Lists.{edit_list}
use Rattle.sk_value.specs.Sets.{edit_set}
use Rattle.sk_value.specs.Hashes.{edit_hash}
use Rattle.sk_value.specs.Keys.{Keys}
use Rattle.sk_value.specs.Apply.{Applied, answers, applied, edit_at, set_at, expires_at, move_keys}

-- keys that hold one value under `k`, with a deadline or without
abbrev pub holds : Value → Option ℕ → Keys
holds v deadline = (codes "k", record { value = v; deadline = deadline }) ∷ []

abbrev pub k : Value → Keys
k v = holds v None

-- the command on `k`, at the moment 1000
abbrev pub looks : ReadOp → Keys → Applied
looks l keys = applied 1000 (action.ReadOp (codes "k") l) keys

abbrev pub edits : WriteOp → Keys → Applied
edits e keys = applied 1000 (action.WriteOp (codes "k") e) keys

abbrev pub abc : Value
abc = value.List (codes "a" ∷ codes "b" ∷ codes "c" ∷ [])

abbrev aba : Value
aba = value.List (codes "a" ∷ codes "b" ∷ codes "a" ∷ [])

-- the spellings of some integers
zero_text : decimal 0 ≡ codes "0"
zero_text = decimal_digit 0 (omega arith)

pub one_text : decimal 1 ≡ codes "1"
one_text = decimal_digit 1 (omega arith)

five_text : decimal 5 ≡ codes "5"
five_text = decimal_digit 5 (omega arith)

-- a text of digits that doesn't begin with 0
pub spelled : (digits : Bytes) → AreDigits digits → 0 < length digits → (get_or digits 0 0 ≡ 48 → ⊥) → read_on 0 digits < 2 ^ 64 → decimal (read_on 0 digits) ≡ digits
spelled digits are some first small = decimal-digits_value own digits are some (λ e. absurd (first e)) small

greatest_text : decimal 9223372036854775807 ≡ codes "9223372036854775807"
greatest_text = spelled (codes "9223372036854775807") refl (omega arith) (λ e. omega (arith, e)) (omega arith)

least_text : decimal 9223372036854775808 ≡ codes "9223372036854775808"
least_text = spelled (codes "9223372036854775808") refl (omega arith) (λ e. omega (arith, e)) (omega arith)

minus_one : int_of (codes "-1") ≡ Some (negsuc 0)
minus_one = int_of_at (negsuc 0) (codes "-1") (omega arith) (ap (λ digits. 45 ∷ digits) (sym one_text))

greatest : int_of (codes "9223372036854775807") ≡ Some (pos 9223372036854775807)
greatest = int_of_at (pos 9223372036854775807) (codes "9223372036854775807") (omega arith) (sym greatest_text)

all_but_least : int_of (codes "-9223372036854775807") ≡ Some (negsuc 9223372036854775806)
all_but_least = int_of_at (negsuc 9223372036854775806) (codes "-9223372036854775807") (omega arith) (ap (λ digits. 45 ∷ digits) (sym greatest_text))

-- ## Strings

get_absent : looks look.Get [] ≡ answers (Ok reply.Null) []
get_absent = refl

get_list : looks look.Get (k abc) ≡ answers (Err fault.WrongType) (k abc)
get_list = refl

incrby_absent : edits (edit.Incrby (negsuc 4)) [] ≡ answers (Ok (reply.Int (negsuc 4))) (k (value.String (codes "-5")))
unfolding edit_at edit_string int_of
incrby_absent = simp (zero_text, five_text)

incrby_keeps_the_deadline : edits (edit.Incrby (pos 1)) (holds (value.String (codes "-1")) (Some 2000)) ≡ answers (Ok (reply.Int (pos 0))) (holds (value.String (codes "0")) (Some 2000))
unfolding edit_at edit_string
incrby_keeps_the_deadline = simp (minus_one, zero_text)

incrby_not_int : edits (edit.Incrby (pos 1)) (k (value.String (codes "01"))) ≡ answers (Err fault.NotInt) (k (value.String (codes "01")))
unfolding edit_at edit_string int_of
incrby_not_int = simp one_text

incrby_nothing : edits (edit.Incrby (pos 1)) (k (value.String [])) ≡ answers (Err fault.NotInt) (k (value.String []))
unfolding edit_at edit_string int_of
incrby_nothing = simp zero_text

incrby_overflow : edits (edit.Incrby (pos 1)) (k (value.String (codes "9223372036854775807"))) ≡ answers (Err fault.Overflow) (k (value.String (codes "9223372036854775807")))
unfolding edit_at edit_string
incrby_overflow = simp greatest

incrby_least : edits (edit.Incrby (negsuc 0)) (k (value.String (codes "-9223372036854775807"))) ≡ answers (Ok (reply.Int (negsuc 9223372036854775807))) (k (value.String (codes "-9223372036854775808")))
unfolding edit_at edit_string
incrby_least = simp (all_but_least, least_text)

incrby_list : edits (edit.Incrby (pos 1)) (k abc) ≡ answers (Err fault.WrongType) (k abc)
unfolding edit_at edit_list
incrby_list = refl

set_new : applied 1000 (action.Set (codes "k") (codes "v") (record { only_new = true; expire = expire.Seconds (pos 2) })) [] ≡ answers (Ok (reply.Say say.Ok)) (holds (value.String (codes "v")) (Some 3000))
unfolding set_at
set_new = refl

set_nx_there : applied 1000 (action.Set (codes "k") (codes "v") (record { only_new = true; expire = expire.Never })) (k abc) ≡ answers (Ok reply.Null) (k abc)
unfolding set_at
set_nx_there = refl

set_over_a_list : applied 1000 (action.Set (codes "k") (codes "v") (record { only_new = false; expire = expire.Never })) (holds abc (Some 2000)) ≡ answers (Ok (reply.Say say.Ok)) (k (value.String (codes "v")))
unfolding set_at
set_over_a_list = refl

set_ex_zero : applied 1000 (action.Set (codes "k") (codes "v") (record { only_new = false; expire = expire.Seconds (pos 0) })) [] ≡ answers (Err fault.BadExpire) []
unfolding set_at
set_ex_zero = refl

-- ## Lists

lrange_last_two : looks (look.Lrange (negsuc 1) (negsuc 0)) (k abc) ≡ answers (Ok (texts (codes "b" ∷ codes "c" ∷ []))) (k abc)
lrange_last_two = refl

lrange_past_the_end : looks (look.Lrange (pos 1) (pos 9)) (k abc) ≡ answers (Ok (texts (codes "b" ∷ codes "c" ∷ []))) (k abc)
lrange_past_the_end = refl

lrange_before_the_front : looks (look.Lrange (negsuc 8) (negsuc 2)) (k abc) ≡ answers (Ok (texts (codes "a" ∷ []))) (k abc)
lrange_before_the_front = refl

lrange_backwards : looks (look.Lrange (pos 2) (pos 1)) (k abc) ≡ answers (Ok (texts [])) (k abc)
lrange_backwards = refl

lrange_absent : looks (look.Lrange (pos 0) (negsuc 0)) [] ≡ answers (Ok (texts [])) []
lrange_absent = refl

lpush_two : edits (edit.Push Left (codes "x" ∷ codes "y" ∷ [])) (holds abc (Some 2000)) ≡ answers (Ok (counted 5)) (holds (value.List (codes "y" ∷ codes "x" ∷ codes "a" ∷ codes "b" ∷ codes "c" ∷ [])) (Some 2000))
unfolding edit_at edit_list
lpush_two = refl

rpush_two : edits (edit.Push Right (codes "x" ∷ codes "y" ∷ [])) [] ≡ answers (Ok (counted 2)) (k (value.List (codes "x" ∷ codes "y" ∷ [])))
unfolding edit_at edit_list
rpush_two = refl

lrem_from_the_left : edits (edit.Lrem (pos 1) (codes "a")) (k aba) ≡ answers (Ok (counted 1)) (k (value.List (codes "b" ∷ codes "a" ∷ [])))
unfolding edit_at edit_list
lrem_from_the_left = refl

lrem_from_the_right : edits (edit.Lrem (negsuc 0) (codes "a")) (k aba) ≡ answers (Ok (counted 1)) (k (value.List (codes "a" ∷ codes "b" ∷ [])))
unfolding edit_at edit_list
lrem_from_the_right = refl

lrem_all : edits (edit.Lrem (pos 0) (codes "a")) (k aba) ≡ answers (Ok (counted 2)) (k (value.List (codes "b" ∷ [])))
unfolding edit_at edit_list
lrem_all = refl

lrem_of_the_last_element : edits (edit.Lrem (negsuc 5) (codes "a")) (k (value.List (codes "a" ∷ codes "a" ∷ []))) ≡ answers (Ok (counted 2)) []
unfolding edit_at edit_list
lrem_of_the_last_element = refl

lrem_absent : edits (edit.Lrem (pos 0) (codes "a")) [] ≡ answers (Ok (counted 0)) []
unfolding edit_at edit_list
lrem_absent = refl

lmove_on_one_key : applied 1000 (action.Move (codes "k") (codes "k") Right Left) (holds abc (Some 2000)) ≡ answers (Ok (reply.Bulk (codes "c"))) (holds (value.List (codes "c" ∷ codes "a" ∷ codes "b" ∷ [])) (Some 2000))
unfolding move_keys
lmove_on_one_key = refl

lmove_of_the_last_element : applied 1000 (action.Move (codes "k") (codes "l") Left Right) (holds (value.List (codes "a" ∷ [])) (Some 2000)) ≡ answers (Ok (reply.Bulk (codes "a"))) ((codes "l", record { value = value.List (codes "a" ∷ []); deadline = None }) ∷ [])
unfolding move_keys
lmove_of_the_last_element = refl

lmove_absent : applied 1000 (action.Move (codes "j") (codes "k") Left Right) (k abc) ≡ answers (Ok reply.Null) (k abc)
unfolding move_keys
lmove_absent = refl

lmove_to_a_string : applied 1000 (action.Move (codes "k") (codes "l") Left Right) ((codes "k", record { value = abc; deadline = None }) ∷ (codes "l", record { value = value.String []; deadline = None }) ∷ []) ≡ answers (Err fault.WrongType) ((codes "k", record { value = abc; deadline = None }) ∷ (codes "l", record { value = value.String []; deadline = None }) ∷ [])
unfolding move_keys
lmove_to_a_string = refl

-- ## Sets

sadd_twice_the_same : edits (edit.Sadd (codes "b" ∷ codes "a" ∷ codes "b" ∷ [])) [] ≡ answers (Ok (counted 2)) (k (value.Set (codes "a" ∷ codes "b" ∷ [])))
unfolding edit_at edit_set
sadd_twice_the_same = refl

sadd_there : edits (edit.Sadd (codes "a" ∷ codes "c" ∷ [])) (k (value.Set (codes "a" ∷ codes "b" ∷ []))) ≡ answers (Ok (counted 1)) (k (value.Set (codes "a" ∷ codes "b" ∷ codes "c" ∷ [])))
unfolding edit_at edit_set
sadd_there = refl

srem_of_the_last_member : edits (edit.Srem (codes "b" ∷ codes "a" ∷ codes "a" ∷ [])) (k (value.Set (codes "a" ∷ []))) ≡ answers (Ok (counted 1)) []
unfolding edit_at edit_set
srem_of_the_last_member = refl

smembers_by_bytes : looks look.Smembers (k (value.Set (codes "B" ∷ codes "a" ∷ codes "ab" ∷ []))) ≡ answers (Ok (texts (codes "B" ∷ codes "a" ∷ codes "ab" ∷ []))) (k (value.Set (codes "B" ∷ codes "a" ∷ codes "ab" ∷ [])))
smembers_by_bytes = refl

sadd_in_order : edits (edit.Sadd (codes "ab" ∷ codes "a" ∷ codes "B" ∷ [])) [] ≡ answers (Ok (counted 3)) (k (value.Set (codes "B" ∷ codes "a" ∷ codes "ab" ∷ [])))
unfolding edit_at edit_set
sadd_in_order = refl

-- ## Hashes

hset_one_field_twice : edits (edit.Hset ((codes "f", codes "1") ∷ (codes "f", codes "2") ∷ [])) [] ≡ answers (Ok (counted 1)) (k (value.Hash ((codes "f", codes "2") ∷ [])))
unfolding edit_at edit_hash
hset_one_field_twice = refl

hset_there : edits (edit.Hset ((codes "g", codes "2") ∷ (codes "f", codes "3") ∷ [])) (k (value.Hash ((codes "f", codes "1") ∷ []))) ≡ answers (Ok (counted 1)) (k (value.Hash ((codes "f", codes "3") ∷ (codes "g", codes "2") ∷ [])))
unfolding edit_at edit_hash
hset_there = refl

hgetall : looks look.Hgetall (k (value.Hash ((codes "f", codes "1") ∷ (codes "g", codes "2") ∷ []))) ≡ answers (Ok (texts (codes "f" ∷ codes "1" ∷ codes "g" ∷ codes "2" ∷ []))) (k (value.Hash ((codes "f", codes "1") ∷ (codes "g", codes "2") ∷ [])))
hgetall = refl

hdel_of_the_last_field : edits (edit.Hdel (codes "g" ∷ codes "f" ∷ [])) (holds (value.Hash ((codes "f", codes "1") ∷ [])) (Some 2000)) ≡ answers (Ok (counted 1)) []
unfolding edit_at edit_hash
hdel_of_the_last_field = refl

hget_set : looks (look.Hget (codes "f")) (k (value.Set (codes "f" ∷ []))) ≡ answers (Err fault.WrongType) (k (value.Set (codes "f" ∷ [])))
hget_set = refl

-- ## Keys

type_absent : looks look.KindOf [] ≡ answers (Ok (reply.Say (say.Kind kind.Absent))) []
type_absent = refl

pttl_left : looks look.Pttl (holds abc (Some 2500)) ≡ answers (Ok (reply.Int (pos 1500))) (holds abc (Some 2500))
pttl_left = refl

pttl_without_a_deadline : looks look.Pttl (k abc) ≡ answers (Ok (reply.Int (negsuc 0))) (k abc)
pttl_without_a_deadline = refl

pttl_absent : looks look.Pttl [] ≡ answers (Ok (reply.Int (negsuc 1))) []
pttl_absent = refl

pexpire_zero : applied 1000 (action.Expire (codes "k") (pos 0)) (k abc) ≡ answers (Ok (counted 1)) []
unfolding expires_at
pexpire_zero = refl

pexpire_past_the_year_9999 : applied 1000 (action.Expire (codes "k") (pos 253402300799000)) (k abc) ≡ answers (Err fault.BadExpire) (k abc)
unfolding expires_at
pexpire_past_the_year_9999 = refl

exists_twice : applied 1000 (action.Exists (codes "k" ∷ codes "j" ∷ codes "k" ∷ [])) (k abc) ≡ answers (Ok (counted 2)) (k abc)
exists_twice = refl

del_twice : applied 1000 (action.Delete (codes "k" ∷ codes "j" ∷ codes "k" ∷ [])) (k abc) ≡ answers (Ok (counted 1)) []
del_twice = refl
