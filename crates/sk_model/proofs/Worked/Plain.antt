-- Worked commands, computed from the definitions.
use Rattle.std.proofs.Common.{◌≡◌, ℕ, List, [], ◌∷◌, refl, Bool, true, false}
use Rattle.std.specs.Str.{is_utf8, chars}
use Rattle.std.specs.Fmt.{digits}
use Rattle.serde_json.proofs.OnLiterals.{serde_json_on_literals}
use Rattle.std.specs.Prelude.{codes, pos, negsuc, map}
use Rattle.sk_resp.specs.Spelling.{Bytes, bulk}
use Rattle.sk_resp.specs.declared.reply.Reply.{Reply}
use Rattle.sk_resp.specs.declared.reply.Reply.TheVariants as reply
use Rattle.sk_resp.specs.declared.refusal.Refusal.TheVariants.{ManagedKey, BadPayload, Full}
use Rattle.sk_resp.specs.declared.kind.Kind.TheVariants as kind
use Rattle.sk_resp.specs.declared.say.Say.{Say}
use Rattle.sk_resp.specs.declared.say.Say.TheVariants as say
use Rattle.sk_payload.specs.Head.{head, head_of_value, head_of_object}
use Rattle.sk_cmd.specs.declared.argument.Side.TheVariants.{Left, Right}
use Rattle.sk_cmd.specs.declared.argument.Expire.TheVariants as expire
use Rattle.sk_cmd.specs.declared.command.Command.TheVariants.{Plain, Script}
use Rattle.sk_cmd.specs.declared.command.Command.{Command}
use Rattle.sk_cmd.specs.declared.command.ScriptCommand.TheVariants.{Due, Revive, Kill}
use Rattle.sk_cmd.specs.declared.argument.Scored.TheVariants.{Schedule, Dead}
use Rattle.sk_resp.specs.Reply.{wire}
use Rattle.sk_cmd.specs.declared.command.PlainCommand.{PlainCommand}
use Rattle.sk_cmd.specs.declared.command.PlainCommand.TheVariants.{Lpush, Rpush, Lrange, Llen, Lrem, Lmove, Exists, Del, Smembers, Scard, Sadd, Flushall, Get, Set, Pttl, KindOf, Zadd, Zrem, Zcard, Zscore}
use Rattle.sk_value.specs.Apply.{edit_at, set_at}
use Rattle.sk_value.specs.Lists.{edit_list}
use Rattle.sk_model.specs.declared.limits.Limits.{Limits}
use Rattle.sk_model.specs.World.{World, first}
use Rattle.sk_model.specs.Change.{perform}
use Rattle.sk_key.specs.Class.{class_of}
use Rattle.sk_model.specs.Outcome.{Outcome}
use Rattle.sk_model.specs.Step.{outcome}
use Rattle.sk_model.specs.Life.{Life, Unborn, Live, Ended, life_through}
use Rattle.sk_model.specs.Live.{stands}
use Rattle.sk_places.specs.declared.ending.Ending.TheVariants.{Muddled, Deleted}

limits : Limits
limits = record { rows = 10; bytes = 1000; batches = 1 }

-- a client's command, and the moment at which the store is handed it
abbrev At : Type 0
At = ℕ × PlainCommand

came : World → At → Outcome
came w c = outcome w 0 c.0 (Plain c.1)

replies : World → List At → List Reply
replies w [] = []
replies w (c ∷ commands) = (came w c).reply ∷ replies (perform w (came w c).changes) commands

q : Bytes
q = codes "queue:q"

r : Bytes
r = codes "queue:r"

number : ℕ → Reply
number n = reply.Int (pos n)

texts : List Bytes → Reply
texts list = reply.Array (map bulk list)

tells : Say → Reply
tells say = reply.Say say

-- one text is pushed, shown and moved, and then no more is there
moved_once : replies (first limits) ((0, Lpush q (codes "a" ∷ [])) ∷ (0, Lrange q (pos 0) (negsuc 0)) ∷ (0, Lmove q r Right Left) ∷ (0, Lmove q r Right Left) ∷ (0, Lrange r (pos 0) (negsuc 0)) ∷ [])
    ≡ number 1 ∷ texts (codes "a" ∷ []) ∷ reply.Bulk (codes "a") ∷ reply.Null ∷ texts (codes "a" ∷ []) ∷ []
unfolding limits came replies q r number texts serde_json_on_literals head head_of_value head_of_object digits class_of is_utf8 chars edit_at edit_list lib.Utf8.encode
moved_once = refl

-- the last text pushed stands leftmost, and the first one goes first; equal texts keep their order among the others
in_order : replies (first limits) ((0, Lpush q (codes "a" ∷ codes "b" ∷ codes "a" ∷ [])) ∷ (0, Rpush r (codes "c" ∷ [])) ∷ (0, Lmove q r Right Right) ∷ (0, Lrange q (pos 0) (negsuc 0))
    ∷ (0, Lmove r r Left Right) ∷ (0, Lrange r (negsuc 1) (pos 9)) ∷ (0, Lrem q (negsuc 0) (codes "a")) ∷ (0, Lrange q (pos 0) (pos 0)) ∷ [])
    ≡ number 3 ∷ number 1 ∷ reply.Bulk (codes "a") ∷ texts (codes "a" ∷ codes "b" ∷ []) ∷ reply.Bulk (codes "c") ∷ texts (codes "a" ∷ codes "c" ∷ []) ∷ number 1 ∷ texts (codes "b" ∷ []) ∷ []
unfolding limits came replies q r number texts serde_json_on_literals head head_of_value head_of_object digits class_of is_utf8 chars edit_at edit_list lib.Utf8.encode
in_order = refl

-- a queue is a key while it has jobs, and its name stays in `queues` until the queue is deleted
names_of_queues : replies (first limits) ((0, Lpush q (codes "x" ∷ [])) ∷ (0, Exists (q ∷ q ∷ [])) ∷ (0, Smembers (codes "queues")) ∷ (0, Del (q ∷ codes "nothing" ∷ [])) ∷ (0, Scard (codes "queues"))
    ∷ (0, Lmove q (codes "k") Right Left) ∷ (0, Sadd (codes "queues") (codes "a" ∷ [])) ∷ (0, KindOf (codes "queues")) ∷ (0, Flushall) ∷ (0, Scard (codes "queues")) ∷ [])
    ≡ number 1 ∷ number 2 ∷ texts (codes "q" ∷ []) ∷ number 1 ∷ number 0 ∷ tells (say.Refused ManagedKey) ∷ number 1 ∷ reply.Say (say.Kind kind.Set) ∷ tells say.Ok ∷ number 0 ∷ []
unfolding limits came replies q r number texts tells serde_json_on_literals head head_of_value head_of_object digits class_of is_utf8 chars edit_at edit_list lib.Utf8.encode
names_of_queues = refl

-- a managed key has its kind, a write on it that isn't allowed is refused before its kind counts, and `queue:` with no name is never there
managed_keys : replies (first limits) ((0, Lpush q (codes "x" ∷ [])) ∷ (0, Get q) ∷ (0, Set q (codes "x") (record { only_new = false; expire = expire.Never })) ∷ (0, Sadd q (codes "x" ∷ []))
    ∷ (0, Lpush (codes "queue:") (codes "x" ∷ [])) ∷ (0, Llen (codes "queue:")) ∷ (0, Sadd (codes "queues") ([] ∷ [])) ∷ (0, Llen (codes "sq:x")) ∷ (0, Zcard (codes "schedule")) ∷ (0, Zcard (codes "z")) ∷ (0, Zcard q) ∷ (0, Get (codes "k")) ∷ [])
    ≡ number 1 ∷ tells say.WrongType ∷ tells (say.Refused ManagedKey) ∷ tells (say.Refused ManagedKey)
    ∷ tells (say.Refused ManagedKey) ∷ number 0 ∷ tells (say.Refused ManagedKey) ∷ number 0 ∷ number 0 ∷ number 0 ∷ tells say.WrongType ∷ reply.Null ∷ []
unfolding limits came replies q r number tells serde_json_on_literals head head_of_value head_of_object digits class_of is_utf8 chars edit_at edit_list set_at lib.Utf8.encode
managed_keys = refl

-- a key stands until its deadline, and the moment never falls
deadlines : replies (first limits) ((7, Set (codes "k") (codes "v") (record { only_new = false; expire = expire.Millis (pos 5) })) ∷ (8, Pttl (codes "k")) ∷ (2, Pttl (codes "k"))
    ∷ (11, Get (codes "k")) ∷ (12, Get (codes "k")) ∷ (0, Pttl (codes "k")) ∷ [])
    ≡ tells say.Ok ∷ number 4 ∷ number 4 ∷ reply.Bulk (codes "v") ∷ reply.Null ∷ reply.Int (negsuc 1) ∷ []
unfolding limits came replies number tells serde_json_on_literals head head_of_value head_of_object digits class_of is_utf8 chars edit_at edit_list set_at lib.Utf8.encode
deadlines = refl

-- ## Sets of jobs

job : Bytes
job = codes "{\"jid\":\"j\",\"class\":\"C\",\"queue\":\"q\",\"args\":[ 1 ]}"

other_job : Bytes
other_job = codes "{\"jid\":\"k\",\"class\":\"C\",\"queue\":\"q\",\"args\":[]}"

-- commands of either kind
answers : World → List (ℕ × Command) → List Reply
answers w [] = []
answers w (c ∷ commands) = (outcome w 0 c.0 c.1).reply ∷ answers (perform w (outcome w 0 c.0 c.1).changes) commands

schedule : Bytes
schedule = codes "schedule"

-- so many moved and so many buried, and these texts trimmed
report : ℕ → ℕ → List Bytes → Reply
report moved buried trimmed = reply.Array (wire (number moved) ∷ wire (number buried) ∷ wire (texts []) ∷ wire (texts trimmed) ∷ [])

-- a job waits for its moment, and comes to the left of its queue with the same bytes
due_once : answers (first limits) ((1000, Plain (Zadd schedule ((pos 5000000, job) ∷ []))) ∷ (4999, Script (Due Schedule (pos 9))) ∷ (5000, Script (Due Schedule (pos 9))) ∷ (5000, Plain (Lrange q (pos 0) (negsuc 0))) ∷ (5000, Plain (Zcard schedule)) ∷ [])
    ≡ number 1 ∷ report 0 0 [] ∷ report 1 0 [] ∷ texts (job ∷ []) ∷ number 0 ∷ []
unfolding limits answers q schedule number texts report job serde_json_on_literals head head_of_value head_of_object is_utf8 chars digits class_of edit_at edit_list lib.Utf8.encode
due_once = refl

-- what is due comes to the left of what is there, each row in turn; one without a head is buried on its way
due_in_turn : answers (first limits) ((0, Plain (Rpush q (codes "a" ∷ []))) ∷ (0, Plain (Zadd schedule ((pos 2, job) ∷ (pos 1, codes "x") ∷ (pos 0, other_job) ∷ (pos 1001, codes "y") ∷ []))) ∷ (1, Script (Due Schedule (pos 9)))
    ∷ (1, Plain (Lrange q (pos 0) (negsuc 0))) ∷ (1, Plain (Zscore (codes "dead") (codes "x"))) ∷ (1, Plain (Zcard schedule)) ∷ [])
    ≡ number 1 ∷ number 4 ∷ report 2 1 [] ∷ texts (job ∷ other_job ∷ codes "a" ∷ []) ∷ reply.Bulk (codes "0.001") ∷ number 1 ∷ []
unfolding limits answers q schedule number texts report job other_job serde_json_on_literals head head_of_value head_of_object is_utf8 chars digits class_of edit_at edit_list lib.Utf8.encode
due_in_turn = refl

-- text without a head is buried when it is due, and once more it is there once, with the later score
buried_once : answers (first limits) ((1, Plain (Zadd schedule ((pos 0, codes "x") ∷ []))) ∷ (1, Script (Due Schedule (pos 1))) ∷ (1, Plain (Zscore (codes "dead") (codes "x"))) ∷ (2, Plain (Zadd schedule ((pos 0, codes "x") ∷ []))) ∷ (2, Script (Due Schedule (pos 1)))
    ∷ (2, Plain (Zcard (codes "dead"))) ∷ (2, Plain (Zscore (codes "dead") (codes "x"))) ∷ (2, Script (Revive Dead (codes "x"))) ∷ (2, Script (Kill Schedule (codes "x"))) ∷ [])
    ≡ number 1 ∷ report 0 1 [] ∷ reply.Bulk (codes "0.001") ∷ number 1 ∷ report 0 1 [] ∷ number 1 ∷ reply.Bulk (codes "0.002") ∷ tells (say.Refused BadPayload) ∷ report 0 0 [] ∷ []
unfolding limits answers schedule number texts tells report serde_json_on_literals head head_of_value head_of_object is_utf8 chars digits class_of edit_at edit_list lib.Utf8.encode
buried_once = refl

-- after 180 days it is trimmed, and not a millisecond earlier
trimmed_in_time : answers (first limits) ((0, Plain (Zadd schedule ((pos 0, codes "x") ∷ (pos 1, codes "y") ∷ []))) ∷ (0, Script (Due Schedule (pos 1))) ∷ (15551999999, Plain (Zadd schedule ((pos 0, codes "z") ∷ []))) ∷ (15551999999, Script (Due Schedule (pos 1)))
    ∷ (15552000000, Script (Due Schedule (pos 1))) ∷ [])
    ≡ number 2 ∷ report 0 1 [] ∷ number 1 ∷ report 0 1 [] ∷ report 0 1 (codes "x" ∷ []) ∷ []
unfolding limits answers schedule number texts report serde_json_on_literals head head_of_value head_of_object is_utf8 chars digits class_of edit_at edit_list lib.Utf8.encode
trimmed_in_time = refl

-- a job that is killed may be revived once
revived_once : answers (first limits) ((0, Plain (Zadd schedule ((pos 5, job) ∷ []))) ∷ (2000, Script (Kill Schedule job)) ∷ (0, Plain (Zscore (codes "dead") job)) ∷ (0, Script (Kill Schedule job)) ∷ (0, Script (Revive Dead job)) ∷ (0, Script (Revive Dead job)) ∷ (0, Plain (Llen q)) ∷ [])
    ≡ number 1 ∷ report 0 1 [] ∷ reply.Bulk (codes "2") ∷ report 0 0 [] ∷ number 1 ∷ number 0 ∷ number 1 ∷ []
unfolding limits answers q schedule number texts report job serde_json_on_literals head head_of_value head_of_object is_utf8 chars digits class_of edit_at edit_list lib.Utf8.encode
revived_once = refl

-- a push beyond the limits is refused, also of a text that is there, and what takes rows away isn't
full_once : answers (first (record { rows = 2; bytes = 5; batches = 0 })) ((0, Plain (Lpush q (codes "abc" ∷ []))) ∷ (0, Plain (Rpush q (codes "abc" ∷ []))) ∷ (0, Plain (Zadd schedule ((pos 0, codes "a") ∷ []))) ∷ (0, Plain (Zadd schedule ((pos 1, codes "a") ∷ [])))
    ∷ (0, Plain (Lmove q r Left Left)) ∷ (0, Script (Due Schedule (pos 1))) ∷ (0, Plain (Del (r ∷ []))) ∷ (0, Plain (Zadd schedule ((pos 1, codes "a") ∷ []))) ∷ (0, Plain (Zrem (codes "dead") (codes "a" ∷ []))) ∷ [])
    ≡ number 1 ∷ tells (say.Refused Full) ∷ number 1 ∷ tells (say.Refused Full) ∷ reply.Bulk (codes "abc") ∷ report 0 1 [] ∷ number 1 ∷ number 1 ∷ number 1 ∷ []
unfolding limits answers q r schedule number texts tells report serde_json_on_literals head head_of_value head_of_object is_utf8 chars digits class_of edit_at edit_list lib.Utf8.encode
full_once = refl

-- ## Lives

-- the life of the job after commands
life_of : World → Bytes → Life → List At → Life
life_of w jid before [] = before
life_of w jid before (c ∷ commands) = life_of (perform w (came w c).changes) jid (life_through w jid before (came w c).changes) commands

after : World → List At → World
after w [] = w
after w (c ∷ commands) = after (perform w (came w c).changes) commands

-- what became of the job `j`
abbrev Became : List At → Life → Bool → Type 0
Became commands life there = (life_of (first limits) (codes "j") Unborn commands ≡ life) × (stands (after (first limits) commands) (codes "j") ≡ there)

-- a job that is pushed lives, and stands in its queue
pushed_once : Became ((0, Lpush q (codes "a" ∷ job ∷ [])) ∷ []) Live true
unfolding limits came life_of after job q serde_json_on_literals head head_of_value head_of_object is_utf8 chars digits class_of edit_at edit_list
pushed_once = (refl, refl)

-- where it is moved it lives on
moved_on : Became ((0, Rpush q (job ∷ [])) ∷ (0, Lmove q r Left Right) ∷ []) Live true
unfolding limits came life_of after job q r serde_json_on_literals head head_of_value head_of_object is_utf8 chars digits class_of edit_at edit_list
moved_on = (refl, refl)

-- pushed again under its own id
pushed_twice : Became ((0, Lpush q (job ∷ [])) ∷ (0, Lpush r (job ∷ [])) ∷ []) (Ended Muddled) true
unfolding limits came life_of after job q r serde_json_on_literals head head_of_value head_of_object is_utf8 chars digits class_of edit_at edit_list
pushed_twice = (refl, refl)

-- a client takes it away, and may push it anew
deleted_once : Became ((0, Lpush q (job ∷ [])) ∷ (0, Lrem q (pos 0) job) ∷ []) (Ended Deleted) false × Became ((0, Lpush q (job ∷ [])) ∷ (0, Del (q ∷ [])) ∷ (0, Lpush q (job ∷ [])) ∷ []) Live true
unfolding limits came life_of after job q serde_json_on_literals head head_of_value head_of_object is_utf8 chars digits class_of edit_at edit_list
deleted_once = ((refl, refl), (refl, refl))

-- a text without a head is no job
no_head : Became ((0, Lpush q (codes "j" ∷ codes "{\"jid\":\"j\"}" ∷ [])) ∷ []) Unborn false
unfolding limits came life_of after q serde_json_on_literals head head_of_value head_of_object is_utf8 chars digits class_of edit_at edit_list
no_head = (refl, refl)
