-- Worked commands of workers, computed from the definitions.
use Rattle.std.proofs.Common.{◌≡◌, ℕ, zero, suc, ℤ, ◌*◌, List, [], ◌∷◌, refl, true, false}
use Rattle.std.specs.Prelude.{codes, pos, negsuc, map}
use Rattle.std.specs.Str.{is_utf8, chars}
use Rattle.std.specs.Fmt.{digits}
use Rattle.serde_json.proofs.OnLiterals.{serde_json_on_literals}
use Rattle.sk_resp.specs.Spelling.{Bytes, bulk}
use Rattle.sk_resp.specs.Reply.{wire}
use Rattle.sk_resp.specs.declared.reply.Reply.{Reply}
use Rattle.sk_resp.specs.declared.reply.Reply.TheVariants as reply
use Rattle.sk_resp.specs.declared.refusal.Refusal.TheVariants.{NotWorker, OutOfTurn, HandsFull, NoProcess, BadPayload, ManagedKey}
use Rattle.sk_resp.specs.declared.say.Say.{Say}
use Rattle.sk_resp.specs.declared.say.Say.TheVariants as say
use Rattle.sk_payload.specs.Head.{head, head_of_value, head_of_object}
use Rattle.sk_payload.specs.Follows.{follows}
use Rattle.sk_cmd.specs.declared.argument.Scored.TheVariants.{Schedule}
use Rattle.sk_cmd.specs.declared.argument.Side.TheVariants.{Left, Right}
use Rattle.sk_cmd.specs.declared.command.Command.{Command}
use Rattle.sk_cmd.specs.declared.command.Command.TheVariants.{Plain, Script}
use Rattle.sk_cmd.specs.declared.command.PlainCommand.TheVariants.{Lpush, Lrange, Llen, Lrem, Lmove, Smembers, Shutdown, Zadd, Zrange, Zscore, Del, Flushall, Get, Incrby}
use Rattle.sk_cmd.specs.declared.command.ScriptCommand.TheVariants as script
use Rattle.sk_leases.specs.Lists.{put}
use Rattle.sk_value.specs.Apply.{edit_at}
use Rattle.sk_value.specs.Lists.{edit_list}
use Rattle.sk_model.specs.declared.limits.Limits.{Limits}
use Rattle.sk_counters.specs.Date.{date_of, year_from, month_from}
use Rattle.sk_model.specs.World.{World, first}
use Rattle.sk_model.specs.Change.{perform}
use Rattle.sk_key.specs.Class.{class_of}
use Rattle.sk_model.specs.Outcome.{Outcome}
use Rattle.sk_model.specs.Step.{outcome, cut}
use Rattle.sk_places.specs.declared.ending.Ending.TheVariants.{Returned, Discarded, Deleted, Muddled}
use Rattle.sk_model.specs.Life.{Life, Unborn, Live, Ended, life_through}

-- What comes to a store.
data Event : Type 0 where
  By : (seat now : ℕ) → (command : Command) → Event
  Off : (seat : ℕ) → Event

came : World → Event → Outcome
came w (By seat now c) = outcome w seat now c
came w (Off seat) = cut seat

replies : World → List Event → List Reply
replies w [] = []
replies w (e ∷ events) = (came w e).reply ∷ replies (perform w (came w e).changes) events

life_of : World → Bytes → Life → List Event → Life
life_of w jid before [] = before
life_of w jid before (e ∷ events) = life_of (perform w (came w e).changes) jid (life_through w jid before (came w e).changes) events

limits : Limits
limits = record { rows = 10; bytes = 1000; batches = 1 }

number : ℕ → Reply
number n = reply.Int (pos n)

texts : List Bytes → Reply
texts list = reply.Array (map bulk list)

tells : Say → Reply
tells say = reply.Say say

q : Bytes
q = codes "queue:q"

w1 : Bytes
w1 = codes "w:1"

list : Bytes
list = codes "sq:w:1"

retries : Bytes
retries = codes "retry"

-- a job, and its text after a first failure
job : Bytes
job = codes "{\"jid\":\"j\",\"class\":\"C\",\"queue\":\"q\",\"args\":[]}"

failed : Bytes
failed = codes "{\"jid\":\"j\",\"class\":\"C\",\"queue\":\"q\",\"args\":[],\"retry_count\":0}"

other_job : Bytes
other_job = codes "{\"jid\":\"k\",\"class\":\"C\",\"queue\":\"q\",\"args\":[]}"

-- the seat joins the process and fetches
beats : ℕ → Event
beats seat = By seat 0 (Script (script.Beat w1))

joins : ℕ → Event
joins seat = By seat 0 (Script (script.Join w1))

fetches : ℕ → Event
fetches seat = By seat 0 (Plain (Lmove q list Right Left))

releases : ℕ → Bytes → Event
releases seat text = By seat 0 (Plain (Lrem list (pos 1) text))

-- before a fetch no job can be told of, and no seat joins a process without a heartbeat
before_a_fetch : replies (first limits) (joins 1 ∷ By 1 0 (Script (script.Start job)) ∷ beats 1 ∷ By 1 0 (Plain (Smembers (codes "processes"))) ∷ joins 1 ∷ fetches 1 ∷ By 1 0 (Script (script.Start job)) ∷ joins 1 ∷ releases 1 job
    ∷ By 1 0 (Plain (Lpush q (job ∷ []))) ∷ By 1 0 (Plain (Del (q ∷ []))) ∷ By 1 0 (Plain Shutdown) ∷ fetches 1 ∷ By 1 0 (Script (script.Start (codes "x"))) ∷ By 1 0 (Script (script.Start job)) ∷ [])
    ≡ tells (say.Refused NoProcess) ∷ tells (say.Refused NotWorker) ∷ tells say.Ok ∷ texts (w1 ∷ []) ∷ tells say.Ok ∷ reply.Null ∷ tells (say.Refused OutOfTurn) ∷ tells (say.Refused OutOfTurn) ∷ tells (say.Refused OutOfTurn)
    ∷ number 1 ∷ tells (say.Refused OutOfTurn) ∷ tells (say.Refused OutOfTurn) ∷ reply.Bulk job ∷ tells (say.Refused OutOfTurn) ∷ tells say.Ok ∷ []
unfolding put came replies limits number texts tells q w1 list job beats joins fetches releases serde_json_on_literals head head_of_value head_of_object is_utf8 chars digits class_of edit_at edit_list lib.Utf8.encode date_of year_from month_from
before_a_fetch = refl

-- a retry's score, and the reply of a command on callbacks of which none fell due
at_second : ℕ → ℤ
at_second n = pos (n * 1000000)

nothing_due : Reply
nothing_due = texts []

report : ℕ → ℕ → Reply
report moved buried = reply.Array (wire (number moved) ∷ wire (number buried) ∷ wire (texts []) ∷ wire (texts []) ∷ [])

-- Two workers of one process hold the same bytes. Each fails, puts its text back and releases one row; the text is there once, with the later score.
twins : replies (first limits) (By 0 0 (Plain (Lpush q (job ∷ job ∷ []))) ∷ beats 1 ∷ joins 1 ∷ joins 2 ∷ fetches 1 ∷ fetches 2 ∷ By 1 0 (Script (script.Fail job)) ∷ By 1 0 (Plain (Zadd retries ((at_second 100, failed) ∷ []))) ∷ releases 1 job
    ∷ By 0 0 (Plain (Lrange list (pos 0) (negsuc 0))) ∷ By 2 0 (Script (script.Fail job)) ∷ By 2 0 (Plain (Zadd retries ((at_second 101, failed) ∷ []))) ∷ releases 2 job ∷ By 0 0 (Plain (Llen list)) ∷ By 0 0 (Plain (Zrange retries (pos 0) (negsuc 0) true)) ∷ [])
    ≡ number 2 ∷ tells say.Ok ∷ tells say.Ok ∷ tells say.Ok ∷ reply.Bulk job ∷ reply.Bulk job ∷ nothing_due ∷ number 1 ∷ number 1
    ∷ texts (job ∷ []) ∷ nothing_due ∷ number 0 ∷ number 1 ∷ number 0 ∷ texts (failed ∷ codes "101" ∷ []) ∷ []
unfolding put came replies limits number texts tells nothing_due at_second q w1 list retries job failed beats joins fetches releases follows serde_json_on_literals head head_of_value head_of_object is_utf8 chars digits class_of edit_at edit_list lib.Utf8.encode date_of year_from month_from
twins = refl

-- a worker releases nothing before it has put its job back, puts back only what follows it, and one text alone
released_last : replies (first limits) (By 0 0 (Plain (Lpush q (job ∷ []))) ∷ beats 1 ∷ joins 1 ∷ fetches 1 ∷ releases 1 job ∷ By 1 0 (Plain (Zadd retries ((at_second 1, job) ∷ []))) ∷ By 1 0 (Plain (Zadd retries ((at_second 1, failed) ∷ (at_second 2, failed) ∷ [])))
    ∷ By 0 0 (Plain (Zadd retries ((at_second 1, failed) ∷ []))) ∷ By 0 0 (Plain (Lrem list (pos 1) job)) ∷ By 1 0 (Plain (Zadd retries ((at_second 1, failed) ∷ []))) ∷ releases 1 failed ∷ By 1 0 (Plain (Lrem list (pos 0) job)) ∷ releases 1 job ∷ releases 1 job ∷ [])
    ≡ number 1 ∷ tells say.Ok ∷ tells say.Ok ∷ reply.Bulk job ∷ tells (say.Refused OutOfTurn) ∷ tells (say.Refused OutOfTurn) ∷ tells (say.Refused OutOfTurn)
    ∷ tells (say.Refused NotWorker) ∷ tells (say.Refused NotWorker) ∷ number 1 ∷ tells (say.Refused OutOfTurn) ∷ tells (say.Refused OutOfTurn) ∷ number 1 ∷ tells (say.Refused OutOfTurn) ∷ []
unfolding put came replies limits number texts tells at_second q w1 list retries job failed beats joins fetches releases follows serde_json_on_literals head head_of_value head_of_object is_utf8 chars digits class_of edit_at edit_list lib.Utf8.encode date_of year_from month_from
released_last = refl

-- a job that is given back comes first again; without a head it can't be, and is buried as it is
given_back : replies (first limits) (By 0 0 (Plain (Lpush q (job ∷ codes "x" ∷ []))) ∷ beats 1 ∷ joins 1 ∷ fetches 1 ∷ By 1 0 (Script (script.Back job)) ∷ By 1 0 (Plain (Lrange q (pos 0) (negsuc 0))) ∷ fetches 1 ∷ By 1 0 (Script (script.Drop job)) ∷ releases 1 job
    ∷ fetches 1 ∷ By 1 0 (Script (script.Back (codes "x"))) ∷ By 1 7 (Script (script.Bury (codes "x"))) ∷ releases 1 (codes "x") ∷ By 1 0 (Plain (Zscore (codes "dead") (codes "x"))) ∷ By 1 0 (Plain (Llen list)) ∷ [])
    ≡ number 2 ∷ tells say.Ok ∷ tells say.Ok ∷ reply.Bulk job ∷ number 1 ∷ texts (codes "x" ∷ job ∷ []) ∷ reply.Bulk job ∷ tells say.Ok ∷ number 1
    ∷ reply.Bulk (codes "x") ∷ tells (say.Refused BadPayload) ∷ report 0 1 ∷ number 1 ∷ reply.Bulk (codes "0.007") ∷ number 0 ∷ []
unfolding put came replies limits number texts tells report q w1 list retries job failed beats joins fetches releases follows serde_json_on_literals head head_of_value head_of_object is_utf8 chars digits class_of edit_at edit_list lib.Utf8.encode date_of year_from month_from
given_back = refl

-- a seat that is cut off leaves its job in the private list, and a heartbeat stands for a minute
cut_off : replies (first limits) (By 0 0 (Plain (Lpush q (job ∷ []))) ∷ beats 1 ∷ joins 1 ∷ fetches 1 ∷ Off 1 ∷ By 1 59999 (Plain (Lrange list (pos 0) (negsuc 0))) ∷ joins 1 ∷ Off 1 ∷ By 0 60000 (Plain (Smembers (codes "processes"))) ∷ joins 1 ∷ By 0 0 (Plain (Llen list)) ∷ [])
    ≡ number 1 ∷ tells say.Ok ∷ tells say.Ok ∷ reply.Bulk job ∷ tells say.Ok ∷ texts (job ∷ []) ∷ tells say.Ok ∷ tells say.Ok ∷ texts [] ∷ tells (say.Refused NoProcess) ∷ number 1 ∷ []
unfolding put came replies limits number texts tells q w1 list job beats joins fetches releases serde_json_on_literals head head_of_value head_of_object is_utf8 chars digits class_of edit_at edit_list lib.Utf8.encode date_of year_from month_from
cut_off = refl

-- ## Several jobs in a worker's hands

-- Each job is at a stage of its own. The second is released while the first is still held, and the first is given back.
several : replies (first limits) (By 0 0 (Plain (Lpush q (job ∷ other_job ∷ []))) ∷ beats 1 ∷ joins 1 ∷ fetches 1 ∷ fetches 1 ∷ By 1 0 (Script (script.Ok other_job)) ∷ releases 1 job ∷ releases 1 other_job ∷ By 1 0 (Script (script.Ok other_job))
    ∷ By 1 0 (Script (script.Start job)) ∷ By 1 0 (Script (script.Back job)) ∷ By 1 0 (Script (script.Start job)) ∷ By 0 0 (Plain (Lrange q (pos 0) (negsuc 0))) ∷ [])
    ≡ number 2 ∷ tells say.Ok ∷ tells say.Ok ∷ reply.Bulk job ∷ reply.Bulk other_job ∷ nothing_due ∷ tells (say.Refused OutOfTurn) ∷ number 1 ∷ tells (say.Refused OutOfTurn)
    ∷ tells say.Ok ∷ number 1 ∷ tells (say.Refused OutOfTurn) ∷ texts (job ∷ []) ∷ []
unfolding put came replies limits number texts tells nothing_due q w1 list job other_job beats joins fetches releases serde_json_on_literals head head_of_value head_of_object is_utf8 chars digits class_of edit_at edit_list lib.Utf8.encode date_of year_from month_from
several = refl

-- Of two works of one text a command is about the first that it fits. One is settled, one fails, and each takes a row of its own.
same_text : replies (first limits) (By 0 0 (Plain (Lpush q (job ∷ job ∷ []))) ∷ beats 1 ∷ joins 1 ∷ fetches 1 ∷ fetches 1 ∷ By 1 0 (Script (script.Drop job)) ∷ By 1 0 (Plain (Zadd retries ((at_second 1, failed) ∷ []))) ∷ By 1 0 (Script (script.Start job))
    ∷ releases 1 job ∷ By 0 0 (Plain (Llen list)) ∷ releases 1 job ∷ releases 1 job ∷ By 0 0 (Plain (Llen list)) ∷ By 0 0 (Plain (Zrange retries (pos 0) (negsuc 0) false)) ∷ [])
    ≡ number 2 ∷ tells say.Ok ∷ tells say.Ok ∷ reply.Bulk job ∷ reply.Bulk job ∷ tells say.Ok ∷ number 1 ∷ tells (say.Refused OutOfTurn)
    ∷ number 1 ∷ number 1 ∷ number 1 ∷ tells (say.Refused OutOfTurn) ∷ number 0 ∷ texts (failed ∷ []) ∷ []
unfolding put came replies limits number texts tells at_second q w1 list retries job failed beats joins fetches releases follows serde_json_on_literals head head_of_value head_of_object is_utf8 chars digits class_of edit_at edit_list lib.Utf8.encode date_of year_from month_from
same_text = refl

-- What is put back or buried is told of the first that it follows, whatever was fetched before it.
fitting : replies (first limits) (By 0 0 (Plain (Lpush q (other_job ∷ codes "x" ∷ job ∷ []))) ∷ beats 1 ∷ joins 1 ∷ fetches 1 ∷ fetches 1 ∷ fetches 1 ∷ By 1 0 (Plain (Zadd retries ((at_second 1, failed) ∷ []))) ∷ By 1 0 (Script (script.Bury failed)) ∷ By 1 7 (Script (script.Bury (codes "x")))
    ∷ releases 1 other_job ∷ releases 1 job ∷ releases 1 (codes "x") ∷ By 1 0 (Script (script.Ok other_job)) ∷ releases 1 other_job ∷ By 0 0 (Plain (Llen list)) ∷ By 0 0 (Plain (Zscore (codes "dead") (codes "x"))) ∷ [])
    ≡ number 3 ∷ tells say.Ok ∷ tells say.Ok ∷ reply.Bulk other_job ∷ reply.Bulk (codes "x") ∷ reply.Bulk job ∷ number 1 ∷ tells (say.Refused OutOfTurn) ∷ report 0 1
    ∷ tells (say.Refused OutOfTurn) ∷ number 1 ∷ number 1 ∷ nothing_due ∷ number 1 ∷ number 0 ∷ reply.Bulk (codes "0.007") ∷ []
unfolding put came replies limits number texts tells nothing_due at_second report q w1 list retries job failed other_job beats joins fetches releases follows serde_json_on_literals head head_of_value head_of_object is_utf8 chars digits class_of edit_at edit_list lib.Utf8.encode date_of year_from month_from
fitting = refl

-- A cut lets all go, and leaves their rows.
cut_with_several : replies (first limits) (By 0 0 (Plain (Lpush q (job ∷ other_job ∷ []))) ∷ beats 1 ∷ joins 1 ∷ fetches 1 ∷ fetches 1 ∷ By 1 0 (Script (script.Drop job)) ∷ Off 1 ∷ joins 1 ∷ releases 1 job ∷ By 1 0 (Script (script.Start other_job)) ∷ By 0 0 (Plain (Lrange list (pos 0) (negsuc 0))) ∷ [])
    ≡ number 2 ∷ tells say.Ok ∷ tells say.Ok ∷ reply.Bulk job ∷ reply.Bulk other_job ∷ tells say.Ok ∷ tells say.Ok ∷ tells say.Ok ∷ tells (say.Refused OutOfTurn) ∷ tells (say.Refused OutOfTurn) ∷ texts (other_job ∷ job ∷ []) ∷ []
unfolding put came replies limits number texts tells q w1 list job other_job beats joins fetches releases serde_json_on_literals head head_of_value head_of_object is_utf8 chars digits class_of edit_at edit_list lib.Utf8.encode date_of year_from month_from
cut_with_several = refl

-- as often as this many
times : ℕ → Event → List Event → List Event
times zero e events = events
times (suc n) e events = e ∷ times n e events

-- the reply of the last
last_reply : World → List Event → Reply
last_reply w [] = tells say.Ok
last_reply w (e ∷ []) = (came w e).reply
last_reply w (e ∷ more ∷ events) = last_reply (perform w (came w e).changes) (more ∷ events)

a : Bytes
a = codes "a"

-- what comes of these events once sixteen of twenty jobs were fetched
Full : List Event → Reply → Type 0
Full events reply = last_reply (first (record { rows = 20; bytes = 20; batches = 0 })) (beats 1 ∷ joins 1 ∷ times 20 (By 0 0 (Plain (Lpush q (a ∷ [])))) (times 16 (fetches 1) events)) ≡ reply

-- A seat with sixteen jobs fetches no more, and from what is no queue's name not either, before it has released one of them.
sixteen : Full [] (reply.Bulk a) × Full (fetches 1 ∷ []) (tells (say.Refused HandsFull)) × Full (By 1 0 (Plain (Lmove (codes "queue:") list Right Left)) ∷ []) (tells (say.Refused OutOfTurn))
    × Full (By 1 0 (Script (script.Drop a)) ∷ fetches 1 ∷ []) (tells (say.Refused HandsFull)) × Full (By 1 0 (Script (script.Drop a)) ∷ releases 1 a ∷ fetches 1 ∷ []) (reply.Bulk a)
    × Full (By 1 0 (Script (script.Drop a)) ∷ releases 1 a ∷ fetches 1 ∷ fetches 1 ∷ []) (tells (say.Refused HandsFull))
unfolding put Full came last_reply times number texts tells a q w1 list beats joins fetches releases serde_json_on_literals head head_of_value head_of_object is_utf8 chars digits class_of edit_at edit_list lib.Utf8.encode date_of year_from month_from
sixteen = (refl, refl, refl, refl, refl, refl)

-- ## A rescue

rescues : ℕ → Event
rescues now = By 0 now (Script script.Rescue)

-- While the heartbeat stands nothing is rescued. Then the same bytes come to be fetched first, and a worker of another process has them.
rescued_once : replies (first limits) (By 0 0 (Plain (Lpush q (job ∷ []))) ∷ beats 1 ∷ joins 1 ∷ fetches 1 ∷ Off 1 ∷ By 0 0 (Plain (Lpush q (codes "y" ∷ []))) ∷ rescues 59999 ∷ By 1 0 (Script script.Rescue) ∷ rescues 60000 ∷ By 0 0 (Plain (Lrange q (pos 0) (negsuc 0)))
    ∷ By 2 0 (Script (script.Beat (codes "w:2"))) ∷ By 2 0 (Script (script.Join (codes "w:2"))) ∷ By 2 0 (Script script.Rescue) ∷ By 2 0 (Plain (Lmove q (codes "sq:w:2") Right Left)) ∷ [])
    ≡ number 1 ∷ tells say.Ok ∷ tells say.Ok ∷ reply.Bulk job ∷ tells say.Ok ∷ number 1 ∷ report 0 0 ∷ report 0 0 ∷ report 1 0 ∷ texts (codes "y" ∷ job ∷ [])
    ∷ tells say.Ok ∷ tells say.Ok ∷ tells (say.Refused OutOfTurn) ∷ reply.Bulk job ∷ []
unfolding put came replies limits number texts tells report q w1 list job beats joins fetches rescues serde_json_on_literals head head_of_value head_of_object is_utf8 chars digits class_of edit_at edit_list lib.Utf8.encode date_of year_from month_from
rescued_once = refl

-- A slow worker's job is rescued, and its twin has the same bytes in the same list. Each fails and puts its text back, and the first one's release
-- takes the row of both.
rescued_twins : replies (first limits) (By 0 0 (Plain (Lpush q (job ∷ []))) ∷ beats 1 ∷ joins 1 ∷ joins 2 ∷ fetches 1 ∷ rescues 60000 ∷ fetches 2 ∷ By 1 0 (Script (script.Fail job)) ∷ By 1 0 (Plain (Zadd retries ((at_second 100, failed) ∷ []))) ∷ releases 1 job
    ∷ By 2 0 (Script (script.Fail job)) ∷ By 2 0 (Plain (Zadd retries ((at_second 101, failed) ∷ []))) ∷ releases 2 job ∷ By 0 0 (Plain (Zrange retries (pos 0) (negsuc 0) false)) ∷ By 2 0 (Script (script.Where (codes "j"))) ∷ [])
    ≡ number 1 ∷ tells say.Ok ∷ tells say.Ok ∷ tells say.Ok ∷ reply.Bulk job ∷ report 1 0 ∷ reply.Bulk job ∷ nothing_due ∷ number 1 ∷ number 1 ∷ nothing_due ∷ number 0 ∷ number 0 ∷ texts (failed ∷ []) ∷ number 1 ∷ []
unfolding put came replies limits number texts tells nothing_due at_second report q w1 list retries job failed beats joins fetches releases rescues follows serde_json_on_literals head head_of_value head_of_object is_utf8 chars digits class_of edit_at edit_list lib.Utf8.encode date_of year_from month_from
rescued_twins = refl

-- a worker takes the job and dies of it, and the rescue comes at this moment
dies : ℕ → List Event → List Event
dies now events = beats 1 ∷ joins 1 ∷ fetches 1 ∷ Off 1 ∷ rescues now ∷ events

-- what the rescue after three such deaths tells
Third : ℕ → Reply → Type 0
Third now reply = last_reply (first limits) (By 0 0 (Plain (Lpush q (job ∷ []))) ∷ dies 60000 (dies 120000 (dies now []))) ≡ reply

-- the third recovery within 72 hours is the last
poison : Third 180000 (report 0 1) × Third 259260000 (report 0 1) × Third 259260001 (report 1 0)
unfolding put Third came last_reply limits number texts tells report q w1 list job beats joins fetches rescues dies serde_json_on_literals head head_of_value head_of_object is_utf8 chars digits class_of edit_at edit_list lib.Utf8.encode date_of year_from month_from
poison = (refl, refl, refl)

-- ## Lives

-- what becomes of the job, once it is pushed and a worker has fetched it
Becomes : List Event → Life → Type 0
Becomes events life = life_of (first limits) (codes "j") Unborn (By 0 0 (Plain (Lpush q (job ∷ []))) ∷ beats 1 ∷ joins 1 ∷ fetches 1 ∷ events) ≡ life

-- A job lives until the release of a worker that is done with it.
ends_once : Becomes [] Live × Becomes (By 1 0 (Script (script.Ok job)) ∷ []) Live × Becomes (By 1 0 (Script (script.Ok job)) ∷ releases 1 job ∷ []) (Ended Returned) × Becomes (By 1 0 (Script (script.Drop job)) ∷ releases 1 job ∷ []) (Ended Discarded)
    × Becomes (By 1 0 (Script (script.Ok job)) ∷ Off 1 ∷ []) Live
unfolding put Becomes came life_of limits q w1 list job beats joins fetches releases serde_json_on_literals head head_of_value head_of_object is_utf8 chars digits class_of edit_at edit_list lib.Utf8.encode date_of year_from month_from
ends_once = (refl, refl, refl, refl, refl)

-- put back and released, it lives on; so it does where it is given back, and where it is pushed again it doesn't
lives_on : Becomes (By 1 0 (Plain (Zadd retries ((at_second 1, failed) ∷ []))) ∷ releases 1 job ∷ []) Live × Becomes (By 1 0 (Script (script.Back job)) ∷ []) Live × Becomes (By 2 0 (Plain (Lpush q (job ∷ []))) ∷ []) (Ended Muddled)
unfolding put Becomes came life_of limits q w1 list retries job failed beats joins fetches releases at_second follows serde_json_on_literals head head_of_value head_of_object is_utf8 chars digits class_of edit_at edit_list lib.Utf8.encode date_of year_from month_from
lives_on = (refl, refl, refl)

-- A job in a worker's hands isn't pushed afresh, though no row of it is left.
in_hands : Becomes (By 0 0 (Plain Flushall) ∷ By 0 0 (Plain (Lpush q (job ∷ []))) ∷ []) (Ended Deleted) × Becomes (By 0 0 (Plain Flushall) ∷ By 1 0 (Script (script.Ok job)) ∷ releases 1 job ∷ By 0 0 (Plain (Lpush q (job ∷ []))) ∷ []) Live
unfolding put Becomes came life_of limits q w1 list job beats joins fetches releases serde_json_on_literals head head_of_value head_of_object is_utf8 chars digits class_of edit_at edit_list lib.Utf8.encode date_of year_from month_from
in_hands = (refl, refl)

-- So it is with the second of two, whichever job is asked about.
second_in_hands : life_of (first limits) (codes "k") Unborn (By 0 0 (Plain (Lpush q (job ∷ other_job ∷ []))) ∷ beats 1 ∷ joins 1 ∷ fetches 1 ∷ fetches 1 ∷ By 0 0 (Plain Flushall) ∷ By 0 0 (Plain (Lpush q (other_job ∷ []))) ∷ []) ≡ Ended Deleted
unfolding put came life_of limits q w1 list job other_job beats joins fetches serde_json_on_literals head head_of_value head_of_object is_utf8 chars digits class_of edit_at edit_list lib.Utf8.encode date_of year_from month_from
second_in_hands = refl

-- ## The counters

counts : Bytes → Event
counts name = By 2 0 (Plain (Get name))

-- SK.OK and SK.FAIL count, in all and of the day in UTC; no seat writes a counter, and one of 0 is no key.
counted : replies (first limits) (By 0 1700000000000 (Plain (Lpush q (job ∷ other_job ∷ []))) ∷ beats 1 ∷ joins 1 ∷ fetches 1 ∷ By 1 0 (Script (script.Ok job)) ∷ releases 1 job ∷ counts (codes "stat:processed") ∷ counts (codes "stat:processed:2023-11-14") ∷ counts (codes "stat:failed")
    ∷ fetches 1 ∷ By 1 0 (Script (script.Fail other_job)) ∷ By 1 1700006400000 (Script (script.Fail other_job)) ∷ counts (codes "stat:processed") ∷ counts (codes "stat:failed") ∷ counts (codes "stat:failed:2023-11-15") ∷ counts (codes "stat:x") ∷ By 0 0 (Plain (Incrby (codes "stat:failed") (pos 1))) ∷ [])
    ≡ number 2 ∷ tells say.Ok ∷ tells say.Ok ∷ reply.Bulk job ∷ nothing_due ∷ number 1 ∷ reply.Bulk (codes "1") ∷ reply.Bulk (codes "1") ∷ reply.Null
    ∷ reply.Bulk other_job ∷ nothing_due ∷ nothing_due ∷ reply.Bulk (codes "3") ∷ reply.Bulk (codes "2") ∷ reply.Bulk (codes "1") ∷ reply.Null ∷ tells (say.Refused ManagedKey) ∷ []
unfolding put came replies limits number texts tells nothing_due counts q w1 list job other_job beats joins fetches releases date_of year_from month_from serde_json_on_literals head head_of_value head_of_object is_utf8 chars digits class_of edit_at edit_list lib.Utf8.encode
counted = refl

-- ## The tally

after : World → List Event → World
after w [] = w
after w (e ∷ events) = after (perform w (came w e).changes) events

pushes : Bytes → Event
pushes text = By 0 0 (Plain (Lpush q (text ∷ [])))

-- Of eight pushed rows one has no head, and one wasn't fresh; two jobs are live, and four ended.
tallied : (after (first limits) (beats 1 ∷ joins 1 ∷ pushes (codes "x") ∷ By 0 0 (Plain (Del (q ∷ []))) ∷ pushes job ∷ fetches 1 ∷ By 1 0 (Script (script.Ok job)) ∷ releases 1 job ∷ pushes job ∷ fetches 1 ∷ By 1 0 (Script (script.Drop job)) ∷ releases 1 job
    ∷ pushes job ∷ By 0 0 (Plain (Del (q ∷ []))) ∷ pushes job ∷ pushes failed ∷ By 0 0 (Plain (Del (q ∷ []))) ∷ pushes job ∷ By 0 0 (Plain (Lpush q (other_job ∷ []))) ∷ [])).tally
    ≡ record { outside = 8; inner = 0; bare = 1; again = 1; returned = 1; discarded = 1; deleted = 1; trimmed = 0; muddled = 1 }
unfolding put came after pushes limits q w1 list job other_job failed beats joins fetches releases serde_json_on_literals head head_of_value head_of_object is_utf8 chars digits class_of edit_at edit_list lib.Utf8.encode date_of year_from month_from
tallied = refl

-- a job that the dead set drops after 180 days is trimmed
tallied_dead : (after (first limits) (By 0 0 (Plain (Zadd (codes "schedule") ((pos 0, job) ∷ []))) ∷ By 0 0 (Script (script.Kill Schedule job)) ∷ pushes other_job ∷ By 0 15552000000 (Plain (Zadd (codes "schedule") ((pos 0, codes "x") ∷ []))) ∷ By 0 0 (Script (script.Kill Schedule (codes "x"))) ∷ [])).tally
    ≡ record { outside = 3; inner = 0; bare = 1; again = 0; returned = 0; discarded = 0; deleted = 0; trimmed = 1; muddled = 0 }
unfolding put came after pushes limits q job other_job serde_json_on_literals head head_of_value head_of_object is_utf8 chars digits class_of edit_at edit_list lib.Utf8.encode date_of year_from month_from
tallied_dead = refl
