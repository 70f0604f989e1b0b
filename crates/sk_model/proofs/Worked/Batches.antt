-- Worked batches, computed from the definitions.
use Rattle.std.proofs.Common.{◌≡◌, ℕ, ◌+◌, List, [], ◌∷◌, refl}
use Rattle.std.specs.Prelude.{codes, pos, negsuc, map}
use Rattle.std.specs.Str.{is_utf8, chars}
use Rattle.std.specs.Fmt.{digits}
use Rattle.serde_json.proofs.OnLiterals.{serde_json_on_literals}
use Rattle.sk_resp.specs.Spelling.{Bytes, bulk}
use Rattle.sk_resp.specs.Reply.{wire}
use Rattle.sk_resp.specs.declared.reply.Reply.{Reply}
use Rattle.sk_resp.specs.declared.reply.Reply.TheVariants as reply
use Rattle.sk_resp.specs.declared.refusal.Refusal.{Refusal}
use Rattle.sk_resp.specs.declared.refusal.Refusal.TheVariants.{NoBatch, RepeatedBid, Settled, BadPayload, RepeatedJid, Full}
use Rattle.sk_resp.specs.declared.say.Say.TheVariants as say
use Rattle.sk_payload.specs.Head.{head, head_of_value, head_of_object}
use Rattle.sk_payload.specs.Follows.{follows}
use Rattle.sk_cmd.specs.declared.argument.Scored.TheVariants.{Dead, Retry, Schedule}
use Rattle.sk_cmd.specs.declared.argument.Side.TheVariants.{Left, Right}
use Rattle.sk_cmd.specs.declared.command.Command.{Command}
use Rattle.sk_cmd.specs.declared.command.Command.TheVariants.{Plain, Script}
use Rattle.sk_cmd.specs.declared.command.PlainCommand.TheVariants.{Lpush, Lrange, Llen, Lrem, Lmove, Zadd}
use Rattle.sk_cmd.specs.declared.command.ScriptCommand.TheVariants as script
use Rattle.sk_leases.specs.Lists.{put}
use Rattle.sk_value.specs.Apply.{edit_at}
use Rattle.sk_value.specs.Lists.{edit_list}
use Rattle.sk_model.specs.declared.limits.Limits.{Limits}
use Rattle.sk_counters.specs.Date.{date_of, year_from, month_from}
use Rattle.sk_model.specs.World.{World, first}
use Rattle.sk_model.specs.Change.{perform}
use Rattle.sk_key.specs.Class.{class_of, private_key}
use Rattle.sk_model.specs.Outcome.{Outcome}
use Rattle.sk_model.specs.Step.{outcome}

-- a command, the seat that sends it, and the moment that the store is handed
data Event : Type 0 where
  By : (seat now : ℕ) → (command : Command) → Event

came : World → Event → Outcome
came w (By seat now c) = outcome w seat now c

replies : World → List Event → List Reply
replies w [] = []
replies w (e ∷ events) = (came w e).reply ∷ replies (perform w (came w e).changes) events

limits : Limits
limits = record { rows = 9; bytes = 2000; batches = 3 }

number : ℕ → Reply
number n = reply.Int (pos n)

texts : List Bytes → Reply
texts list = reply.Array (map bulk list)

ok : Reply
ok = reply.Say say.Ok

refused : Refusal → Reply
refused refusal = reply.Say (say.Refused refusal)

numbers : ℕ → ℕ → ℕ → ℕ → ℕ → Reply
numbers a b c d e = reply.Array (wire (number a) ∷ wire (number b) ∷ wire (number c) ∷ wire (number d) ∷ wire (number e) ∷ [])

report : ℕ → ℕ → List Bytes → Reply
report moved buried fires = reply.Array (wire (number moved) ∷ wire (number buried) ∷ wire (texts fires) ∷ wire (texts []) ∷ [])

complete : Bytes
complete = codes "complete"

success : Bytes
success = codes "success"

death : Bytes
death = codes "death"

p : Bytes
p = codes "p"

c : Bytes
c = codes "c"

g : Bytes
g = codes "g"

-- callbacks
seven : Bytes
seven = codes "{\"jid\":\"7\",\"class\":\"C\",\"queue\":\"q\",\"args\":[]}"

eight : Bytes
eight = codes "{\"jid\":\"8\",\"class\":\"C\",\"queue\":\"q\",\"args\":[]}"

nine : Bytes
nine = codes "{\"jid\":\"9\",\"class\":\"C\",\"queue\":\"q\",\"args\":[]}"

-- members of p, one of c and one of g
p1 : Bytes
p1 = codes "{\"jid\":\"1\",\"class\":\"C\",\"queue\":\"q\",\"args\":[],\"bid\":\"p\"}"

p2 : Bytes
p2 = codes "{\"jid\":\"2\",\"class\":\"C\",\"queue\":\"q\",\"args\":[],\"bid\":\"p\"}"

c2 : Bytes
c2 = codes "{\"jid\":\"2\",\"class\":\"C\",\"queue\":\"q\",\"args\":[],\"bid\":\"c\"}"

g3 : Bytes
g3 = codes "{\"jid\":\"3\",\"class\":\"C\",\"queue\":\"q\",\"args\":[],\"bid\":\"g\"}"

locked : Bytes
locked = codes "{\"jid\":\"7\",\"class\":\"C\",\"queue\":\"q\",\"args\":[],\"unique_for\":9}"

-- 65 bytes
long : Bytes
long = codes "ppppppppppppppppppppppppppppppppppppppppppppppppppppppppppppppppp"

retries : Bytes
retries = codes "retry"

schedule : Bytes
schedule = codes "schedule"

-- p1 after its first failure
failed : Bytes
failed = codes "{\"jid\":\"1\",\"class\":\"C\",\"queue\":\"q\",\"args\":[],\"bid\":\"p\",\"retry_count\":0}"

-- ## What is sent

client : Command → Event
client c = By 0 0 c

pushes : Bytes → Bytes → Bytes → Bytes → Bytes → List Bytes → Event
pushes bid parent on_complete on_success on_death jobs = client (Script (script.Bpush bid parent on_complete on_success on_death jobs))

adds : Bytes → List Bytes → Event
adds bid jobs = client (Script (script.Badd bid jobs))

asks : Bytes → Event
asks bid = client (Script (script.Bstat bid))

q : Bytes
q = codes "queue:q"

waiting : Event
waiting = client (Plain (Lrange q (pos 0) (negsuc 0)))

w1 : Bytes
w1 = codes "w:1"

list : Bytes
list = codes "sq:w:1"

worker : Command → Event
worker c = By 1 0 c

beats : Event
beats = worker (Script (script.Beat w1))

joins : Event
joins = worker (Script (script.Join w1))

fetches : Event
fetches = worker (Plain (Lmove q list Right Left))

returns : Bytes → Event
returns text = worker (Script (script.Ok text))

fails : Bytes → Event
fails text = worker (Script (script.Fail text))

drops : Bytes → Event
drops text = worker (Script (script.Drop text))

releases : Bytes → Event
releases text = worker (Plain (Lrem list (pos 1) text))

-- ## Success

-- Three nested batches, each with a job. The jobs return from the outer batch inwards, and the last of them fires all.
nested : replies (first limits) (pushes p [] [] seven [] (p1 ∷ []) ∷ pushes c p [] eight [] (c2 ∷ []) ∷ pushes g c [] nine [] (g3 ∷ []) ∷ asks p ∷ beats ∷ joins ∷ fetches ∷ returns p1 ∷ releases p1 ∷ fetches ∷ returns c2 ∷ releases c2 ∷ asks p ∷ fetches ∷ returns g3 ∷ releases g3 ∷ waiting ∷ asks p ∷ asks q ∷ [])
    ≡ texts [] ∷ texts [] ∷ texts [] ∷ numbers 1 1 1 0 3 ∷ ok ∷ ok ∷ reply.Bulk p1 ∷ texts [] ∷ number 1 ∷ reply.Bulk c2 ∷ texts [] ∷ number 1 ∷ numbers 1 0 0 0 1 ∷ reply.Bulk g3
    ∷ texts (g ∷ complete ∷ c ∷ complete ∷ p ∷ complete ∷ g ∷ success ∷ c ∷ success ∷ p ∷ success ∷ []) ∷ number 1 ∷ texts (seven ∷ eight ∷ nine ∷ []) ∷ numbers 1 0 0 0 0 ∷ refused NoBatch ∷ []
unfolding put came replies limits number texts ok refused numbers complete success p c g seven eight nine p1 c2 g3 client pushes asks q waiting w1 list worker beats joins fetches returns releases serde_json_on_literals head head_of_value head_of_object is_utf8 chars digits class_of edit_at edit_list lib.Utf8.encode date_of year_from month_from
nested = refl

-- A job that is given up fires nothing and leaves its batch open; one that returns again fires nothing more, and one that is no member leaves no trace.
given_up : replies (first limits) (pushes p [] [] seven [] (p1 ∷ []) ∷ client (Plain (Lpush q (p2 ∷ []))) ∷ beats ∷ joins ∷ fetches ∷ drops p1 ∷ releases p1 ∷ asks p ∷ fetches ∷ returns p2 ∷ releases p2 ∷ asks p ∷ client (Plain (Lpush q (p1 ∷ p1 ∷ []))) ∷ fetches ∷ returns p1 ∷ releases p1 ∷ fetches ∷ returns p1 ∷ releases p1 ∷ waiting ∷ [])
    ≡ texts [] ∷ number 2 ∷ ok ∷ ok ∷ reply.Bulk p1 ∷ ok ∷ number 1 ∷ numbers 1 1 1 0 1 ∷ reply.Bulk p2 ∷ texts [] ∷ number 1 ∷ numbers 1 1 1 0 1 ∷ number 2 ∷ reply.Bulk p1 ∷ texts (p ∷ complete ∷ p ∷ success ∷ []) ∷ number 1 ∷ reply.Bulk p1 ∷ texts [] ∷ number 1 ∷ texts (seven ∷ []) ∷ []
unfolding put came replies limits number texts ok numbers complete success p seven p1 p2 client pushes asks drops q waiting w1 list worker beats joins fetches returns releases serde_json_on_literals head head_of_value head_of_object is_utf8 chars digits class_of edit_at edit_list lib.Utf8.encode date_of year_from month_from
given_up = refl

-- Jobs are added while one is open, under ids of their own. Success waits for them, and complete comes but once.
added : replies (first limits) (pushes p [] [] seven [] (p1 ∷ []) ∷ beats ∷ joins ∷ fetches ∷ fails p1 ∷ adds p (p2 ∷ p1 ∷ []) ∷ adds p (p2 ∷ []) ∷ asks p ∷ returns p1 ∷ releases p1 ∷ fetches ∷ returns p2 ∷ releases p2 ∷ adds p (p2 ∷ []) ∷ waiting ∷ [])
    ≡ texts [] ∷ ok ∷ ok ∷ reply.Bulk p1 ∷ texts (p ∷ complete ∷ []) ∷ refused RepeatedJid ∷ number 1 ∷ numbers 2 2 1 0 2 ∷ texts [] ∷ number 1 ∷ reply.Bulk p2 ∷ texts (p ∷ success ∷ []) ∷ number 1 ∷ refused Settled ∷ texts (seven ∷ []) ∷ []
unfolding put came replies limits number texts ok refused numbers complete success p seven p1 p2 client pushes adds asks q waiting w1 list worker beats joins fetches fails returns releases serde_json_on_literals head head_of_value head_of_object is_utf8 chars digits class_of edit_at edit_list lib.Utf8.encode date_of year_from month_from
added = refl

-- ## Death

-- A job fails and is buried. The batch is complete by the failure, and dies of the burying.
buried : replies (first limits) (pushes p [] [] [] nine (p1 ∷ []) ∷ beats ∷ joins ∷ fetches ∷ fails p1 ∷ worker (Script (script.Bury failed)) ∷ releases p1 ∷ asks p ∷ waiting ∷ [])
    ≡ texts [] ∷ ok ∷ ok ∷ reply.Bulk p1 ∷ texts (p ∷ complete ∷ []) ∷ report 0 1 (p ∷ death ∷ []) ∷ number 1 ∷ numbers 1 1 0 1 1 ∷ texts (nine ∷ []) ∷ []
unfolding put came replies limits number texts ok report numbers complete death p nine p1 failed client pushes asks q waiting w1 list worker beats joins fetches fails releases follows serde_json_on_literals head head_of_value head_of_object is_utf8 chars digits class_of edit_at edit_list lib.Utf8.encode date_of year_from month_from
buried = refl

-- A burying reports the job too. A batch dies once, and the second burying fires nothing.
killed : replies (first limits) (pushes p [] seven [] nine (p1 ∷ []) ∷ beats ∷ joins ∷ fetches ∷ worker (Plain (Zadd retries ((pos 0, failed) ∷ []))) ∷ releases p1 ∷ client (Script (script.Kill Retry p1)) ∷ client (Script (script.Kill Retry failed)) ∷ waiting ∷ client (Script (script.Revive Dead failed)) ∷ fetches ∷ fetches ∷ returns nine ∷ [])
    ≡ texts [] ∷ ok ∷ ok ∷ reply.Bulk p1 ∷ number 1 ∷ number 1 ∷ report 0 0 [] ∷ report 0 1 (p ∷ complete ∷ p ∷ death ∷ []) ∷ texts (nine ∷ seven ∷ []) ∷ number 1 ∷ reply.Bulk seven ∷ reply.Bulk nine ∷ texts [] ∷ []
unfolding put came replies limits number texts ok report complete death p seven nine p1 failed retries client pushes q waiting w1 list worker beats joins fetches releases returns follows serde_json_on_literals head head_of_value head_of_object is_utf8 chars digits class_of edit_at edit_list lib.Utf8.encode date_of year_from month_from
killed = refl

-- c2 after its first failure
c_failed : Bytes
c_failed = codes "{\"jid\":\"2\",\"class\":\"C\",\"queue\":\"q\",\"args\":[],\"bid\":\"c\",\"retry_count\":0}"

-- A job of an inner batch is buried: that batch dies, and then the outer one. A second burying fires nothing, also one in the outer batch.
risen : replies (first limits) (pushes p [] [] [] nine (p1 ∷ []) ∷ pushes c p [] [] seven (c2 ∷ []) ∷ beats ∷ joins ∷ fetches ∷ returns p1 ∷ releases p1 ∷ fetches ∷ fails c2 ∷ worker (Script (script.Bury c_failed)) ∷ releases c2 ∷ asks p ∷ asks c ∷ waiting ∷ client (Plain (Zadd schedule ((pos 0, p1) ∷ []))) ∷ client (Script (script.Kill Schedule p1)) ∷ [])
    ≡ texts [] ∷ texts [] ∷ ok ∷ ok ∷ reply.Bulk p1 ∷ texts [] ∷ number 1 ∷ reply.Bulk c2 ∷ texts (c ∷ complete ∷ p ∷ complete ∷ []) ∷ report 0 1 (c ∷ death ∷ p ∷ death ∷ []) ∷ number 1 ∷ numbers 1 0 0 1 1 ∷ numbers 1 1 0 1 1 ∷ texts (nine ∷ seven ∷ []) ∷ number 1 ∷ report 0 1 [] ∷ []
unfolding put came replies limits number texts ok report numbers complete death p c seven nine p1 c2 c_failed schedule client pushes asks q waiting w1 list worker beats joins fetches returns fails releases follows serde_json_on_literals head head_of_value head_of_object is_utf8 chars digits class_of edit_at edit_list lib.Utf8.encode date_of year_from month_from
risen = refl

-- ## Rescue

-- a seat joins a process and fetches; it returns; a rescue at a moment
sits : ℕ → Bytes → List Event → List Event
sits seat ident events = By seat 0 (Script (script.Beat ident)) ∷ By seat 0 (Script (script.Join ident)) ∷ By seat 0 (Plain (Lmove q (private_key ident) Right Left)) ∷ events

rescues : ℕ → Event
rescues now = By 0 now (Script script.Rescue)

w2 : Bytes
w2 = codes "w:2"

w3 : Bytes
w3 = codes "w:3"

-- Two slow workers' jobs are rescued and run twice. The batch succeeds when the last of its jobs returns first, and not again.
rescued : replies (first limits) (pushes p [] [] nine [] (p1 ∷ p2 ∷ []) ∷ sits 1 w1 (rescues 60000 ∷ sits 2 w2 (By 1 0 (Script (script.Ok p1)) ∷ By 2 0 (Script (script.Ok p1)) ∷ By 2 0 (Plain (Lrem (private_key w2) (pos 1) p1)) ∷ By 2 0 (Plain (Lmove q (private_key w2) Right Left)) ∷ rescues 120000 ∷ sits 3 w3 (By 2 0 (Script (script.Ok p2)) ∷ waiting ∷ By 3 0 (Script (script.Ok p2)) ∷ []))))
    ≡ texts [] ∷ ok ∷ ok ∷ reply.Bulk p1 ∷ report 1 0 [] ∷ ok ∷ ok ∷ reply.Bulk p1 ∷ texts [] ∷ texts [] ∷ number 1 ∷ reply.Bulk p2 ∷ report 1 0 [] ∷ ok ∷ ok ∷ reply.Bulk p2 ∷ texts (p ∷ complete ∷ p ∷ success ∷ []) ∷ texts (nine ∷ []) ∷ texts [] ∷ []
unfolding put came replies limits number texts ok report complete success p nine p1 p2 client pushes q waiting w1 w2 w3 sits rescues serde_json_on_literals head head_of_value head_of_object is_utf8 chars digits class_of edit_at edit_list lib.Utf8.encode date_of year_from month_from
rescued = refl

-- two workers of a process take a job each and die of it
both_die : ℕ → ℕ → List Event → List Event
both_die seat now events = sits seat w1 (sits (seat + 1) w1 (rescues now ∷ events))

last_reply : World → List Event → Reply
last_reply w [] = ok
last_reply w (e ∷ []) = (came w e).reply
last_reply w (e ∷ more ∷ events) = last_reply (perform w (came w e).changes) (more ∷ events)

-- Jobs that kill their workers are buried at their third recovery. The first of the batch fires its death, and the second completes it.
poisoned : last_reply (first limits) (pushes p [] [] [] nine (p1 ∷ p2 ∷ []) ∷ both_die 1 60000 (both_die 3 120000 (both_die 5 180000 []))) ≡ report 0 2 (p ∷ death ∷ p ∷ complete ∷ [])
unfolding put came last_reply limits number texts ok report complete death p nine p1 p2 client pushes q w1 sits rescues both_die serde_json_on_literals head head_of_value head_of_object is_utf8 chars digits class_of edit_at edit_list lib.Utf8.encode date_of year_from month_from
poisoned = refl

-- ## What is refused

-- A batch without jobs is complete and has succeeded when it is made. It gets no jobs, and no batch within it.
empty : replies (first limits) (pushes p [] [] nine [] [] ∷ client (Plain (Llen q)) ∷ adds p (p2 ∷ []) ∷ adds c (c2 ∷ []) ∷ pushes p [] [] nine [] [] ∷ pushes c p [] [] [] (c2 ∷ []) ∷ pushes c g [] [] [] (c2 ∷ []) ∷ pushes c [] [] [] [] (c2 ∷ c2 ∷ []) ∷ pushes c [] [] [] [] (c2 ∷ []) ∷ pushes g c [] [] [] [] ∷ pushes q [] [] [] [] [] ∷ asks c ∷ [])
    ≡ texts (p ∷ complete ∷ p ∷ success ∷ []) ∷ number 1 ∷ refused Settled ∷ refused NoBatch ∷ refused RepeatedBid ∷ refused Settled ∷ refused NoBatch ∷ refused RepeatedJid ∷ texts [] ∷ texts (g ∷ complete ∷ g ∷ success ∷ []) ∷ refused Full ∷ numbers 1 1 1 0 1 ∷ []
unfolding put came replies limits number texts refused numbers complete success p c g nine p2 c2 client pushes adds asks q serde_json_on_literals head head_of_value head_of_object is_utf8 chars digits class_of edit_at edit_list lib.Utf8.encode date_of year_from month_from
empty = refl

-- A text of another batch or of none is no job of it, and a callback is of no batch. An id of more than 64 bytes names none. Of two rules that are broken the first tells.
bad_payloads : replies (first limits) (pushes p [] [] [] [] (seven ∷ []) ∷ pushes p [] [] [] [] (p1 ∷ c2 ∷ []) ∷ pushes p [] [] [] [] (codes "x" ∷ []) ∷ pushes p [] [] c2 [] (p1 ∷ []) ∷ pushes p [] [] [] locked (p1 ∷ []) ∷ pushes p [] (codes "x") [] [] (p1 ∷ []) ∷ pushes p c [] c2 [] (p1 ∷ []) ∷ pushes [] [] [] [] [] [] ∷ pushes long [] [] c2 [] [] ∷ pushes p [] [] [] [] (p1 ∷ []) ∷ adds p (c2 ∷ []) ∷ adds p (seven ∷ p1 ∷ p1 ∷ []) ∷ pushes p [] [] c2 [] [] ∷ asks long ∷ [])
    ≡ refused BadPayload ∷ refused BadPayload ∷ refused BadPayload ∷ refused BadPayload ∷ refused BadPayload ∷ refused BadPayload ∷ refused NoBatch ∷ refused NoBatch ∷ refused NoBatch ∷ texts [] ∷ refused BadPayload ∷ refused BadPayload ∷ refused RepeatedBid ∷ refused NoBatch ∷ []
unfolding put came replies limits texts refused p c seven p1 c2 locked long client pushes adds asks serde_json_on_literals head head_of_value head_of_object is_utf8 chars digits class_of edit_at edit_list lib.Utf8.encode date_of year_from month_from
bad_payloads = refl

-- A push of nothing is never full, and a callback neither.
full : replies (first limits) (client (Plain (Lpush q (eight ∷ eight ∷ eight ∷ eight ∷ eight ∷ eight ∷ eight ∷ eight ∷ []))) ∷ pushes p [] seven nine [] [] ∷ pushes c [] [] [] [] (c2 ∷ []) ∷ pushes c [] [] [] [] (c2 ∷ c2 ∷ []) ∷ pushes c [] seven nine [] [] ∷ adds c (c2 ∷ []) ∷ client (Plain (Llen q)) ∷ [])
    ≡ number 8 ∷ texts (p ∷ complete ∷ p ∷ success ∷ []) ∷ refused Full ∷ refused RepeatedJid ∷ texts (c ∷ complete ∷ c ∷ success ∷ []) ∷ refused Settled ∷ number 12 ∷ []
unfolding put came replies limits number texts refused complete success p c seven eight nine c2 client pushes adds q serde_json_on_literals head head_of_value head_of_object is_utf8 chars digits class_of edit_at edit_list lib.Utf8.encode date_of year_from month_from
full = refl

-- ## The tally

after : World → List Event → World
after w [] = w
after w (e ∷ events) = after (perform w (came w e).changes) events

-- The jobs of a batch are a client's, and its callbacks the store's own.
tallied : (after (first limits) (pushes p [] [] seven [] (p1 ∷ p2 ∷ []) ∷ pushes c [] seven nine [] [] ∷ [])).tally
    ≡ record { outside = 2; inner = 2; bare = 0; again = 0; returned = 0; discarded = 0; deleted = 0; trimmed = 0; muddled = 0 }
unfolding put came after limits p c seven nine p1 p2 client pushes serde_json_on_literals head head_of_value head_of_object is_utf8 chars digits class_of edit_at edit_list lib.Utf8.encode date_of year_from month_from
tallied = refl

-- each job of these is live
living : (after (first limits) (pushes p [] [] seven [] (p1 ∷ p2 ∷ []) ∷ pushes c [] seven nine [] [] ∷ [])).live ≡ codes "1" ∷ codes "2" ∷ codes "7" ∷ codes "9" ∷ []
unfolding put came after limits p c seven nine p1 p2 client pushes serde_json_on_literals head head_of_value head_of_object is_utf8 chars digits class_of edit_at edit_list lib.Utf8.encode date_of year_from month_from
living = refl
