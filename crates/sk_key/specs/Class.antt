-- What the names of keys mean to the store.
use Rattle.std.specs.Prelude.{Option, Some, None, Bool, true, false, ◌++◌, cond, codes, drop, nat_eq}
use Rattle.std.specs.List.{starts_with}
use Rattle.std.specs.Str.{bytes_eq}
use Rattle.sk_base.specs.declared.limits.TheConstants.{LONGEST_NAME}
use Rattle.sk_cmd.specs.declared.argument.Scored.{Scored}
use Rattle.sk_cmd.specs.declared.argument.Scored.TheVariants.{Schedule, Retry, Dead}
use Rattle.sk_resp.specs.Spelling.{Bytes}
use Rattle.sk_payload.specs.Member.{is_name}
use Rattle.sk_key.specs.declared.key_class.KeyClass.{KeyClass}
use Rattle.sk_key.specs.declared.key_class.KeyClass.TheVariants.{Plain, Queue, NoQueue, Queues, Private, NoPrivate, Processes, Jobs, Counter}

-- the name behind `queue:`
abbrev pub queue_of : Bytes → Bytes
queue_of key = drop 6 key

-- the identity behind `sq:`
abbrev pub ident_of : Bytes → Bytes
ident_of key = drop 3 key

-- the key of a process's private list
abbrev pub private_key : Bytes → Bytes
private_key ident = codes "sq:" ++ ident

-- the name behind `stat:`
abbrev pub counter_of : Bytes → Bytes
counter_of key = drop 5 key

-- the set of jobs that a key names
abbrev pub set_of : Bytes → Option Scored
set_of key = cond (bytes_eq key (codes "schedule")) (Some Schedule) (cond (bytes_eq key (codes "retry")) (Some Retry) (cond (bytes_eq key (codes "dead")) (Some Dead) None))

abbrev pub class_by : Option Scored → KeyClass
class_by None = Plain
class_by (Some set) = Jobs set

unfoldable pub class_of : Bytes → KeyClass
class_of key = cond (starts_with nat_eq key (codes "queue:")) (cond (is_name LONGEST_NAME (queue_of key)) Queue NoQueue)
    (cond (starts_with nat_eq key (codes "sq:")) (cond (is_name LONGEST_NAME (ident_of key)) Private NoPrivate)
    (cond (bytes_eq key (codes "queues")) Queues (cond (bytes_eq key (codes "processes")) Processes
    (cond (starts_with nat_eq key (codes "stat:")) Counter (class_by (set_of key))))))

-- a key of the clients' own
abbrev pub is_plain : KeyClass → Bool
is_plain Plain = true
is_plain other = false

-- a queue's key
abbrev pub is_queue : KeyClass → Bool
is_queue Queue = true
is_queue other = false

-- a key that begins with `sq:`
abbrev pub is_private : KeyClass → Bool
is_private Private = true
is_private NoPrivate = true
is_private other = false
