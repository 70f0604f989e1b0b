-- Names behind the first bytes of keys.
use Rattle.std.proofs.Common.{◌≡◌, refl, Bool, true, false, cond}
use Rattle.std.specs.Prelude.{Option, Some, None, codes, nat_eq}
use Rattle.std.specs.List.{starts_with}
use Rattle.std.specs.Str.{IsUtf8, bytes_eq}
use Rattle.sk_resp.specs.Spelling.{Bytes}
use Rattle.sk_cmd.specs.declared.argument.Scored.{Scored}
use Rattle.sk_payload.specs.Member.{is_name}
use Rattle.sk_payload.proofs.Names.{is_name-Decides}
use Rattle.sk_key.specs.declared.key_class.KeyClass.TheVariants as class
use Rattle.sk_key.specs.Class.{class_by, class_of, ident_of, is_queue, queue_of, set_of}

-- a name is UTF-8 text
pub name_is_text : (name : Bytes) → is_name 255 name ≡ true → IsUtf8 name
name_is_text name h = ((is_name-Decides 255 name).0 h).utf8

-- a queue's key has a name behind `queue:`
named_if : (a b c d e f g : Bool) (set : Option Scored)
    → is_queue (cond a (cond b class.Queue class.NoQueue) (cond c (cond d class.Private class.NoPrivate) (cond e class.Queues (cond f class.Processes (cond g class.Counter (class_by set)))))) ≡ true → b ≡ true
named_if true true c d e f g set h = refl
named_if true false c d e f g set h = absurd (cc h)
named_if false b true true e f g set h = absurd (cc h)
named_if false b true false e f g set h = absurd (cc h)
named_if false b false d true f g set h = absurd (cc h)
named_if false b false d false true g set h = absurd (cc h)
named_if false b false d false false true set h = absurd (cc h)
named_if false b false d false false false None h = absurd (cc h)
named_if false b false d false false false (Some set) h = absurd (cc h)

pub queue_is_named : (key : Bytes) → is_queue (class_of key) ≡ true → is_name 255 (queue_of key) ≡ true
unfolding class_of
queue_is_named key h =
    named_if (starts_with nat_eq key (codes "queue:")) (is_name 255 (queue_of key)) (starts_with nat_eq key (codes "sq:")) (is_name 255 (ident_of key))
    (bytes_eq key (codes "queues")) (bytes_eq key (codes "processes")) (starts_with nat_eq key (codes "stat:")) (set_of key) h
