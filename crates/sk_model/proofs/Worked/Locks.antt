-- Worked unique pushes, computed from the definitions.
use Rattle.std.proofs.Common.{◌≡◌, ◌∙◌, ◌++◌, ℕ, List, [], ◌∷◌, ap, cond, refl, true}
use Rattle.std.proofs.lemmas.Map.Text.{is_eq-slice_cmp}
use Rattle.std.proofs.lemmas.Slice.Eq.{bytes_eq-Decides}
use Rattle.std.specs.Ordering.{is_eq}
use Rattle.hex.specs.Hex.{encode_lower}
use Rattle.std.specs.Prelude.{codes, pos, negsuc, map, false, Option, Some, None}
use Rattle.std.specs.Str.{is_utf8, chars}
use Rattle.std.specs.Fmt.{digits}
use Rattle.serde_json.proofs.OnLiterals.{serde_json_on_literals}
use Rattle.sha2.specs.Sha256.{sha256}
use Rattle.sk_resp.specs.Spelling.{Bytes, bulk}
use Rattle.sk_resp.specs.declared.reply.Reply.{Reply}
use Rattle.sk_resp.specs.declared.reply.Reply.TheVariants as reply
use Rattle.sk_resp.specs.declared.refusal.Refusal.{Refusal}
use Rattle.sk_resp.specs.declared.refusal.Refusal.TheVariants.{BadPayload, Full}
use Rattle.sk_resp.specs.declared.say.Say.TheVariants as say
use Rattle.sk_payload.specs.Head.{head, head_of_value, head_of_object}
use Rattle.sk_cmd.specs.declared.argument.Scored.TheVariants.{Schedule}
use Rattle.sk_cmd.specs.declared.argument.Side.TheVariants.{Left, Right}
use Rattle.sk_cmd.specs.declared.command.Command.{Command}
use Rattle.sk_cmd.specs.declared.command.Command.TheVariants.{Plain, Script}
use Rattle.sk_cmd.specs.declared.command.PlainCommand.TheVariants.{Flushall, Lpush, Lrange, Lrem, Lmove, Zrange}
use Rattle.sk_cmd.specs.declared.command.ScriptCommand.TheVariants as script
use Rattle.sk_leases.specs.Leased.{nothing}
use Rattle.sk_leases.specs.Lists.{put}
use Rattle.sk_leases.specs.Locks.{holder_of}
use Rattle.sk_leases.specs.declared.lock.Lock.{Lock}
use Rattle.sk_resp.specs.WordOrder.{text_cmp}
use Rattle.sk_value.specs.Apply.{edit_at}
use Rattle.sk_value.specs.Lists.{edit_list}
use Rattle.sk_counters.specs.Date.{date_of, year_from, month_from}
use Rattle.sk_key.specs.Class.{class_of, private_key}
use Rattle.sk_model.specs.declared.limits.Limits.{Limits}
use Rattle.sk_model.specs.World.{World, first}
use Rattle.sk_model.specs.Change.{Passes, changed, perform}
use Rattle.sk_payload.specs.Digest.{digest}
use Rattle.sk_model.specs.Outcome.{Outcome}
use Rattle.sk_model.specs.Step.{outcome}
use Rattle.sk_model.specs.Unique.{or_holder, unique_push}

-- a command, the seat that sends it, and the moment that the store is handed
data Event : Type 0 where
  By : (seat now : ℕ) → (command : Command) → Event

came : World → Event → Outcome
came w (By seat now c) = outcome w seat now c

replies : World → List Event → List Reply
replies w [] = []
replies w (e ∷ events) = (came w e).reply ∷ replies (perform w (came w e).changes) events

limits : Limits
limits = record { rows = 3; bytes = 2000; batches = 3 }

ok : Reply
ok = reply.Say say.Ok

refused : Refusal → Reply
refused refusal = reply.Say (say.Refused refusal)

texts : List Bytes → Reply
texts list = reply.Array (map bulk list)

-- jobs of one class, one queue and the same arguments
u1 : Bytes
u1 = codes "{\"jid\":\"1\",\"class\":\"C\",\"queue\":\"q\",\"args\":[],\"unique_for\":600}"

u2 : Bytes
u2 = codes "{\"jid\":\"2\",\"class\":\"C\",\"queue\":\"q\",\"args\":[],\"unique_for\":600}"

q : Bytes
q = codes "queue:q"

plain : Bytes
plain = codes "{\"jid\":\"3\",\"class\":\"C\",\"queue\":\"q\",\"args\":[]}"

pushes : ℕ → Bytes → Event
pushes now text = By 0 now (Script (script.Upush text None))

schedules : ℕ → Bytes → Event
schedules now text = By 0 now (Script (script.Upush text (Some (pos 1500000))))

-- The first push is let in, into its queue, or into the schedule with a score. Text without a head and a job without a lock are refused.
let_in : replies (first limits) (pushes 0 (codes "x") ∷ pushes 0 plain ∷ pushes 0 u1 ∷ By 0 0 (Plain (Lrange q (pos 0) (negsuc 0))) ∷ []) ≡ refused BadPayload ∷ refused BadPayload ∷ ok ∷ texts (u1 ∷ []) ∷ []
unfolding put came replies limits texts ok refused u1 plain q pushes serde_json_on_literals head head_of_value head_of_object is_utf8 chars digits class_of edit_at edit_list lib.Utf8.encode
let_in = refl

scheduled : replies (first limits) (schedules 0 u1 ∷ By 0 0 (Plain (Zrange (codes "schedule") (pos 0) (negsuc 0) false)) ∷ []) ≡ ok ∷ texts (u1 ∷ []) ∷ []
unfolding put came replies limits texts ok u1 schedules serde_json_on_literals head head_of_value head_of_object is_utf8 chars digits class_of edit_at edit_list lib.Utf8.encode
scheduled = refl

-- ## A second push

here : (text : Bytes) → is_eq (text_cmp text text) ≡ true
here text = is_eq-slice_cmp text text ∙ (bytes_eq-Decides text text).1 refl

-- the digest of each of these jobs
d : Bytes
d = encode_lower (sha256 (codes "C" ++ 10 ∷ [] ++ codes "q" ++ 10 ∷ [] ++ codes "[]"))

-- the lock of the first, made at moment 0
lock : Lock
lock = record { jid = codes "1"; deadline = 600000 }

-- the world when the second one comes
pushed : World
pushed = changed (perform (first limits) (came (first limits) (pushes 0 u1)).changes) (Passes 599999)

-- while the lock stands the second push is answered by the first one's id
turned_away : replies (first limits) (pushes 0 u1 ∷ pushes 599999 u2 ∷ []) ≡ ok ∷ reply.Bulk (codes "1") ∷ []
unfolding put came replies limits ok u1 u2 pushes d lock pushed digest serde_json_on_literals head head_of_value head_of_object is_utf8 chars digits class_of edit_at edit_list lib.Utf8.encode
turned_away = ap (λ b. ok ∷ (or_holder (holder_of 599999 (cond b (Some lock) None)) (unique_push (record pushed { leases = nothing }) u2 None)).reply ∷ []) (here d)
