-- The leader and periodic jobs: SK.LEAD, SK.CRON (Sidekiq's wiki, "Ent Leader Election", "Ent Periodic Jobs").
use Rattle.std.specs.Prelude.{ℕ, ◌+◌, [], ◌∷◌, Option, Some, None, Bool, true, not, ◌&&◌, cond, nat_le, nat_lt}
use Rattle.std.specs.Option.{is_some}
use Rattle.sk_base.specs.declared.limits.TheConstants.{LONGEST_NAME, MOST_LOOPS, SLOT_LIFE}
use Rattle.sk_resp.specs.Spelling.{Bytes}
use Rattle.sk_resp.specs.declared.reply.Reply.TheVariants as reply
use Rattle.sk_resp.specs.declared.say.Say.TheVariants as say
use Rattle.sk_resp.specs.declared.refusal.Refusal.TheVariants.{BadPayload, Full, NoProcess, NotLeader, SlotDone, SlotTime}
use Rattle.sk_payload.specs.Head.{head}
use Rattle.sk_payload.specs.Member.{is_name}
use Rattle.sk_value.specs.Answer.{counted}
use Rattle.sk_leases.specs.Leased.{is_alive, is_led_by_another, last, leads, loops}
use Rattle.sk_places.specs.declared.origin.Origin.TheVariants.{Inner}
use Rattle.sk_model.specs.World.{World}
use Rattle.sk_model.specs.Batches.{may_call}
use Rattle.sk_model.specs.Change.{Elects, TakesSlot}
use Rattle.sk_model.specs.Outcome.{Outcome, says, refuses}
use Rattle.sk_model.specs.Room.{where_room}
use Rattle.sk_model.specs.Notify.{push_job}

-- a name whose heartbeat stands
abbrev pub is_process : World → Bytes → Bool
is_process w ident = is_name LONGEST_NAME ident && is_alive ident w.moment w.leases

-- ## SK.LEAD

-- The process leads for half a minute from now on, unless another one leads.
abbrev pub lead_as : World → Bytes → Bool → Outcome
lead_as w ident other = cond other (says (counted 0)) (record { reply = counted 1; changes = Elects ident ∷ [] })

abbrev pub lead : World → Bytes → Outcome
lead w ident = cond (is_process w ident) (lead_as w ident (is_led_by_another ident w.moment w.leases)) (refuses NoProcess)

-- ## SK.CRON

-- so many periodic jobs have a last slot at most
abbrev pub most_loops : ℕ
most_loops = MOST_LOOPS

-- a slot is open for so long, in milliseconds
abbrev pub slot_life : ℕ
slot_life = SLOT_LIFE

-- the slot is above the last one
abbrev pub is_above : ℕ → Option ℕ → Bool
is_above slot None = true
is_above slot (Some before) = nat_lt before slot

-- it has come, and not long ago
abbrev pub is_in_time : World → ℕ → Bool
is_in_time w slot = nat_le slot w.moment && nat_le w.moment (slot + slot_life)

-- there is room for its loop
abbrev pub has_loop : World → Bytes → Bool
has_loop w loop = cond (is_some (last loop w.leases)) true (nat_lt (loops w.leases) most_loops)

-- the slot is the loop's last one, and the text is pushed at the left end of its queue
abbrev pub push_slot : World → Bytes → ℕ → Bytes → Outcome
push_slot w loop slot text = where_room w (text ∷ []) (record { reply = reply.Say say.Ok; changes = TakesSlot loop slot text ∷ push_job Inner text })

abbrev pub cron : World → Bytes → Bytes → ℕ → Bytes → Outcome
cron w ident loop slot text =
    cond (not (is_process w ident)) (refuses NoProcess)
    (cond (not (may_call (head text) && is_name LONGEST_NAME loop)) (refuses BadPayload)
    (cond (not (leads ident w.moment w.leases)) (refuses NotLeader)
    (cond (not (is_above slot (last loop w.leases))) (refuses SlotDone)
    (cond (not (is_in_time w slot)) (refuses SlotTime)
    (cond (not (has_loop w loop)) (refuses Full)
    (push_slot w loop slot text))))))
