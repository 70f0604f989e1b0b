-- What the replies to a poller say, besides reports.
use Rattle.std.specs.Prelude.{◌||◌, Bool, true, false, pos, codes, bytes_eq, Option, Some, None}
use Rattle.std.specs.Ordering.{int_eq}
use Rattle.sk_resp.specs.declared.refusal.Refusal.TheVariants as refusal
use Rattle.sk_resp.specs.declared.reply.Reply.{Reply}
use Rattle.sk_resp.specs.declared.reply.Reply.TheVariants as reply
use Rattle.sk_resp.specs.declared.say.Say.TheVariants as say

-- `-SK not leader`, `-SK slot done` and `-SK slot out of time`: another process leads, or the slot was pushed already, or it isn't one of now
abbrev pub is_passed : Reply → Bool
is_passed (reply.Say (say.Refused refusal.NotLeader)) = true
is_passed (reply.Say (say.Refused refusal.SlotDone)) = true
is_passed (reply.Say (say.Refused refusal.SlotTime)) = true
is_passed (reply.Error text) =
    bytes_eq text (codes "SK not leader") || bytes_eq text (codes "SK slot done") || bytes_eq text (codes "SK slot out of time")
is_passed r = false

-- The reply to SK.LEAD: `:1`, it leads; another number, it doesn't.
abbrev pub lead_of : Reply → Option Bool
lead_of (reply.Int n) = Some (int_eq n (pos 1))
lead_of r = None
