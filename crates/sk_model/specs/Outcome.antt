-- What a command comes to.
use Rattle.std.specs.Prelude.{◌≡◌, List, [], Ok, Err}
use Rattle.sk_resp.specs.declared.reply.Reply.{Reply}
use Rattle.sk_resp.specs.declared.reply.Reply.TheVariants as reply
use Rattle.sk_resp.specs.declared.refusal.Refusal.{Refusal}
use Rattle.sk_resp.specs.declared.say.Say.{Say}
use Rattle.sk_resp.specs.declared.say.Say.TheVariants as say
use Rattle.sk_value.specs.Answer.{Answer, fault_say}
use Rattle.sk_model.specs.World.{World}
use Rattle.sk_model.specs.Change.{Change, perform}

-- the reply, and what changes in the world
pub record Outcome : Type 0 where
  pub reply : Reply
  pub changes : List Change

-- a reply, and nothing changes
abbrev pub says : Reply → Outcome
says reply = record { reply = reply; changes = [] }

abbrev pub tells : Say → Outcome
tells say = says (reply.Say say)

-- a refusal of the store's own
abbrev pub refuses : Refusal → Outcome
refuses refusal = tells (say.Refused refusal)

-- the reply that an answer is, or the text of its fault
abbrev pub reply_of : Answer → Reply
reply_of (Ok r) = r
reply_of (Err fault) = reply.Say (fault_say fault)

-- The outcome came about: its reply was given, and its changes led from the old world to the new one.
pub record Realizes (old : World) (o : Outcome) (reply : Reply) (new : World) : Type 0 where
  pub reply_is : reply ≡ o.reply
  pub new_is : new ≡ perform old o.changes
