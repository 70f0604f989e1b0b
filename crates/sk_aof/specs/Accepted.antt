-- What running a body again does to a store.
use Rattle.std.specs.Prelude.{◌≡◌, ◌≢◌, true, false, Ok, Err, Result}
use Rattle.sk_resp.specs.declared.reply.Reply.{Reply}
use Rattle.sk_resp.specs.declared.reply.Reply.TheVariants as reply
use Rattle.sk_resp.specs.declared.say.Say.TheVariants as say
use Rattle.sk_log.specs.File.{Body}
use Rattle.sk_log.specs.declared.replayer.ReplayFault.{ReplayFault}
use Rattle.sk_log.specs.declared.replayer.ReplayFault.TheVariants.{Refused, Memory}
use Rattle.sk_model.specs.World.{World}
use Rattle.sk_model.specs.Change.{perform}
use Rattle.sk_model.specs.Outcome.{Outcome}
use Rattle.sk_model.specs.Event.{Event}
use Rattle.sk_resp.specs.Errors.{is_error}
use Rattle.sk_model.specs.Starving.{IsServed}
use Rattle.sk_aof.specs.Bodies.{MayStand, body_of}

-- In this world there was memory for the event, which came to no error.
pub record Accepts (old : World) (event : Event) (new : World) : Type 0 where
  pub outcome : Outcome
  pub served : IsServed old event outcome
  pub accepted : is_error outcome.reply ≡ false
  pub new_is : new ≡ perform old outcome.changes

-- In this world it comes to an error, where there is memory for it.
abbrev pub IsRefused : World → Event → Type 0
IsRefused w event = (o : Outcome) → IsServed w event o → is_error o.reply ≡ true

-- The body is an event's, which this world accepted.
pub record Runs (old : World) (body : Body) (new : World) : Type 0 where
  pub event : Event
  pub may : MayStand event
  pub is : body ≡ body_of event
  pub accepts : Accepts old event new

-- It is no event's, or one's that this world refuses.
abbrev pub Refuses : World → Body → Type 0
Refuses w body = (event : Event) → MayStand event → body ≡ body_of event → IsRefused w event

-- what a reply says of the body: a reply that there was no memory says nothing
abbrev pub Judges : Reply → Result (Unit {0}) ReplayFault → Type 0
Judges answer (Ok _) = is_error answer ≡ false
Judges answer (Err Refused) = (is_error answer ≡ true) × (answer ≢ reply.Say say.Oom)
Judges answer (Err Memory) = Unit {0}
