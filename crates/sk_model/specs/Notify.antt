-- What the batch of a job is told, and what it fires then. Each firing is followed by the push of the batch's callback, where it has one.
use Rattle.std.specs.Prelude.{List, [], ◌∷◌, ◌++◌, Option, Some, None, codes}
use Rattle.sk_resp.specs.Spelling.{Bytes}
use Rattle.sk_resp.specs.declared.reply.Reply.{Reply}
use Rattle.sk_cmd.specs.declared.argument.Side.TheVariants.{Left}
use Rattle.sk_payload.specs.Head.{head}
use Rattle.sk_payload.specs.declared.head.Head.{Head}
use Rattle.sk_value.specs.Answer.{texts}
use Rattle.sk_places.specs.declared.row.Place.TheVariants.{Queue}
use Rattle.sk_places.specs.Rows.{row_at}
use Rattle.sk_batch.specs.Notify.{fires_of}
use Rattle.sk_batch.specs.declared.event.Event.{Event}
use Rattle.sk_batch.specs.declared.firing.Firing.{Firing}
use Rattle.sk_batch.specs.declared.firing.Kind.{Kind}
use Rattle.sk_batch.specs.declared.firing.Kind.TheVariants.{Complete, Success, Death}
use Rattle.sk_places.specs.declared.origin.Origin.{Origin}
use Rattle.sk_places.specs.declared.origin.Origin.TheVariants.{Inner}
use Rattle.sk_model.specs.World.{World}
use Rattle.sk_model.specs.Change.{Change, Moves, Add, Fire, Notifies, perform}
use Rattle.sk_model.specs.Outcome.{Outcome}

-- ## Firings

-- a job is pushed at the left end of the queue that its head names
abbrev pub push_to : Origin → Bytes → Option Head → List Change
push_to from text None = []
push_to from text (Some h) = Moves (Add (row_at (Queue h.queue) text) Left from) ∷ []

abbrev pub push_job : Origin → Bytes → List Change
push_job from text = push_to from text (head text)

abbrev pub push_callback : Option Bytes → List Change
push_callback None = []
push_callback (Some text) = push_job Inner text

abbrev pub fire_all : List Firing → List Change
fire_all [] = []
fire_all (f ∷ firings) = Moves (Fire f.bid f.kind) ∷ push_callback f.payload ++ fire_all firings

-- ## What is told

pub record Notified : Type 0 where
  pub firings : List Firing
  pub changes : List Change

abbrev pub not_notified : Notified
not_notified = record { firings = []; changes = [] }

-- the batch that a job's head names is told
abbrev pub notify_in : Event → World → Bytes → Option Bytes → Notified
notify_in event w jid None = not_notified
notify_in event w jid (Some bid) = let firings : List Firing = fires_of event bid jid w.batches in record { firings = firings; changes = Notifies event bid jid ∷ fire_all firings }

abbrev pub notify_of : Event → World → Option Head → Notified
notify_of event w None = not_notified
notify_of event w (Some h) = notify_in event w h.jid h.bid

abbrev pub notify : Event → World → Bytes → Notified
notify event w text = notify_of event w (head text)

-- ## The reply

abbrev pub kind_text : Kind → Bytes
kind_text Complete = codes "complete"
kind_text Success = codes "success"
kind_text Death = codes "death"

abbrev pub fired_texts : List Firing → List Bytes
fired_texts [] = []
fired_texts (f ∷ firings) = f.bid ∷ kind_text f.kind ∷ fired_texts firings

-- the batch and the kind of each firing, in order
abbrev pub fired : List Firing → Reply
fired firings = texts (fired_texts firings)

-- after these changes the batch of the text's job is told, and what it fired is the reply
abbrev pub and_notify : Event → World → Bytes → List Change → Outcome
and_notify event w text changes = let told : Notified = notify event (perform w changes) text in record { reply = fired told.firings; changes = changes ++ told.changes }
