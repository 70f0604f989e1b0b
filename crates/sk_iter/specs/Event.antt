-- What happens in a call of `iterate`, event by event.
use Rattle.std.specs.Prelude.{ℕ, List, [], ◌∷◌, Option}
use Rattle.sk_base.specs.Outside.{Takes}
use Rattle.sk_link.specs.Call.{Call}
use Rattle.sk_worker.specs.declared.job.Outcome.{Outcome}

-- an item that was run, and what it came to
pub record ItemRun : Type 0 where
  pub index : ℕ
  pub outcome : Outcome

pub data Event : Type 0 where
  asked : Call → Event
  ran : ItemRun → Event

abbrev pub calls : List Event → List Call
calls [] = []
calls (asked call ∷ events) = call ∷ calls events
calls (ran run ∷ events) = calls events

abbrev pub runs : List Event → List ItemRun
runs [] = []
runs (asked call ∷ events) = runs events
runs (ran run ∷ events) = run ∷ runs events

-- The link and the items have their parts in the events.
pub record Did (Carried : List Call → Type 0) (before after : Option (List ItemRun)) (events : List Event) : Type 0 where
  pub link : Carried (calls events)
  pub items : Takes before (runs events) after
