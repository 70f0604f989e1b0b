use Rattle.std.proofs.Common.{◌≡◌, ◌++◌, List, map}
use Rattle.std.specs.Vec.Iter.{into_iter_items}
use Rattle.sk_model.specs.Event.{Event}
use Rattle.sk_drill.specs.Events.{event_of}
use Rattle.sk_drill.specs.Soaked.{PlaysSome}
use Rattle.sk_drill.proofs.play.play_list.Given as goal

-- those that were done, and those that are left
abbrev pub invariant-loop-event : goal.invariant-loop-event
invariant-loop-event l = (done : List Event) × (done ++ map event_of (into_iter_items l.event-iterator) ≡ map event_of l.fn.list.items) × PlaysSome l.initial.core done l.core
