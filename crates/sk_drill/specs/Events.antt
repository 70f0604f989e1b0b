-- The events that a load made, as the abstract store sees them.
use Rattle.sk_model.specs.Event.{Event, Ask, Cut}
use Rattle.sk_drill.specs.declared.events.Event.{Event as Made}
use Rattle.sk_drill.specs.declared.events.Event.TheVariants as made

abbrev pub event_of : Made → Event
event_of (made.Ask seat now words) = Ask seat now words
event_of (made.Cut seat) = Cut seat
