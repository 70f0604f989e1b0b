use Rattle.sk_model.proofs.Theorems.Starving.{served_or_starved}
use Rattle.sk_model.proofs.laws.events_are_served_or_starve.Goals as goal

pub returns : goal.returns
returns c = served_or_starved
