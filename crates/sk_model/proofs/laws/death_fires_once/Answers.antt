use Rattle.sk_model.proofs.Theorems.Callbacks.{death_once}
use Rattle.sk_model.proofs.laws.death_fires_once.Goals as goal

pub returns : goal.returns
returns c = death_once
