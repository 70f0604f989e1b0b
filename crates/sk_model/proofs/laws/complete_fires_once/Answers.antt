use Rattle.sk_model.proofs.Theorems.Callbacks.{complete_once}
use Rattle.sk_model.proofs.laws.complete_fires_once.Goals as goal

pub returns : goal.returns
returns c = complete_once
