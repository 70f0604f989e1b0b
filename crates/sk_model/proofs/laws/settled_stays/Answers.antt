use Rattle.sk_model.proofs.Theorems.Callbacks.{settled_stays}
use Rattle.sk_model.proofs.laws.settled_stays.Goals as goal

pub returns : goal.returns
returns c = settled_stays
