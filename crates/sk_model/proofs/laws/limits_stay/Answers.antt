use Rattle.sk_model.proofs.Theorems.Starving.{limits_stay}
use Rattle.sk_model.proofs.laws.limits_stay.Goals as goal

pub returns : goal.returns
returns c = limits_stay
