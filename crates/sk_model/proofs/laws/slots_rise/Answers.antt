use Rattle.sk_model.proofs.Theorems.Leaders.{slots_rise}
use Rattle.sk_model.proofs.laws.slots_rise.Goals as goal

pub returns : goal.returns
returns c = slots_rise
