use Rattle.sk_model.proofs.Theorems.Causes.{moves_have_causes}
use Rattle.sk_model.proofs.laws.moves_have_causes.Goals as goal

pub returns : goal.returns
returns c = moves_have_causes
