use Rattle.sk_model.proofs.Theorems.Reliable.{reliable}
use Rattle.sk_model.proofs.laws.runs_are_reliable.Goals as goal

pub returns : goal.returns
returns c = reliable
