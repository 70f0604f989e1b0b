use Rattle.sk_model.proofs.Theorems.Acknowledged.{acked}
use Rattle.sk_model.proofs.acked.replies_acknowledge_pushes.Goals as goal

pub returns : goal.returns
returns c = acked
