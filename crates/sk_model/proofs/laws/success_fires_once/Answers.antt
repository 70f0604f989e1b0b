use Rattle.sk_model.proofs.Theorems.Callbacks.{batch_once}
use Rattle.sk_model.proofs.laws.success_fires_once.Goals as goal

pub returns : goal.returns
returns c = batch_once
