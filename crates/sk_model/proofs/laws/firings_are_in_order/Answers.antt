use Rattle.sk_model.proofs.Theorems.Callbacks.{firings_in_order}
use Rattle.sk_model.proofs.laws.firings_are_in_order.Goals as goal

pub returns : goal.returns
returns c = firings_in_order
