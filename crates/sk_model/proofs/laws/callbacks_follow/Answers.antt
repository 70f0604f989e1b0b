use Rattle.sk_model.proofs.Theorems.Callbacks.{callbacks_follow}
use Rattle.sk_model.proofs.laws.callbacks_follow.Goals as goal

pub returns : goal.returns
returns c = callbacks_follow
