use Rattle.sk_model.proofs.Theorems.LockHolders.{one_holder}
use Rattle.sk_model.proofs.laws.a_lock_has_one_holder.Goals as goal

pub returns : goal.returns
returns c = one_holder
