use Rattle.sk_iter.proofs.Chains.{items_in_order}
use Rattle.sk_iter.proofs.laws.items_are_in_order.Goals as goal

pub returns : goal.returns
returns c = items_in_order
