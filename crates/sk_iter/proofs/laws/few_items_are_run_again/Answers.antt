use Rattle.sk_iter.proofs.Chains.{chain_of, few_run_again}
use Rattle.sk_iter.proofs.laws.few_items_are_run_again.Goals as goal

pub returns : goal.returns
returns c = λ limits steps calls jid goes. few_run_again jid 0 calls (chain_of limits steps calls jid goes)
