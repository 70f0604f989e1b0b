use Rattle.sk_iter.proofs.Chains.{chain_of, cursors_rise}
use Rattle.sk_iter.proofs.laws.cursors_rise.Goals as goal

pub returns : goal.returns
returns c = λ limits steps calls jid goes. cursors_rise jid 0 calls (chain_of limits steps calls jid goes)
