use Rattle.sk_iter.proofs.Chains.{chain_of, none_run_again}
use Rattle.sk_iter.proofs.laws.what_is_below_a_cursor_is_not_run_again.Goals as goal

pub returns : goal.returns
returns c = λ limits steps calls jid goes. none_run_again jid 0 calls (chain_of limits steps calls jid goes)
