use Rattle.std.proofs.Common.{[], arith}
use Rattle.sk_iter.proofs.Chains.{chain_of, done_is_all}
use Rattle.sk_iter.proofs.laws.done_is_all.Goals as goal

pub returns : goal.returns
returns c = λ limits steps calls jid goes. done_is_all jid 0 [] calls (chain_of limits steps calls jid goes) (λ i lt. absurd (omega (arith, lt)))
