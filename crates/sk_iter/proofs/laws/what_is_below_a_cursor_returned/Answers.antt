use Rattle.std.proofs.Common.{[], arith}
use Rattle.sk_iter.proofs.Chains.{below_returned, chain_of}
use Rattle.sk_iter.proofs.laws.what_is_below_a_cursor_returned.Goals as goal

pub returns : goal.returns
returns c = λ limits steps calls jid goes. below_returned jid 0 [] calls (chain_of limits steps calls jid goes) (λ i lt. absurd (omega (arith, lt)))
