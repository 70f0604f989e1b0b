use Rattle.sk_iter.proofs.Chains.{saves_returned}
use Rattle.sk_iter.proofs.laws.saved_numbers_have_returned.Goals as goal

pub returns : goal.returns
returns c = saves_returned
