use Rattle.sk_limit.proofs.SlotLaws.{most_holds}
use Rattle.sk_limit.proofs.laws.at_most_that_many_holds.Goals as goal

pub returns : goal.returns
returns c = most_holds
