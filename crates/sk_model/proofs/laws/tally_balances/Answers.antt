use Rattle.sk_model.proofs.Theorems.LiveJobs.{balance}
use Rattle.sk_model.proofs.laws.tally_balances.Goals as goal

pub returns : goal.returns
returns c = balance
