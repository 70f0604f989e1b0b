use Rattle.sk_model.proofs.Theorems.Leaders.{one_leader}
use Rattle.sk_model.proofs.laws.one_process_leads.Goals as goal

pub returns : goal.returns
returns c = one_leader
