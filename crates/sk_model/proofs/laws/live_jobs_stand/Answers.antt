use Rattle.sk_model.proofs.Theorems.LiveJobs.{conserve}
use Rattle.sk_model.proofs.laws.live_jobs_stand.Goals as goal

pub returns : goal.returns
returns c = conserve
