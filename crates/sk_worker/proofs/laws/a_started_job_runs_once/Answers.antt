use Rattle.sk_worker.proofs.Started.{a_started_job}
use Rattle.sk_worker.proofs.laws.a_started_job_runs_once.Goals as goal

pub returns : goal.returns
returns c = a_started_job
