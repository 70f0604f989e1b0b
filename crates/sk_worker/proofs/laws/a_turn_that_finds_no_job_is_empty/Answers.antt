use Rattle.sk_worker.proofs.Quiet.{quiet_turn}
use Rattle.sk_worker.proofs.laws.a_turn_that_finds_no_job_is_empty.Goals as goal

pub returns : goal.returns
returns c = quiet_turn
