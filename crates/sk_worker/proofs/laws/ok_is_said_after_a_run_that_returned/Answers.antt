use Rattle.sk_worker.proofs.Returned.{ok_after_its_run}
use Rattle.sk_worker.proofs.laws.ok_is_said_after_a_run_that_returned.Goals as goal

pub returns : goal.returns
returns c = ok_after_its_run
