use Rattle.sk_worker.proofs.Done.{done_turns}
use Rattle.sk_worker.proofs.laws.a_done_turn_has_one_run_that_returned.Goals as goal

pub returns : goal.returns
returns c = done_turns
