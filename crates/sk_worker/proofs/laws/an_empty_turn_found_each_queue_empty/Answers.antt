use Rattle.sk_worker.proofs.Quiet.{empty_turn}
use Rattle.sk_worker.proofs.laws.an_empty_turn_found_each_queue_empty.Goals as goal

pub returns : goal.returns
returns c = empty_turn
