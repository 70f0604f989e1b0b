use Rattle.sk_poller.proofs.TurnForms.{marked_once}
use Rattle.sk_poller.proofs.laws.each_loop_is_marked_once_at_most.Goals as goal

pub returns : goal.returns
returns c = marked_once
