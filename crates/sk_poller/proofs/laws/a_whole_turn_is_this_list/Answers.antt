use Rattle.sk_poller.proofs.TurnForms.{whole_turn}
use Rattle.sk_poller.proofs.laws.a_whole_turn_is_this_list.Goals as goal

pub returns : goal.returns
returns c = whole_turn
