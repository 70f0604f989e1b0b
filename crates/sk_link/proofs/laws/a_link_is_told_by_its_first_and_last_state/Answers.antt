use Rattle.sk_link.proofs.Whole.{told_at_once}
use Rattle.sk_link.proofs.laws.a_link_is_told_by_its_first_and_last_state.Goals as goal

pub returns : goal.returns
returns c = told_at_once
