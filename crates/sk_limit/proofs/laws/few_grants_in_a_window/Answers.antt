use Rattle.sk_limit.proofs.WindowLaws.{few_grants}
use Rattle.sk_limit.proofs.laws.few_grants_in_a_window.Goals as goal

pub returns : goal.returns
returns c = few_grants
