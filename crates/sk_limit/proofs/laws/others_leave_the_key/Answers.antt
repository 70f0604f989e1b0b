use Rattle.sk_limit.proofs.Others.{others_leave}
use Rattle.sk_limit.proofs.laws.others_leave_the_key.Goals as goal

pub returns : goal.returns
returns c = others_leave
