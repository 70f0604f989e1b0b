use Rattle.sk_limit.proofs.WindowLaws.{lives_last}
use Rattle.sk_limit.proofs.laws.windows_last.Goals as goal

pub returns : goal.returns
returns c = lives_last
