use Rattle.sk_model.proofs.Theorems.LiveJobs.{copies_kept}
use Rattle.sk_model.proofs.laws.nothing_is_lost.Goals as goal

pub returns : goal.returns
returns c = copies_kept
