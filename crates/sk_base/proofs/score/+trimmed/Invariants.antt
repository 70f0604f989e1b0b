use Rattle.std.proofs.Common.{length}
use Rattle.sk_base.proofs.score.+trimmed.Given as goal

abbrev pub decreases-trimmed : goal.decreases-trimmed
decreases-trimmed l = length l.digits.now
