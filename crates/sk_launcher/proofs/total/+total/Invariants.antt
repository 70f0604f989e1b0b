use Rattle.std.proofs.Common.{length}
use Rattle.sk_launcher.proofs.total.+total.Given as goal

abbrev pub decreases-total : goal.decreases-total
decreases-total l = length l.tallies.now
