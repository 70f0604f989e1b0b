use Rattle.std.proofs.Common.{length}
use Rattle.sk_undo.proofs.sequence.Sequence.+position_in.Given as goal

abbrev pub decreases-position_in : goal.decreases-position_in
decreases-position_in g l = length l.self.now
