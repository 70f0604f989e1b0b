use Rattle.std.proofs.Common.{length}
use Rattle.sk_undo.proofs.sequence.Sequence.+remove.Given as goal

abbrev pub decreases-remove : goal.decreases-remove
decreases-remove g l = length l.self.now
