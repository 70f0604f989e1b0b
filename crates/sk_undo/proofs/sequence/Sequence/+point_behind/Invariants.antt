use Rattle.std.proofs.Common.{length}
use Rattle.sk_undo.proofs.sequence.Sequence.+point_behind.Given as goal

abbrev pub decreases-point_behind : goal.decreases-point_behind
decreases-point_behind g l = length l.self.now
