use Rattle.std.proofs.Common.{length}
use Rattle.sk_undo.proofs.sequence.Sequence.+seek_behind.Given as goal

abbrev pub decreases-seek_behind : goal.decreases-seek_behind
decreases-seek_behind g l = length l.self.now
