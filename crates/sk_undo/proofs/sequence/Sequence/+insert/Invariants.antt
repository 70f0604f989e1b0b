use Rattle.std.proofs.Common.{length}
use Rattle.sk_undo.proofs.sequence.Sequence.+insert.Given as goal

abbrev pub decreases-insert : goal.decreases-insert
decreases-insert g l = length l.self.now
