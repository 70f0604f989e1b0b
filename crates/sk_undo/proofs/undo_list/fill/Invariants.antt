use Rattle.std.proofs.Common.{◌-◌, vec_len}
use Rattle.sk_undo.proofs.undo_list.fill.Given as goal

abbrev pub decreases-loop-alloc : goal.decreases-loop-alloc
decreases-loop-alloc g l = l.count - vec_len l.spares
