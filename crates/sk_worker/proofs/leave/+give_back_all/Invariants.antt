use Rattle.std.specs.VecDeque.{deque_len}
use Rattle.sk_worker.proofs.leave.+give_back_all.Given as goal

abbrev pub decreases-give_back_all : goal.decreases-give_back_all
decreases-give_back_all g l = deque_len l.held.now
