use Rattle.std.proofs.Common.{◌+◌, ◌-◌, length}
use Rattle.std.specs.VecDeque.{deque_len}
use Rattle.sk_worker.proofs.fetch.+fetch.Given as goal

abbrev pub decreases-fetch : goal.decreases-fetch
decreases-fetch g l = length l.places.now + (l.fetcher.now.prefetch - deque_len l.held.now)
