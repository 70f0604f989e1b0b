use Rattle.std.proofs.Common.{◌≡◌, length}
use Rattle.sk_batch.specs.Faults.{has_repeated}
use Rattle.sk_batch.proofs.faults.scan_repeated.Given as goal

abbrev pub invariant-jids : goal.invariant-jids
invariant-jids l = has_repeated l.bid l.members.list.current l.left ≡ has_repeated l.bid l.members.list.current l.jids

abbrev pub decreases-jids : goal.decreases-jids
decreases-jids l = length l.left
