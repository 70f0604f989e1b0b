use Rattle.std.proofs.Common.{◌≡◌, ◌||◌, drop}
use Rattle.sk_batch.specs.Faults.{has_repeated}
use Rattle.sk_batch.proofs.Repeats.{any_seen}
use Rattle.sk_batch.proofs.faults.find_repeated.Given as goal

abbrev pub invariant-loop-jid : goal.invariant-loop-jid
invariant-loop-jid l = any_seen l.seen (drop l.jid-index l.jids) || has_repeated l.bid l.members.list.current (drop l.jid-index l.jids) ≡ has_repeated l.bid l.members.list.current l.jids
