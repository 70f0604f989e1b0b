use Rattle.std.proofs.Common.{◌-◌, length}
use Rattle.sk_client.specs.Bulk.{PushesFirst}
use Rattle.sk_client.proofs.bulk.push_slices.Given as goal

abbrev pub invariant-loop-sent : goal.invariant-loop-sent
invariant-loop-sent g l = PushesFirst (g.L.Link.carried l.initial.link l.link) l.queue l.most l.texts l.sent

abbrev pub decreases-loop-sent : goal.decreases-loop-sent
decreases-loop-sent g l = length l.texts - l.sent
