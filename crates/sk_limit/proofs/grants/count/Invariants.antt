use Rattle.sk_limit.specs.Grant.{Leads}
use Rattle.sk_limit.proofs.Granting.{left}
use Rattle.sk_limit.proofs.grants.count.Given as goal

abbrev pub invariant-calls : goal.invariant-calls
invariant-calls g l = Leads (g.L.Link.carried l.initial.link l.link) (record { key = l.key; millis = l.millis }) l.next

abbrev pub decreases-calls : goal.decreases-calls
decreases-calls g l = left l.next
