use Rattle.sk_leases.proofs.Order.{ordered_leases}
use Rattle.sk_leases.proofs.deadlines.Deadlines.names.Goals as goal

pub returns-clause-order : goal.returns-clause-order
returns-clause-order c = rw (← c.self.view_is) (ordered_leases c.self.inside.entries.list.current c.len-len.ensures.ordered)
