use Rattle.sk_durable.proofs.Taking.{holds_taken}
use Rattle.sk_durable.proofs.hub_backlog.HubBacklogBacklog.take.Goals as goal

pub returns : goal.returns
returns g c = holds_taken _ g.J.LogId.holds c.self.invariant c.take.result c.take.ensures
