use Rattle.std.proofs.Common.{subst}
use Rattle.sk_durable.specs.Serving.{HasAll}
use Rattle.sk_durable.proofs.Taking.{has_all}
use Rattle.sk_durable.proofs.server.store_last.Goals as goal

pub returns-clause-all : goal.returns-clause-all
returns-clause-all g c =
    let disk = c.into_parts-disk.result.0 in
    subst (λ s. HasAll g.D.Disk.may_leave g.J.LogId.starts g.I.HubId.start s.world disk) c.closed.view_is
    (has_all g.D.Disk.may_leave g.J.LogId.starts g.I.HubId.start c.closed.inside.core disk c.closed.inside.book c.in-Some.taken c.in_ok-stored.stored c.into_parts-disk.result.1
    c.closed.invariant.0.kept_up c.in-Some.ensures.batch c.in_ok-stored.ensures.stored c.into_parts-disk.ensures.log)
