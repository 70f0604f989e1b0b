use Rattle.sk_commit.proofs.Storing.{leaves_first}
use Rattle.sk_durable.proofs.server.starved.Goals as goal

pub returns-clause-left : goal.returns-clause-left
returns-clause-left g c events start =
    leaves_first g.D.Disk.moment g.D.Disk.left_since g.J.LogId.holds g.J.LogId.since events g.D.Disk.may_leave c.args.log.now c.args.disk c.requires.since (g.met.D.Disk.only_now c.args.disk)
    (c.requires.start events start) c.requires.holds
