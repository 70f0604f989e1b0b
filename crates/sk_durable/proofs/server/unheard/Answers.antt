use Rattle.std.proofs.Common.{List, [], refl}
use Rattle.sk_commit.proofs.Storing.{leaves_first}
use Rattle.sk_log.specs.File.{Body}
use Rattle.sk_durable.specs.Writes.{IsKeptLog}
use Rattle.sk_durable.proofs.server.unheard.Goals as goal

-- nothing was done to the disk
pub returns-clause-left : goal.returns-clause-left
returns-clause-left g c events start =
    let store = c.args.store in
    leaves_first g.D.Disk.moment g.D.Disk.left_since (λ (bodies : List Body). IsKeptLog store.core bodies) (g.D.Disk.moment store.disk) events g.D.Disk.may_leave store.log store.disk refl
    (g.met.D.Disk.only_now store.disk) start (store.core, record { steps = []; leads = record { run = tt; new_is = refl }; entries = []; written = refl; spelled = refl })
