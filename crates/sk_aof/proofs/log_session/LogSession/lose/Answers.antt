use Rattle.sk_aof.proofs.Hindering.{blames_memory}
use Rattle.sk_aof.proofs.Lines.{nothing_done}
use Rattle.sk_aof.proofs.log_session.LogSession.lose.Goals as goal

pub returns-clause-told : goal.returns-clause-told
returns-clause-told g c = λ words _.
    let D = g.D.Disk in
    let self = c.args.self.now in
    nothing_done D.may_leave D.moment D.left_since words self.session.now self.log self.disk.now self.fault (λ image left. g.met.D.Disk.only_now self.disk.now image left) c.lost.result.reply c.lost.result.stop c.lost.ensures

pub returns-clause-blames : goal.returns-clause-blames
returns-clause-blames g c = blames_memory (g.D.Disk.disk_faults c.args.self.now.disk.now) c.args.self.now.fault
