use Rattle.std.proofs.Common.{inl, inr, refl, ap}
use Rattle.std.specs.Prelude.{Err}
use Rattle.sk_aof.proofs.Appending.{one_appended, one_left}
use Rattle.sk_aof.proofs.Hindering.{blames_fault, blames_not, hindered}
use Rattle.sk_aof.proofs.log_session.LogSession.append.Goals as goal

pub returns-in-Ok-clause-put : goal.returns-in-Ok-clause-put
returns-in-Ok-clause-put g c =
    let D = g.D.Disk in
    let self = c.args.self.now in
    inl (refl, refl, one_appended D.may_leave D.moment D.left_since c.args.entry.now self.log self.disk.now c.append.new.self c.append.new.disk c.in-Ok.ensures.any_moment c.in-Ok.ensures.ok)

pub returns-in-Err-clause-put : goal.returns-in-Err-clause-put
returns-in-Err-clause-put g c =
    let D = g.D.Disk in
    let self = c.args.self.now in
    inr (record {
      lost = c.lost.ensures;
      left = one_left D.may_leave D.moment D.left_since c.args.entry.now self.log self.disk.now c.append.new.disk c.in-Err.ensures.any_moment;
      cause = hindered self.log c.args.entry.now c.in-Err.fault (λ is. c.in-Err.ensures.full.0 (ap Err is)) c.in-Err.ensures.only;
    })

pub returns-in-Ok-clause-blames : goal.returns-in-Ok-clause-blames
returns-in-Ok-clause-blames g c = blames_not (g.D.Disk.disk_faults c.args.self.now.disk.now) (g.D.Disk.disk_faults c.append.new.disk) c.args.self.now.fault c.in-Ok.ensures.later

pub returns-in-Err-clause-blames : goal.returns-in-Err-clause-blames
returns-in-Err-clause-blames g c =
    blames_fault (g.D.Disk.disk_faults c.args.self.now.disk.now) (g.D.Disk.disk_faults c.append.new.disk) c.args.self.now.fault c.in-Err.fault c.in-Err.ensures.later (λ is. c.in-Err.ensures.disk (ap Err is))
