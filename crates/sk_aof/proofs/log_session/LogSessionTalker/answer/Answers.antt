use Rattle.std.proofs.Common.{refl, subst, ap}
use Rattle.sk_pipe.proofs.Asking.{pipes_own, spoke_starved}
use Rattle.sk_model.specs.Reading.{IsSaid, SetTime, ActAs}
use Rattle.sk_resp.specs.Errors.{is_error}
use Rattle.sk_pipe.specs.PipeCommand.{meant}
use Rattle.sk_talk.specs.declared.talker.Answer.{Answer}
use Rattle.sk_aof.proofs.Hindering.{blames_none}
use Rattle.sk_aof.proofs.Lines.{unlogged}
use Rattle.sk_aof.proofs.Turns.{error_line, own_line, refused_line}
use Rattle.sk_aof.proofs.log_session.LogSessionTalker.answer.Goals as goal

pub returns-in-Ok-Refused : goal.returns-in-Ok-Refused
returns-in-Ok-Refused g c =
    let D = g.D.Disk in
    let self = c.args.self.now in
    let words = c.args.words in
    let is = subst (λ s. IsSaid words (meant s)) c.in-Ok-Refused.field-0-is c.in-Ok-Refused.ensures.ok in
    let line = c.perform.ensures words is in (
      refl,
      blames_none (D.disk_faults self.disk.now) self.fault,
      unlogged D.may_leave D.moment D.left_since words self.session.now self.log self.disk.now self.fault (λ image left. g.met.D.Disk.only_now self.disk.now image left) c.perform.result c.perform.new.self
          (record { line = line; logged = refused_line self.session.now c.perform.new.self words c.perform.result line c.in-Ok-Refused.say is; may = tt }),
    )

pub returns-in-Ok-SetTime : goal.returns-in-Ok-SetTime
returns-in-Ok-SetTime g c =
    let D = g.D.Disk in
    let self = c.args.self.now in
    let words = c.args.words in
    let is = subst (λ s. IsSaid words (meant s)) c.in-Ok-SetTime.field-0-is c.in-Ok-SetTime.ensures.ok in
    let line = c.perform-in-Ok-SetTime.ensures words is in (
      refl,
      blames_none (D.disk_faults self.disk.now) self.fault,
      unlogged D.may_leave D.moment D.left_since words self.session.now self.log self.disk.now self.fault (λ image left. g.met.D.Disk.only_now self.disk.now image left) c.perform-in-Ok-SetTime.result c.perform-in-Ok-SetTime.new.self
          (record { line = line; logged = own_line self.session.now c.perform-in-Ok-SetTime.new.self words c.perform-in-Ok-SetTime.result line (SetTime c.in-Ok-SetTime.now) is (pipes_own words (SetTime c.in-Ok-SetTime.now) is (λ e. e)) (λ seat e. cc e); may = tt }),
    )

pub returns-in-Ok-ActAs : goal.returns-in-Ok-ActAs
returns-in-Ok-ActAs g c =
    let D = g.D.Disk in
    let self = c.args.self.now in
    let words = c.args.words in
    let is = subst (λ s. IsSaid words (meant s)) c.in-Ok-ActAs.field-0-is c.in-Ok-ActAs.ensures.ok in
    let line = c.perform-in-Ok-ActAs.ensures words is in (
      refl,
      blames_none (D.disk_faults self.disk.now) self.fault,
      unlogged D.may_leave D.moment D.left_since words self.session.now self.log self.disk.now self.fault (λ image left. g.met.D.Disk.only_now self.disk.now image left) c.perform-in-Ok-ActAs.result c.perform-in-Ok-ActAs.new.self
          (record { line = line; logged = own_line self.session.now c.perform-in-Ok-ActAs.new.self words c.perform-in-Ok-ActAs.result line (ActAs c.in-Ok-ActAs.seat) is (pipes_own words (ActAs c.in-Ok-ActAs.seat) is (λ e. e)) (λ seat e. cc e); may = tt }),
    )

pub returns-in-Err : goal.returns-in-Err
returns-in-Err g c =
    let D = g.D.Disk in
    let self = c.args.self.now in
    let words = c.args.words in
    let line = spoke_starved self.session.now words c.starved.result c.in-Err.ensures.memory.0 c.in-Err.ensures.memory.1 c.starved.ensures in (
      refl,
      blames_none (D.disk_faults self.disk.now) self.fault,
      unlogged D.may_leave D.moment D.left_since words self.session.now self.log self.disk.now self.fault (λ image left. g.met.D.Disk.only_now self.disk.now image left) c.starved.result self.session.now
          (record { line = line; logged = error_line self.session.now self.session.now words c.starved.result line c.in-Err.ensures.memory.0 (ap (λ (a : Answer). is_error a.reply) c.starved.ensures); may = tt }),
    )
