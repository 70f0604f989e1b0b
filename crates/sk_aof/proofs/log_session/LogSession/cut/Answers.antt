use Rattle.std.proofs.Common.{sym, subst}
use Rattle.sk_log.specs.File.{Body}
use Rattle.sk_model.specs.Event.{Cut}
use Rattle.sk_model.specs.Replay.{Entry}
use Rattle.sk_model.specs.Run.{State}
use Rattle.sk_aof.specs.Logging.{AnswersLine, Puts, place, place_of}
use Rattle.sk_aof.proofs.Lines.{put_line}
use Rattle.sk_aof.proofs.Turns.{cut_line}
use Rattle.sk_aof.proofs.log_session.LogSession.cut.Goals as goal

pub returns-clause-told : goal.returns-clause-told
returns-clause-told g c = λ words is.
    let D = g.D.Disk in
    let self = c.args.self.now in
    let answer = c.perform-answer.result in
    let line = c.perform-answer.ensures words is in
    let entry : Entry = record { event = Cut c.args.seat; reply = answer.reply } in
    let end = place_of c.append.new.self in
    let put = subst (λ (body : Body). Puts D.may_leave D.moment D.left_since body (place c.perform-answer.new.self self.log self.disk.now self.fault) answer c.append.result end) c.in-Ok.ensures c.append.ensures.put in
    subst (λ (state : State). AnswersLine D.may_leave D.moment D.left_since (place_of self) words c.append.result.reply c.append.result.stop (place state end.gate end.disk end.fault))
    (sym c.append.ensures.session)
    (put_line D.may_leave D.moment D.left_since words self.session.now self.log self.disk.now self.fault answer c.append.result c.perform-answer.new.self entry end
    (record { line = line; logged = cut_line self.session.now c.perform-answer.new.self words answer line c.args.seat is; may = (c.ranges.seat.fits, tt) }) put)
