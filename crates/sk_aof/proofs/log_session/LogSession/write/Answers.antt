use Rattle.std.proofs.Common.{sym, subst, ◌∙◌}
use Rattle.sk_log.specs.File.{Body}
use Rattle.sk_model.specs.Replay.{Entry}
use Rattle.sk_model.specs.Run.{State}
use Rattle.sk_aof.specs.Logging.{AnswersLine, Puts, asked, place, place_of}
use Rattle.sk_aof.proofs.Hindering.{blames_none}
use Rattle.sk_aof.proofs.Lines.{put_line, unlogged}
use Rattle.sk_aof.proofs.Turns.{error_line, kept_line}
use Rattle.sk_pipe.proofs.Asking.{asks_apart}
use Rattle.sk_aof.proofs.log_session.LogSession.write.Goals as goal

pub returns-then-is_error-clause-told : goal.returns-then-is_error-clause-told
returns-then-is_error-clause-told g c = λ words l. let is = l.said in let draft = l.draft in
    let D = g.D.Disk in
    let self = c.args.self.now in
    let answer = c.perform-answer.result in
    let line = c.perform-answer.ensures words is in
    unlogged D.may_leave D.moment D.left_since words self.session.now self.log self.disk.now self.fault (λ image left. g.met.D.Disk.only_now self.disk.now image left) answer c.perform-answer.new.self
    (record { line = line; logged = error_line self.session.now c.perform-answer.new.self words answer line (asks_apart words c.args.command is) (sym c.is_error.ensures ∙ c.if-is_error.true); may = tt })

pub returns-clause-told : goal.returns-clause-told
returns-clause-told g c = λ words l. let is = l.said in let draft = l.draft in
    let D = g.D.Disk in
    let self = c.args.self.now in
    let answer = c.perform-answer.result in
    let line = c.perform-answer.ensures words is in
    let entry : Entry = record { event = asked self.session.now words; reply = answer.reply } in
    let end = place_of c.append.new.self in
    let put = subst (λ (body : Body). Puts D.may_leave D.moment D.left_since body (place c.perform-answer.new.self self.log self.disk.now self.fault) answer c.append.result end) draft.is c.append.ensures.put in
    subst (λ (state : State). AnswersLine D.may_leave D.moment D.left_since (place_of self) words c.append.result.reply c.append.result.stop (place state end.gate end.disk end.fault))
    (sym c.append.ensures.session)
    (put_line D.may_leave D.moment D.left_since words self.session.now self.log self.disk.now self.fault answer c.append.result c.perform-answer.new.self entry end
    (record {
      line = line;
      logged = kept_line self.session.now c.perform-answer.new.self words answer line c.args.command is c.requires (sym c.is_error.ensures ∙ c.if-is_error.false);
      may = (draft.may, tt);
    }) put)

pub returns-then-is_error-clause-blames : goal.returns-then-is_error-clause-blames
returns-then-is_error-clause-blames g c = blames_none (g.D.Disk.disk_faults c.args.self.now.disk.now) c.args.self.now.fault
