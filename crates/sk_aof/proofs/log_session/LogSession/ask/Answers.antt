use Rattle.std.proofs.Common.{sym, ◌∙◌}
use Rattle.sk_aof.proofs.Hindering.{blames_none}
use Rattle.sk_aof.proofs.Lines.{unlogged}
use Rattle.sk_aof.proofs.Turns.{quiet_line}
use Rattle.sk_aof.proofs.log_session.LogSession.ask.Goals as goal

pub returns-then-is_quiet-clause-told : goal.returns-then-is_quiet-clause-told
returns-then-is_quiet-clause-told g c = λ words l. let is = l.said in
    let D = g.D.Disk in
    let self = c.args.self.now in
    let line = c.perform.ensures words is in
    unlogged D.may_leave D.moment D.left_since words self.session.now self.log self.disk.now self.fault (λ image left. g.met.D.Disk.only_now self.disk.now image left) c.perform.result c.perform.new.self
    (record { line = line; logged = quiet_line self.session.now c.perform.new.self words c.perform.result line c.args.command is (sym c.is_quiet.ensures ∙ c.if-is_quiet.true); may = tt })

pub returns-then-is_quiet-clause-blames : goal.returns-then-is_quiet-clause-blames
returns-then-is_quiet-clause-blames g c = blames_none (g.D.Disk.disk_faults c.args.self.now.disk.now) c.args.self.now.fault
