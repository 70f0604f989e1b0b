use Rattle.std.proofs.Common.{inl, inr}
use Rattle.std.proofs.lemmas.Result.{IfOk-weaker}
use Rattle.sk_aof.specs.Piping.{IsReady, IsReopened, StaysShut, StopsBefore}
use Rattle.sk_aof.proofs.Beginning.{damaged_before, if_err, one_more, reopened_before, shut_before}
use Rattle.sk_aof.proofs.piping.ready.Goals as goal

pub returns-clause-ready : goal.returns-clause-ready
returns-clause-ready g c =
    let D = g.D.Disk in
    let old = c.args.disk.now in
    let mid = c.size.new.self in
    let new = c.reopen.new.disk in
    let limits = c.args.limits in
    let read = one_more D.reads D.may_leave D.moment D.left_since limits old mid (λ image left. g.met.D.Disk.only_now old image left) c.size.ensures.same c.size.ensures.crash c.size.ensures.time in
    IfOk-weaker c.reopen.result (λ r. IsReopened D.reads D.may_leave D.moment D.left_since limits mid r new) (λ r. IsReady D.reads D.may_leave D.moment D.left_since limits old r new)
    (λ r opened. inr (reopened_before D.reads D.may_leave D.moment D.left_since limits old mid read r new opened)) c.reopen.ensures.ready

pub returns-clause-stops : goal.returns-clause-stops
returns-clause-stops g c =
    let D = g.D.Disk in
    let old = c.args.disk.now in
    let mid = c.size.new.self in
    let new = c.reopen.new.disk in
    let limits = c.args.limits in
    let read = one_more D.reads D.may_leave D.moment D.left_since limits old mid (λ image left. g.met.D.Disk.only_now old image left) c.size.ensures.same c.size.ensures.crash c.size.ensures.time in
    if_err c.reopen.result (λ e. StaysShut D.reads D.may_leave D.moment D.left_since limits mid new e) (λ e. StopsBefore D.reads D.may_leave D.moment D.left_since limits old new e)
    (λ e shut. inl (shut_before D.reads D.may_leave D.moment D.left_since limits old mid read new e shut)) c.reopen.ensures.stops

pub returns-clause-damaged : goal.returns-clause-damaged
returns-clause-damaged g c = λ at is.
    let D = g.D.Disk in
    let old = c.args.disk.now in
    let mid = c.size.new.self in
    let limits = c.args.limits in
    let read = one_more D.reads D.may_leave D.moment D.left_since limits old mid (λ image left. g.met.D.Disk.only_now old image left) c.size.ensures.same c.size.ensures.crash c.size.ensures.time in
    damaged_before D.reads D.may_leave D.moment D.left_since limits old mid read at (c.reopen.ensures.damaged at is)
