use Rattle.std.proofs.Common.{inl, inr, refl}
use Rattle.sk_log.specs.declared.fault.LogFault.TheVariants.{Damaged, NotALog}
use Rattle.sk_aof.proofs.Filling.{full_before, full_within}
use Rattle.sk_aof.proofs.Hindering.{rose_on}
use Rattle.sk_aof.proofs.piping.log_pipe.Goals as goal

pub returns-in-Ok-clause-is : goal.returns-in-Ok-clause-is
returns-in-Ok-clause-is g c = inl (record { store = c.in-Ok.store; disk = c.ready.new.disk; ready = c.in-Ok.ensures.ready; talked = c.talk.ensures.talked })

pub returns-in-Err-clause-is : goal.returns-in-Err-clause-is
returns-in-Err-clause-is g c = inr (record { why = c.in-Err.fault; is_end = refl; unread = refl; unwritten = refl; stops = c.in-Err.ensures.stops })

pub returns-in-Ok-clause-not_a_log : goal.returns-in-Ok-clause-not_a_log
returns-in-Ok-clause-not_a_log g c = λ is image reads. absurd (c.talk.ensures.only NotALog is)

pub returns-in-Ok-clause-damaged : goal.returns-in-Ok-clause-damaged
returns-in-Ok-clause-damaged g c = λ at is. absurd (c.talk.ensures.only (Damaged at) is)

pub returns-in-Ok-clause-disk : goal.returns-in-Ok-clause-disk
returns-in-Ok-clause-disk g c = λ is.
    let D = g.D.Disk in
    rose_on (D.disk_faults c.args.disk.now) (D.disk_faults c.ready.new.disk) (D.disk_faults c.talk.new.disk) c.ready.ensures.later (c.talk.ensures.disk is)

pub returns-in-Ok-clause-full : goal.returns-in-Ok-clause-full
returns-in-Ok-clause-full g c = λ is.
    let D = g.D.Disk in
    let store = c.in-Ok.store in
    let talked = c.talk.ensures.talked in
    full_within D.reads D.may_leave D.moment D.left_since c.args.limits c.args.disk.now store c.ready.new.disk (record { world = store.1; seat = 0; now = 0 }) talked.how talked.new c.talk.result talked.talks.bytes (g.S.Source.left c.talk.new.source)
    talked.talks.written c.in-Ok.ensures.ready talked.is_end talked.talks.ends is

pub returns-in-Err-clause-full : goal.returns-in-Err-clause-full
returns-in-Err-clause-full g c = λ is.
    let D = g.D.Disk in
    full_before D.reads D.may_leave D.moment D.left_since c.args.limits c.args.disk.now c.ready.new.disk c.in-Err.fault c.in-Err.ensures.stops (cc is)
