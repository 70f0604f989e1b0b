use Rattle.std.proofs.Common.{◌≤◌, rules, refl, sym, subst}
use Rattle.sk_pipe.proofs.Talks.{read_end, write_end}
use Rattle.std.specs.Prelude.{None}
use Rattle.sk_base.specs.Outside.{Rose}
use Rattle.sk_model.specs.Run.{State}
use Rattle.sk_aof.specs.Logging.{place, place_of}
use Rattle.sk_aof.specs.Talking.{TalksOn}
use Rattle.sk_aof.proofs.Hindering.{disk_ended, fault_ended}
use Rattle.sk_aof.proofs.Talks.{pipe_ended}
use Rattle.sk_pipe.specs.declared.pipe_end.PipeEnd.TheVariants.{ReadFault, WriteFault}
use Rattle.sk_aof.proofs.talking.talk.Goals as goal

pub returns-clause-talked : goal.returns-clause-talked
returns-clause-talked g c =
    let D = g.D.Disk in
    let new = place_of c.converse-end.new.session in
    record {
      how = c.converse-end.result;
      new = new;
      is_end = c.log_end.ensures;
      disk_is = sym (search rules);
      talks = subst (λ (w : State). TalksOn D.may_leave D.moment D.left_since (g.S.Source.left c.args.source.now) (g.S.Source.left c.converse-end.new.source) (g.K.Sink.taken c.args.sink.now) (g.K.Sink.taken c.converse-end.new.sink)
          (place w c.args.store.0 c.args.disk.now None) c.converse-end.result new) c.over-session.ensures c.converse-end.ensures.talks;
    }

pub returns-clause-read_fault : goal.returns-clause-read_fault
returns-clause-read_fault g c = λ is. c.converse-end.ensures.read_fault (read_end c.converse-end.result (pipe_ended c.converse-end.result c.converse-end.new.session.fault c.log_end.result ReadFault c.log_end.ensures is))

pub returns-clause-write_fault : goal.returns-clause-write_fault
returns-clause-write_fault g c = λ is. c.converse-end.ensures.write_fault (write_end c.converse-end.result (pipe_ended c.converse-end.result c.converse-end.new.session.fault c.log_end.result WriteFault c.log_end.ensures is))

pub returns-clause-disk : goal.returns-clause-disk
returns-clause-disk g c = λ is.
    let D = g.D.Disk in
    let session = c.converse-end.new.session in
    let before = D.disk_faults c.args.disk.now in
    subst (λ d. Rose before (D.disk_faults d)) (sym (search rules))
    (disk_ended c.converse-end.result session.fault c.log_end.result before (D.disk_faults session.disk.now) c.log_end.ensures is c.converse-end.ensures.blames)

pub returns-clause-only : goal.returns-clause-only
returns-clause-only g c = λ fault is.
    let D = g.D.Disk in
    let talked = c.converse-end.ensures.talks in
    let first = place c.over-session.result c.args.store.0 c.args.disk.now None in
    fault_ended D.may_leave D.moment D.left_since first (place_of c.converse-end.new.session) c.converse-end.result c.log_end.result talked.bytes (g.S.Source.left c.converse-end.new.source) talked.written refl c.log_end.ensures talked.ends fault is

pub returns-clause-later : goal.returns-clause-later
returns-clause-later g c =
    let D = g.D.Disk in
    let before = D.disk_faults c.args.disk.now in
    subst (λ d. before ≤ D.disk_faults d) (sym (search rules)) c.converse-end.ensures.blames.later
