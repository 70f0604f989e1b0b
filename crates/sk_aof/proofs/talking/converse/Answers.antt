use Rattle.sk_talk.proofs.Mapping.{ends_map, some_of}
use Rattle.sk_talk.specs.Talk.{DoesAll}
use Rattle.sk_aof.specs.Logging.{place_of}
use Rattle.sk_aof.specs.Talking.{LogAnswers}
use Rattle.sk_aof.proofs.Talks.{all_kept, all_seen, does, talk_of}
use Rattle.sk_aof.proofs.talking.converse.Goals as goal

pub returns-clause-same : goal.returns-clause-same
returns-clause-same g c =
    let D = g.D.Disk in
    let old = c.args.session.now in
    let new = c.relay.new.talker in
    let talked = c.relay.ensures.ends in
    let left = g.S.Source.left c.relay.new.source in
    let Does = does D.may_leave D.moment D.left_since D.disk_faults place_of (λ s. s.disk.ghost_name) in
    let came = some_of (DoesAll Does) old new c.relay.result talked.0 left talked.1 talked.2.1 in
    (all_kept D.may_leave D.moment D.left_since D.disk_faults place_of (λ s. s.disk.ghost_name) old new came.0 came.1.0 came.1.1.0 came.1.1.1).0

pub returns-clause-blames : goal.returns-clause-blames
returns-clause-blames g c =
    let D = g.D.Disk in
    let old = c.args.session.now in
    let new = c.relay.new.talker in
    let talked = c.relay.ensures.ends in
    let left = g.S.Source.left c.relay.new.source in
    let Does = does D.may_leave D.moment D.left_since D.disk_faults place_of (λ s. s.disk.ghost_name) in
    let came = some_of (DoesAll Does) old new c.relay.result talked.0 left talked.1 talked.2.1 in
    (all_kept D.may_leave D.moment D.left_since D.disk_faults place_of (λ s. s.disk.ghost_name) old new came.0 came.1.0 came.1.1.0 came.1.1.1).1

pub returns-clause-talks : goal.returns-clause-talks
returns-clause-talks g c =
    let D = g.D.Disk in
    let old = c.args.session.now in
    let new = c.relay.new.talker in
    let talked = c.relay.ensures.ends in
    let left = g.S.Source.left c.relay.new.source in
    let Does = does D.may_leave D.moment D.left_since D.disk_faults place_of (λ s. s.disk.ghost_name) in
    record {
      bytes = talked.0;
      written = talked.1;
      moves = talked.2.0;
      ends = ends_map (DoesAll Does) (LogAnswers D.may_leave D.moment D.left_since) old new (place_of old) (place_of new)
          (λ commands replies stop d. talk_of D.may_leave D.moment D.left_since (λ disk image left. g.met.D.Disk.only_now disk image left) (place_of old) (place_of new) commands replies stop
          (all_seen D.may_leave D.moment D.left_since D.disk_faults place_of (λ s. s.disk.ghost_name) old new commands replies stop d))
          c.relay.result talked.0 left talked.1 talked.2.1;
    }
