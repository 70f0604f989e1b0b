use Rattle.std.proofs.Common.{◌∙◌, ap}
use Rattle.std.specs.Prelude.{vec_len}
use Rattle.sk_desk.specs.State.{StateView}
use Rattle.sk_jobs.specs.Counting.{tally_of}
use Rattle.sk_durable.specs.Serving.{Waited, is_always}
use Rattle.sk_durable.proofs.Ends.{ends_so, halted_ends, halted_left, starved_ends}
use Rattle.sk_durable.proofs.server.serve_on.Goals as goal

pub returns-in_default-clause-ended : goal.returns-in_default-clause-ended
returns-in_default-clause-ended g c =
    starved_ends g.D.Disk.may_leave g.D.Disk.disk_faults g.E.Ear (Waited (is_always c.args.store.sync_every) g.I.HubId.start g.E.Conn.Source g.E.Conn.Sink g.K.Clock) g.J.LogId.starts g.I.HubId.start g.J.LogId.faults c.args.sessions (vec_len c.args.ears.now)
    c.args.ears.now.items c.args.ears.now.items c.starved.result.end c.starved.result.disk c.starved.ensures.end

pub returns-in-Err-clause-ended : goal.returns-in-Err-clause-ended
returns-in-Err-clause-ended g c =
    halted_ends g.D.Disk g.J.LogId g.E.Ear (Waited (is_always c.args.store.sync_every) g.I.HubId.start g.E.Conn.Source g.E.Conn.Sink g.K.Clock) g.I.HubId.start c.requires.tells c.args.sessions (vec_len c.args.ears.now)
    c.args.ears.now.items c.run_all-ended.new.ears.items c.in-Err.broken c.halted.result c.halted.ensures

pub returns-in-Err-clause-left : goal.returns-in-Err-clause-left
returns-in-Err-clause-left g c = halted_left g.D.Disk g.J.LogId c.in-Err.broken c.halted.result c.halted.ensures

pub returns-clause-ended : goal.returns-clause-ended
returns-clause-ended g c =
    ends_so g.D.Disk.may_leave g.D.Disk.disk_faults g.E.Ear (Waited (is_always c.args.store.sync_every) g.I.HubId.start g.E.Conn.Source g.E.Conn.Sink g.K.Clock) g.J.LogId.starts g.I.HubId.start g.J.LogId.faults c.args.sessions (vec_len c.args.ears.now)
    c.args.ears.now.items c.run_all-ended.new.ears.items c.run_all-ended.result c.end_of.result c.finish-acknowledged.result.0 c.run_all-ended.new.pass.amount
    c.finish-acknowledged.result.1 c.in-Ok.disk c.close-closed.result.world c.end_of.ensures c.finish-acknowledged.ensures.amount c.finish-acknowledged.ensures.outside c.finish-acknowledged.ensures.balanced
    (c.finish-acknowledged.ensures.tally ∙ ap (λ (s : StateView). tally_of s.world) c.in-Ok.ensures.same) c.run_all-ended.ensures.ended c.in-Ok.ensures.all
