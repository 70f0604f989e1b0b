use Rattle.std.proofs.Common.{sym, ap, ◌∙◌, Err, [], refl}
use Rattle.sk_log.specs.File.{IsAt}
use Rattle.sk_durable.specs.Serving.{Waited, is_always}
use Rattle.sk_durable.proofs.Ends.{gathered_ends, unheard_ends}
use Rattle.sk_durable.proofs.server.serve_kept.Goals as goal

pub serve_on-end-requires-clause-holds : goal.serve_on-end-requires-clause-holds
serve_on-end-requires-clause-holds g c κs within = (c.args.store.core, record { steps = []; leads = record { run = tt; new_is = refl }; entries = []; written = refl; spelled = refl })

pub serve_on-end-requires-clause-tells : goal.serve_on-end-requires-clause-tells
serve_on-end-requires-clause-tells g c κs within bodies = (λ kept. kept, λ kept. kept)

pub returns-in-Err-clause-ended : goal.returns-in-Err-clause-ended
returns-in-Err-clause-ended g c =
    unheard_ends g.D.Disk.may_leave g.D.Disk.disk_faults g.N.Ear.Ear (Waited (is_always c.args.store.sync_every) c.args.store.core g.N.Conn.Source g.N.Conn.Sink g.K.Clock) (λ events. IsAt events c.args.store.log (g.D.Disk.may_leave c.args.store.disk))
    c.args.store.core (g.D.Disk.disk_faults c.args.store.disk) g.N.Door c.args.sessions c.args.loops c.args.loops c.args.door.now c.listen.new.self c.in-Err.fault c.unheard.result.end c.unheard.result.disk c.unheard.ensures.end
    (λ is. c.in-Err.ensures.cause (ap Err is))

pub returns-clause-ended : goal.returns-clause-ended
returns-clause-ended g c =
    gathered_ends g.D.Disk.may_leave g.D.Disk.disk_faults g.N.Ear.Ear (Waited (is_always c.args.store.sync_every) c.args.store.core g.N.Conn.Source g.N.Conn.Sink g.K.Clock) (λ events. IsAt events c.args.store.log (g.D.Disk.may_leave c.args.store.disk))
    c.args.store.core (g.D.Disk.disk_faults c.args.store.disk) g.N.Door c.args.sessions c.args.loops _ c.args.door.now c.listen.new.self c.gather.new.self c.in-Ok.ears.items c.serve_on-end.new.ears.items
    (sym c.in-Ok.ears.ok.0 ∙ c.in-Ok.ensures.count) c.in-Ok.ensures.count c.in-Ok.ensures.heard c.gather.ensures.told.0 c.in-Ok.ensures.room c.gather.ensures.gathered
    c.serve_on-end.result.end c.serve_on-end.result.disk c.serve_on-end.ensures.ended
