use Rattle.std.proofs.Common.{sym, ◌∙◌}
use Rattle.sk_serve.specs.Attending.{IsAtOnce}
use Rattle.sk_serve.proofs.Ends.{ended_at, served_at}
use Rattle.sk_serve.proofs.server.serve.Goals as goal

pub returns-in-Err-clause-ended : goal.returns-in-Err-clause-ended
returns-in-Err-clause-ended g c =
    ended_at g.N.Door g.N.Ear.Ear (IsAtOnce g.N.Conn.Source g.N.Conn.Sink g.K.Clock) c.args.sessions c.args.loops _ c.args.door.now c.listen.new.self c.gather.new.self c.in-Ok.ears.items
    c.serve_on-served.new.ears.items (sym c.in-Ok.ears.ok.0 ∙ c.in-Ok.ensures.count) c.in-Ok.ensures.count c.in-Ok.ensures.heard c.gather.ensures.told.0 c.in-Ok.ensures.room c.gather.ensures.gathered
    (λ s k d k' d' one. one.settled) c.in-Err.fault _ c.from.ensures c.in-Err.ensures

pub returns-in-Ok-served-clause-ended : goal.returns-in-Ok-served-clause-ended
returns-in-Ok-served-clause-ended g c =
    served_at g.N.Door g.N.Ear.Ear (IsAtOnce g.N.Conn.Source g.N.Conn.Sink g.K.Clock) c.args.sessions c.args.loops _ c.args.door.now c.listen.new.self c.gather.new.self c.in-Ok.ears.items
    c.serve_on-served.new.ears.items (sym c.in-Ok.ears.ok.0 ∙ c.in-Ok.ensures.count) c.in-Ok.ensures.count c.in-Ok.ensures.heard c.gather.ensures.told.0 c.in-Ok.ensures.room c.gather.ensures.gathered
    c.in-Ok-served.served c.in-Ok-served.ensures
