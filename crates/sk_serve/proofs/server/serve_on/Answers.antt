use Rattle.std.proofs.Common.{ap, arith, refl, subst, Ok}
use Rattle.std.specs.Prelude.{vec_len}
use Rattle.sk_model.specs.World.{World}
use Rattle.sk_serve.specs.Attending.{IsAtOnce}
use Rattle.sk_serve.specs.Server.{LoopsEnded}
use Rattle.sk_serve.proofs.Ends.{served_with}
use Rattle.sk_serve.proofs.server.serve_on.Goals as goal

pub returns-in-Ok : goal.returns-in-Ok
returns-in-Ok g c =
    served_with g.E.Ear (IsAtOnce g.E.Conn.Source g.E.Conn.Sink g.K.Clock) c.args.ears.now.items c.serve_at-ended.new.ears.items c.args.sessions (vec_len c.args.ears.now) c.in-Ok.served c.serve_at-ended.new.pass.amount
    _ refl c.finish-acknowledged.ensures.amount (omega (arith, c.finish-acknowledged.ensures.outside, ap (λ (w : World). w.tally.outside) c.requires.start)) c.finish-acknowledged.ensures.balanced
    (subst (λ bound. LoopsEnded g.E.Ear (IsAtOnce g.E.Conn.Source g.E.Conn.Sink g.K.Clock) bound (vec_len c.args.ears.now) c.serve_at-ended.new.pass.amount c.args.ears.now.items c.serve_at-ended.new.ears.items (Ok c.in-Ok.served))
    c.new.ensures.1 c.in-Ok.ensures.ended)
