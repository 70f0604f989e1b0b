use Rattle.std.proofs.Common.{[], ◌∷◌, refl}
use Rattle.sk_lane.proofs.seat_link.ask.Goals as goal

pub returns-in_default-clause-err : goal.returns-in_default-clause-err
returns-in_default-clause-err g c = ((c.now-now.result ∷ [], (g.C.Clock.moments c.now-now.new.self, c.now-now.ensures, refl)), c.reserve.ensures.items)
