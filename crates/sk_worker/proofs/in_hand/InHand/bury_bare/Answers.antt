use Rattle.sk_worker.specs.Stage.{holding, bury_bare as the_row}
use Rattle.sk_worker.proofs.in_hand.InHand.bury_bare.Goals as goal

pub returns : goal.returns
returns g c = c.bury.ensures (holding c.args.self.now.payload.now) (λ w. the_row c.args.self.now.payload.now c.requires)
