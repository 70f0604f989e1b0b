use Rattle.std.proofs.Common.{codes}
use Rattle.sk_worker.specs.Request.{script_words}
use Rattle.sk_worker.specs.Stage.{returned, finish as the_row}
use Rattle.sk_worker.proofs.in_hand.InHand.finish.Goals as goal

pub returns : goal.returns
returns g c =
    let payload = c.args.self.now.payload.now in
    c.place.ensures (returned payload) (script_words (codes "SK.OK") payload, c.script-words.ensures, λ w. the_row payload)
