use Rattle.std.proofs.Common.{codes}
use Rattle.sk_worker.specs.Request.{script_words}
use Rattle.sk_worker.proofs.in_hand.InHand.bury.Goals as goal

pub returns : goal.returns
returns g c = λ from line. c.place.ensures from (script_words (codes "SK.BURY") c.args.text.now, c.script-words.ensures, line)
