use Rattle.std.proofs.Common.{arith}
use Rattle.sk_base.proofs.Digits.{digits_more}
use Rattle.sk_base.proofs.score.front_digits.Goals as goal

pub loop-n-preserved : goal.loop-n-preserved
loop-n-preserved c = record { within = omega arith; digits = digits_more c.loop-n.n c.args.text.now (omega arith) c.loop-n.invariant.digits (cc) }
