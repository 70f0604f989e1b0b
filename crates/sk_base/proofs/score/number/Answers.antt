use Rattle.std.proofs.Common.{◌<◌, sym, subst, arith}
use Rattle.sk_base.specs.Score.{greatest}
use Rattle.sk_base.proofs.Digits.{over}
use Rattle.sk_base.proofs.score.number.Goals as goal

pub returns-then-n-digit : goal.returns-then-n-digit
returns-then-n-digit c = subst (λ m. greatest < m) (sym c.loop-digit.invariant.value)
    (over c.loop-digit.n c.loop-digit.digit-index c.args.digits.now (omega arith) c.loop-digit.invariant.digits (omega (arith, c.if-n-digit.true)))
