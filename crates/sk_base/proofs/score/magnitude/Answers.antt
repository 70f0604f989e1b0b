use Rattle.std.proofs.Common.{sym, subst}
use Rattle.sk_base.specs.Score.{IsDigits}
use Rattle.sk_base.proofs.Digits.{six_are_digits}
use Rattle.sk_base.proofs.score.magnitude.Goals as goal

pub number-requires-2-clause-digits : goal.number-requires-2-clause-digits
number-requires-2-clause-digits c = subst IsDigits (sym c.six_of.ensures) (six_are_digits c.in-Some.decimals.now c.in-Some.ensures.decimal_digits)
