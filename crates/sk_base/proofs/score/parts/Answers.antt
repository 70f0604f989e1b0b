use Rattle.std.proofs.Common.{length, ap, arith}
use Rattle.sk_base.proofs.Digits.{whole_is}
use Rattle.sk_base.proofs.score.parts.Goals as goal

pub returns-then-is_empty : goal.returns-then-is_empty
returns-then-is_empty c = λ whole decimals d.
    let is = whole_is c.args.text.now c.front_digits.result.0.now c.front_digits.result.1.now whole decimals c.front_digits.ensures d in
    grind (arith, d.some, ap length is.0)

pub returns-in_default : goal.returns-in_default
returns-in_default c = λ whole decimals d.
    let is = whole_is c.args.text.now c.front_digits.result.0.now c.front_digits.result.1.now whole decimals c.front_digits.ensures d in
    c.in_default.ensures decimals d.decimal_digits is.1
