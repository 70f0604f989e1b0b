use Rattle.std.proofs.Common.{arith}
use Rattle.sk_base.proofs.Digits.{decimals_are}
use Rattle.sk_base.proofs.score.decimals_of.Goals as goal

pub returns-then-not-is_empty : goal.returns-then-not-is_empty
returns-then-not-is_empty c = λ decimals p e.
    let is = decimals_are c.args.rest.now c.front_digits.result.0.now c.front_digits.result.1.now decimals c.front_digits.ensures p (grind arith) e in
    grind (arith, is)
