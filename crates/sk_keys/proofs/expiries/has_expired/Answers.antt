use Rattle.std.proofs.Common.{arith}
use Rattle.sk_keys.proofs.Index.{first_below}
use Rattle.sk_keys.proofs.expiries.has_expired.Goals as goal

pub returns-in-Some-clause-clear : goal.returns-in-Some-clause-clear
returns-in-Some-clause-clear c = λ ahead moment name has. grind (arith, ahead, first_below c.in-Some.field-0.now.0 moment _ (c.in-Some.ensures.least (moment, name) has))
