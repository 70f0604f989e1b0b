use Rattle.std.proofs.Common.{arith}
use Rattle.sk_keys.proofs.Index.{expiry_at}
use Rattle.sk_keys.proofs.expiries.drop_expiry.Goals as goal

pub returns-in-Some : goal.returns-in-Some
returns-in-Some c = λ moment other. grind (arith, c.remove.ensures.updates.0 (moment, other), expiry_at c.in-Some.deadline moment c.args.name other)
