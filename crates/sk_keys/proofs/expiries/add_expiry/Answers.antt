use Rattle.std.proofs.Common.{arith}
use Rattle.sk_keys.proofs.Index.{expiry_at}
use Rattle.sk_keys.proofs.expiries.add_expiry.Goals as goal

pub returns-in_ok-insert-clause-ok : goal.returns-in_ok-insert-clause-ok
returns-in_ok-insert-clause-ok c = λ moment other. grind (arith, c.in_ok-insert.ensures.updates.0 (moment, other), expiry_at c.in-Some.deadline moment c.args.name.now other)
