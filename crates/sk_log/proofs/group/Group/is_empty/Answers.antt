use Rattle.std.proofs.Common.{length, arith, ap}
use Rattle.sk_log.proofs.Writing.{group_is_empty}
use Rattle.sk_log.proofs.group.Group.is_empty.Goals as goal

pub returns-clause-is : goal.returns-clause-is
returns-clause-is c = λ bodies g. group_is_empty c.len.result bodies c.args.self.now g (omega (arith, c.len.ensures, ap length c.self.view_is))
