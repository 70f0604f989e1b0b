use Rattle.std.proofs.Common.{◌∙◌, sym}
use Rattle.sk_leases.proofs.KeptLocks.{keeps_over, takes_over}
use Rattle.sk_leases.proofs.locks.take_over.Goals as goal

pub returns-then-is_over-clause-rest : goal.returns-then-is_over-clause-rest
returns-then-is_over-clause-rest c = rw (c.take-lock.ensures.list) (takes_over c.args.digest.now c.args.now c.args.held.now.list.current c.is_over.ensures.once (sym c.is_over.ensures.is ∙ c.if-is_over.true))

pub returns-else-is_over-clause-rest : goal.returns-else-is_over-clause-rest
returns-else-is_over-clause-rest c = keeps_over c.args.digest.now c.args.now c.args.held.now.list.current c.is_over.ensures.once (sym c.is_over.ensures.is ∙ c.if-is_over.false)
