use Rattle.sk_keys.proofs.Purging.{purge_clear}
use Rattle.sk_keys.proofs.purges.purge_some.Goals as goal

pub returns-clause-clean : goal.returns-clause-clean
returns-clause-clean c = λ clear. purge_clear c.args.over c.loop-gone.table.entries c.loop-gone.table.expiries c.in_order.ensures c.loop-gone.invariant.1 (c.has_expired.ensures.clear clear)
