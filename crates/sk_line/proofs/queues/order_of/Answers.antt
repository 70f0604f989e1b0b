use Rattle.sk_line.proofs.OrderLines.{order_refused}
use Rattle.sk_line.proofs.Reading.{passed}
use Rattle.sk_line.proofs.queues.order_of.Goals as goal

pub returns-in_err-strict : goal.returns-in_err-strict
returns-in_err-strict c = passed _ _ c.from_residual.ensures.1 c.in_err-strict.ensures (λ order p. (p.strict, p.strict_is))

pub returns-in_err-queues : goal.returns-in_err-queues
returns-in_err-queues c = passed _ _ c.from_residual-in_err-queues.ensures.1 c.in_err-queues.ensures (λ order p. (p.queues, p.queues_are))

pub returns-in_err-order : goal.returns-in_err-order
returns-in_err-order c = order_refused _ c.in_ok-strict.strict c.in_ok-queues.queues.items c.in_err-order.field-0.0 c.from_residual-in_err-order.result
    c.in_ok-strict.ensures c.in_ok-queues.ensures c.in_err-order.ensures c.from_residual-in_err-order.ensures.1
