use Rattle.sk_line.proofs.Reading.{passed}
use Rattle.sk_line.proofs.push_line.line_of.Goals as goal

pub returns-in_err-address : goal.returns-in_err-address
returns-in_err-address c = passed _ _ c.from_residual-in_err-address.ensures.1 c.in_err-address.ensures (λ line p. (line.address, p.address))

pub returns-in_err-queue : goal.returns-in_err-queue
returns-in_err-queue c = passed _ _ c.from_residual-in_err-queue.ensures.1 c.in_err-queue.ensures (λ line p. (line.queue, p.queue))

pub returns-in_err-retry : goal.returns-in_err-retry
returns-in_err-retry c = passed _ _ c.from_residual.ensures.1 c.in_err-retry.ensures (λ line p. (line.retry, p.retry))

pub returns-in_err-retry_for : goal.returns-in_err-retry_for
returns-in_err-retry_for c = passed _ _ c.from_residual-in_err-retry_for.ensures.1 c.in_err-retry_for.ensures (λ line p. (line.retry_for, p.retry_for))

pub returns-in_err-at : goal.returns-in_err-at
returns-in_err-at c = passed _ _ c.from_residual-in_err-at.ensures.1 c.in_err-at.ensures (λ line p. (line.at, p.at_is))

pub returns-in_err-unique : goal.returns-in_err-unique
returns-in_err-unique c = passed _ _ c.from_residual-in_err-unique.ensures.1 c.in_err-unique.ensures (λ line p. (line.unique, p.unique))

pub returns-in_err-class : goal.returns-in_err-class
returns-in_err-class c = passed _ _ c.from_residual-in_err-class.ensures.1 c.in_err-class.ensures (λ line p. (line.class, p.class))

pub returns-in_err-args : goal.returns-in_err-args
returns-in_err-args c = passed _ _ c.from_residual-in_err-args.ensures.1 c.in_err-args.ensures (λ line p. (line.args, p.args))
