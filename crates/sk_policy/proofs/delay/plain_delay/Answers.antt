use Rattle.sk_policy.proofs.Delays.{delay_above, delay_below}
use Rattle.sk_policy.proofs.delay.plain_delay.Goals as goal

pub returns-then-count-ge178 : goal.returns-then-count-ge178
returns-then-count-ge178 c = delay_above c.args.count c.if-count-ge178.true

pub returns : goal.returns
returns c = rw (c.from.ensures, c.from-2.ensures) (delay_below c.args.count c.if-count-ge178.false)
