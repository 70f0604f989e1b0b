use Rattle.sk_line.proofs.Reading.{passed}
use Rattle.sk_line.proofs.iterate_line.line_of.Goals as goal

pub returns-in_err-address : goal.returns-in_err-address
returns-in_err-address c = passed _ _ c.from_residual.ensures.1 c.in_err-address.ensures (λ line p. (line.address, p.address))

pub returns-in_err-every : goal.returns-in_err-every
returns-in_err-every c = passed _ _ c.from_residual-in_err-every.ensures.1 c.in_err-every.ensures (λ line p. (line.every, p.every))

pub returns-in_err-most : goal.returns-in_err-most
returns-in_err-most c = passed _ _ c.from_residual-in_err-most.ensures.1 c.in_err-most.ensures (λ line p. (line.most, p.most))

pub returns-in_err-jid : goal.returns-in_err-jid
returns-in_err-jid c = passed _ _ c.from_residual-in_err-jid.ensures.1 c.in_err-jid.ensures (λ line p. (line.jid, p.jid))

pub returns-in_err-count : goal.returns-in_err-count
returns-in_err-count c = passed _ _ c.from_residual-in_err-count.ensures.1 c.in_err-count.ensures (λ line p. (line.count, p.count))
