use Rattle.sk_line.proofs.Reading.{passed}
use Rattle.sk_line.proofs.limit_line.line_of.Goals as goal

pub returns-in_err-address : goal.returns-in_err-address
returns-in_err-address c = passed _ _ c.from_residual.ensures.1 c.in_err-address.ensures (λ line p. (line.address, p.address))

pub returns-in_err-kind : goal.returns-in_err-kind
returns-in_err-kind c = passed _ _ c.from_residual-in_err-kind.ensures.1 c.in_err-kind.ensures (λ line p. (line.kind, p.kind))

pub returns-in_err-name : goal.returns-in_err-name
returns-in_err-name c = passed _ _ c.from_residual-in_err-name.ensures.1 c.in_err-name.ensures (λ line p. (line.name, p.name))

pub returns-in_err-most : goal.returns-in_err-most
returns-in_err-most c = passed _ _ c.from_residual-in_err-most.ensures.1 c.in_err-most.ensures (λ line p. (line.most, p.most))

pub returns-in_err-millis : goal.returns-in_err-millis
returns-in_err-millis c = passed _ _ c.from_residual-in_err-millis.ensures.1 c.in_err-millis.ensures (λ line p. (line.millis, p.millis))
