use Rattle.sk_line.proofs.Reading.{passed}
use Rattle.sk_line.proofs.address.address_of.Goals as goal

pub returns-in_err-port : goal.returns-in_err-port
returns-in_err-port c = passed _ _ c.from_residual.ensures.1 c.in_err-port.ensures (λ line p. (line.port, p.port))

pub returns-in_err-host : goal.returns-in_err-host
returns-in_err-host c = passed _ _ c.from_residual-in_err-host.ensures.1 c.in_err-host.ensures (λ line p. (line.host, p.host))
