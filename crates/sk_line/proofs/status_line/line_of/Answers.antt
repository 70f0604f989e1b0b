use Rattle.sk_line.proofs.Reading.{passed}
use Rattle.sk_line.proofs.status_line.line_of.Goals as goal

pub returns-in_err-address : goal.returns-in_err-address
returns-in_err-address c = passed _ _ c.from_residual.ensures.1 c.in_err-address.ensures (λ line p. (line.address, p.address))
