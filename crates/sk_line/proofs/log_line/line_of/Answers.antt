use Rattle.sk_line.proofs.Reading.{passed}
use Rattle.sk_line.proofs.log_line.line_of.Goals as goal

pub returns-in_err-path : goal.returns-in_err-path
returns-in_err-path c = passed _ _ c.from_residual.ensures.1 c.in_err-path.ensures (λ line p. (line.path, p.path))
