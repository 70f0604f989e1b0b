use Rattle.sk_line.proofs.Reading.{passed}
use Rattle.sk_line.proofs.work_line.offset_of.Goals as goal

pub returns-in_err-minutes : goal.returns-in_err-minutes
returns-in_err-minutes c = passed _ _ c.from_residual.ensures.1 c.in_err-minutes.ensures (λ z p. (p.2.minutes, (p.0, p.1, p.2.is)))
