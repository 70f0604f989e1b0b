use Rattle.std.proofs.Common.{refl}
use Rattle.sk_serve.proofs.sitting.SittingTalker.answer.Goals as goal

pub returns : goal.returns
returns g c = (c.answer_at.ensures.does, refl, refl)
