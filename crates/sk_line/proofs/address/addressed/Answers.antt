use Rattle.sk_line.proofs.address.addressed.Goals as goal

pub returns : goal.returns
returns c = λ app h. c.with_default.ensures _ (c.with_default-options.ensures app h)
