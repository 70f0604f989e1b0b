use Rattle.std.proofs.Common.{◌≡◌, arith, Bool, true, false, cond}
use Rattle.sk_leases.proofs.expiries.add_expiry.Goals as goal

stays : (was more at : Bool) → more ≡ cond at true was → was ≡ true → more ≡ true
stays was more true e h = e
stays was more false e h = grind (arith, e, h)

pub returns-clause-more : goal.returns-clause-more
returns-clause-more c = λ p had. stays _ _ _ (c.in_ok-insert.ensures.updates.0 (p.1, p.0)) had
