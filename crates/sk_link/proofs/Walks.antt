-- How walks go on.
use Rattle.std.proofs.Common.{List, [], ◌∷◌, ◌++◌, subst}
use Rattle.sk_link.specs.Walk.{Walk}

pub walk-append : {S E : Type 0} (Step : S → E → S → Type 0) (from mid to : S) (xs ys : List E) → Walk Step from xs mid → Walk Step mid ys to → Walk Step from (xs ++ ys) to
walk-append Step from mid to [] ys p q = subst (λ s. Walk Step s ys to) p q
walk-append Step from mid to (x ∷ xs) ys p q = (p.0, p.1, walk-append Step p.0 mid to xs ys p.2 q)
