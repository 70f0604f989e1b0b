use Rattle.std.proofs.Common.{◌≡◌, ◌≤◌, ℕ, arith, false}
use Rattle.std.specs.Ordering.{nat_cmp, ordering_then, is_gt}
use Rattle.std.specs.declared.cmp.Ordering.{Ordering}
use Rattle.sk_leases.proofs.expiries.has_expired.Goals as goal

first_below : (a d : ℕ) (o : Ordering) → is_gt (ordering_then (nat_cmp a d) o) ≡ false → a ≤ d
first_below a d o h = grind (arith, h)

pub returns-in-Some-clause-clear : goal.returns-in-Some-clause-clear
returns-in-Some-clause-clear c = λ ahead moment name has. grind (arith, ahead, first_below c.in-Some.field-0.now.0 moment _ (c.in-Some.ensures.least (moment, name) has))
