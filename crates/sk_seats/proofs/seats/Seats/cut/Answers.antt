use Rattle.sk_seats.proofs.Counting.{cut_counted}
use Rattle.sk_seats.proofs.seats.Seats.cut.Goals as goal

pub invariant_of-self : goal.invariant_of-self
invariant_of-self c =
    let counted = cut_counted c.args.seat c.self.inside.phases.entries c.self.inside.in_hands c.self.invariant.counted in
    record {
      ordered = c.remove.ensures.ordered;
      plain = c.self.invariant.plain;
      counted = rw (c.count_out.ensures, c.get.ensures.value, c.remove.ensures.entries) counted;
    }
