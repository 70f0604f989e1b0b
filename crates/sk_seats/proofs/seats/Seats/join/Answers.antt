use Rattle.sk_seats.proofs.Counting.{joined_counted}
use Rattle.sk_seats.proofs.seats.Seats.join.Goals as goal

pub invariant_of-self-2 : goal.invariant_of-self-2
invariant_of-self-2 c =
    let counted = joined_counted c.args.seat c.self.inside.phases.entries c.args.ident c.self.inside.in_hands c.self.invariant.ordered c.self.invariant.counted in
    record {
      ordered = c.in_ok-before.ensures.ordered;
      plain = c.self.invariant.plain;
      counted = rw (c.count_out.ensures, c.as_ref.ensures.value, c.in_ok-before.ensures.old, c.in_ok-before.ensures.entries, c.in_ok-works.ensures) counted;
    }
