use Rattle.std.proofs.Common.{sym, subst}
use Rattle.std.specs.Map.{values_of}
use Rattle.sk_seats.specs.JobFilter.{CountsHands}
use Rattle.sk_seats.proofs.Counting.{counted_anew}
use Rattle.sk_seats.proofs.seats.Seats.make_room.Goals as goal

pub invariant_of-self : goal.invariant_of-self
invariant_of-self c =
    let phases = values_of c.self.inside.phases.entries in
    record {
      ordered = c.self.invariant.ordered;
      plain = c.self.invariant.plain;
      counted = subst (λ counts. CountsHands counts phases) (sym c.in_ok-self-inside.ensures) (counted_anew phases c.saturating_mul.result);
    }
