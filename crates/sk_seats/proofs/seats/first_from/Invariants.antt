use Rattle.std.proofs.Common.{◌≡◌}
use Rattle.std.specs.BTreeMap.Range.{entries_between}
use Rattle.std.specs.Ordering.{nat_cmp}
use Rattle.std.specs.declared.ops.Bound.TheVariants.{Unbounded}
use Rattle.sk_seats.specs.Next.{first_joined}
use Rattle.sk_seats.proofs.seats.first_from.Given as goal

-- the seats that are left have the same first one
abbrev pub invariant-loop-seat : goal.invariant-loop-seat
invariant-loop-seat l = first_joined l.seat-iterator ≡ first_joined (entries_between nat_cmp l.fn.start Unbounded l.phases.entries)
