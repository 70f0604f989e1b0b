use Rattle.std.proofs.Common.{◌≡◌, ◌≤◌, length, take}
use Rattle.sk_leases.specs.Lists.{names_of, standing}
use Rattle.sk_leases.proofs.deadlines.standing_len.Given as goal

abbrev pub invariant-loop-at : goal.invariant-loop-at
invariant-loop-at l = (l.len ≡ length (names_of (standing l.now (take l.at l.entries.list.current)))) × (l.len ≤ l.at)
