use Rattle.std.proofs.Common.{◌≡◌, take}
use Rattle.sk_leases.specs.Lists.{names_of, standing}
use Rattle.sk_leases.proofs.deadlines.standing_names.Given as goal

abbrev pub invariant-loop-at : goal.invariant-loop-at
invariant-loop-at l = l.names.items ≡ names_of (standing l.now (take l.at l.entries.list.current))
