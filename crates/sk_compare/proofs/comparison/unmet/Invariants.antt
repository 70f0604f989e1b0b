use Rattle.std.proofs.Common.{◌<◌, ◌≤◌, ℕ, length}
use Rattle.sk_compare.specs.Alike.{met_at, told_at}
use Rattle.sk_compare.proofs.comparison.unmet.Given as goal

abbrev pub invariant-loop-seat : goal.invariant-loop-seat
invariant-loop-seat l = (s : ℕ) → s < l.seat → length (told_at l.told s) ≤ met_at l.met s
