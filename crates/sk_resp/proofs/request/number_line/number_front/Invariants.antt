use Rattle.std.proofs.Common.{◌≤◌, ◌-◌, length}
use Rattle.sk_resp.proofs.request.number_line.number_front.Given as goal

abbrev pub invariant-loop-at : goal.invariant-loop-at
invariant-loop-at l = (1 ≤ l.at) × (l.at ≤ length l.input)

abbrev pub decreases-loop-at : goal.decreases-loop-at
decreases-loop-at l = length l.input - l.at
