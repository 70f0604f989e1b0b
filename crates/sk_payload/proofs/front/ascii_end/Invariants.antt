use Rattle.std.proofs.Common.{◌≡◌, ◌<◌, ◌≤◌, ◌-◌, ℕ, length, get_or, true}
use Rattle.sk_payload.specs.Usual.{is_plain_ascii}
use Rattle.sk_payload.proofs.front.ascii_end.Given as goal

abbrev pub invariant-loop-at : goal.invariant-loop-at
invariant-loop-at l = (1 ≤ l.at) × (l.at ≤ length l.input) × ((k : ℕ) → 1 ≤ k → k < l.at → is_plain_ascii (get_or l.input k 0) ≡ true)

abbrev pub decreases-loop-at : goal.decreases-loop-at
decreases-loop-at l = length l.input - l.at
