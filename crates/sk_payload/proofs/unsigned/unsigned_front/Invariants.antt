use Rattle.std.proofs.Common.{◌≡◌, ◌≤◌, ◌-◌, length, take}
use Rattle.sk_resp.proofs.Digits.{read_on, AreDigits}
use Rattle.sk_payload.proofs.unsigned.unsigned_front.Given as goal

abbrev pub invariant-loop-at : goal.invariant-loop-at
invariant-loop-at l = (l.at ≤ 18) × (l.at ≤ length l.input) × (l.n ≡ read_on 0 (take l.at l.input)) × AreDigits (take l.at l.input)

abbrev pub decreases-loop-at : goal.decreases-loop-at
decreases-loop-at l = length l.input - l.at
