use Rattle.std.proofs.Common.{length, ◌-◌, ◌≤◌, take}
use Rattle.sk_base.specs.Score.{IsDigits}
use Rattle.sk_base.proofs.score.front_digits.Given as goal

abbrev pub invariant-loop-n : goal.invariant-loop-n
invariant-loop-n l = record {
  within : l.n ≤ length l.text;
  digits : IsDigits (take l.n l.text);
}

abbrev pub decreases-loop-n : goal.decreases-loop-n
decreases-loop-n l = length l.text - l.n
