use Rattle.std.proofs.Common.{◌≢◌, ◌-◌, ◌≤◌, take, length}
use Rattle.std.specs.List.{AllByRecursion}
use Rattle.sk_resp.specs.Spelling.{cr, lf}
use Rattle.sk_resp.proofs.reply.text.plain_front.Given as goal

abbrev pub invariant-loop-at : goal.invariant-loop-at
invariant-loop-at l = record {
  fits : l.at ≤ length l.input;
  most : l.at ≤ l.most;
  plain : AllByRecursion (λ b. (b ≢ cr) × (b ≢ lf)) (take l.at l.input);
}

abbrev pub decreases-loop-at : goal.decreases-loop-at
decreases-loop-at l = length l.input - l.at
