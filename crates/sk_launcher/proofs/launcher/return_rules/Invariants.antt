use Rattle.std.proofs.Common.{◌≡◌, ◌+◌, ◌++◌, length, vec_len, vec_capacity}
use Rattle.sk_launcher.proofs.launcher.return_rules.Given as goal

abbrev pub invariant-loop-rule : goal.invariant-loop-rule
invariant-loop-rule g l = record {
  some : vec_len l.rules + length l.left.items ≡ vec_len l.fn.rules + length l.fn.left.items;
  room : vec_capacity l.rules ≡ vec_capacity l.fn.rules;
  rules : l.rules.items ++ l.left.items ≡ l.fn.rules.items ++ l.fn.left.items;
}

abbrev pub decreases-loop-rule : goal.decreases-loop-rule
decreases-loop-rule g l = length l.left.items
