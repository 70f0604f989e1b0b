use Rattle.std.proofs.Common.{◌≡◌, ◌≤◌, ◌+◌, ◌++◌, length, vec_capacity, vec_len}
use Rattle.sk_drill.proofs.crew.return_teams.Given as goal

abbrev pub invariant-loop-team : goal.invariant-loop-team
invariant-loop-team g l = record {
  back : l.back.items ++ l.left.items ≡ l.fn.back.items ++ l.fn.left.items;
  room : vec_len l.back + length l.left.items ≤ vec_capacity l.back;
}

abbrev pub decreases-loop-team : goal.decreases-loop-team
decreases-loop-team g l = length l.left.items
