use Rattle.std.proofs.Common.{◌≡◌, ◌+◌, ◌*◌, ◌-◌, ◌≤◌, All, vec_len, vec_capacity}
use Rattle.sk_row_calls.proofs.calls.pushers.pushers.Given as goal

abbrev pub invariant-loop-pushers : goal.invariant-loop-pushers
invariant-loop-pushers g l = record {
  count : l.pass.count + vec_len l.pushers ≡ l.fn.pass.count;
  parts : l.pass.parts + 2 * vec_len l.pushers ≡ l.fn.pass.parts;
  two_each : All (λ it. it.pass.parts ≡ 2) l.pushers.items;
  few : vec_len l.pushers ≤ l.threads;
  room : l.threads ≤ vec_capacity l.pushers;
}

abbrev pub decreases-loop-pushers : goal.decreases-loop-pushers
decreases-loop-pushers g l = l.threads - vec_len l.pushers
