use Rattle.std.proofs.Common.{◌≡◌, ◌+◌, ◌*◌, All, vec_len}
use Rattle.sk_row_calls.proofs.calls.pushers.gather.Given as goal

abbrev pub invariant-loop-pusher : goal.invariant-loop-pusher
invariant-loop-pusher g l = record {
  parts : l.pass.parts + 2 * vec_len l.pushers ≡ l.fn.pass.parts + 2 * vec_len l.fn.pushers;
  two_each : All (λ it. it.pass.parts ≡ 2) l.pushers.items;
}

abbrev pub decreases-loop-pusher : goal.decreases-loop-pusher
decreases-loop-pusher g l = vec_len l.pushers
