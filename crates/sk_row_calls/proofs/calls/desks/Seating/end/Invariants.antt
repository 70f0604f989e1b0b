use Rattle.std.proofs.Common.{◌≡◌, ◌+◌, vec_len}
use Rattle.sk_row_calls.proofs.calls.desks.Seating.end.Given as goal

abbrev pub invariant-loop-desks : goal.invariant-loop-desks
invariant-loop-desks g l = l.pass.parts + vec_len l.desks ≡ l.fn.self.pass.parts + vec_len l.fn.self.desks

abbrev pub decreases-loop-desks : goal.decreases-loop-desks
decreases-loop-desks g l = vec_len l.desks
