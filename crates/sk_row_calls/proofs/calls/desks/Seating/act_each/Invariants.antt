use Rattle.std.proofs.Common.{◌≡◌, ◌+◌, vec_len}
use Rattle.sk_row_calls.proofs.calls.desks.Seating.act_each.Given as goal

abbrev pub invariant-loop-line : goal.invariant-loop-line
invariant-loop-line g l = l.self.pass.parts + vec_len l.self.desks ≡ l.fn.self.pass.parts + vec_len l.fn.self.desks
