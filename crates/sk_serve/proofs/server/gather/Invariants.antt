use Rattle.std.proofs.Common.{◌≡◌, ◌≤◌, ◌+◌, ◌*◌, ◌++◌, ℕ}
use Rattle.std.specs.Prelude.{All, map, reverse, vec_len, vec_capacity}
use Rattle.std.specs.List.{sum_by}
use Rattle.sk_serve.proofs.server.gather.Given as goal

abbrev pub invariant-loop-it : goal.invariant-loop-it
invariant-loop-it g l = record {
  parts : (n : ℕ) → All (λ it. it.numbers ≡ n) l.fn.loops.items → All (λ it. it.numbers ≡ n) l.loops.items × (l.pass.parts + 2 * (n * vec_len l.loops) ≡ l.fn.pass.parts + 2 * (n * vec_len l.fn.loops));
  few : l.sessions + 4294967295 * vec_len l.loops ≤ 4294967295 * 64;
  sessions : l.sessions + sum_by (λ it. it.served) l.loops.items ≡ sum_by (λ it. it.served) l.fn.loops.items;
  amount : l.pass.amount + sum_by (λ it. it.pass.amount) l.loops.items ≡ l.fn.pass.amount + sum_by (λ it. it.pass.amount) l.fn.loops.items;
  ears : l.ears.items ++ reverse (map (λ it. it.ear) l.loops.items) ≡ reverse (map (λ it. it.ear) l.fn.loops.items);
  room : vec_len l.ears + vec_len l.loops ≤ vec_capacity l.ears;
}

abbrev pub decreases-loop-it : goal.decreases-loop-it
decreases-loop-it g l = vec_len l.loops
