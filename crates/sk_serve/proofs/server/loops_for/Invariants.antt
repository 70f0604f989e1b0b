use Rattle.std.proofs.Common.{◌≡◌, ◌+◌, ◌*◌, ◌++◌}
use Rattle.std.specs.Prelude.{All, map, reverse, vec_len, vec_capacity}
use Rattle.sk_serve.specs.Server.{IsFresh}
use Rattle.sk_serve.proofs.server.loops_for.Given as goal

abbrev pub invariant-loop-ear : goal.invariant-loop-ear
invariant-loop-ear g l = record {
  left : l.pass.count + l.numbers * vec_len l.loops ≡ l.fn.pass.count;
  parts : l.pass.parts + 2 * (l.numbers * vec_len l.loops) ≡ l.fn.pass.parts;
  amount : l.pass.amount ≡ l.fn.pass.amount;
  fresh : All (IsFresh l.numbers) l.loops.items;
  len : vec_len l.loops + vec_len l.ears ≡ vec_len l.fn.ears;
  ears : map (λ it. it.ear) l.loops.items ++ reverse l.ears.items ≡ reverse l.fn.ears.items;
  room : vec_capacity l.loops ≡ vec_capacity l.fn.loops;
  emptied : vec_capacity l.ears ≡ vec_capacity l.fn.ears;
}

abbrev pub decreases-loop-ear : goal.decreases-loop-ear
decreases-loop-ear g l = vec_len l.ears
