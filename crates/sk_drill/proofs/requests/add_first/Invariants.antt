use Rattle.std.proofs.Common.{◌≡◌, ◌++◌, ◌≤◌}
use Rattle.sk_drill.specs.Requests.{first_jobs}
use Rattle.sk_drill.proofs.requests.add_first.Given as goal

abbrev pub invariant-loop-k : goal.invariant-loop-k
invariant-loop-k l = (l.words.items ≡ l.initial.words.items ++ first_jobs l.k) × (l.k ≤ l.count)
