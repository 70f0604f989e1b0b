use Rattle.std.proofs.Common.{◌≡◌, ◌+◌, ◌≤◌, None, length}
use Rattle.sk_zset.specs.Pairs.{without_ranks}
use Rattle.sk_zset.proofs.zset.ZSet.take_part.Given as goal

abbrev pub invariant-loop-left : goal.invariant-loop-left
invariant-loop-left l = record {
  within : l.first + l.left ≤ length l.self.current;
  closed : l.self.saved ≡ None;
  rest : without_ranks l.first l.left l.self.current ≡ without_ranks l.first l.count l.initial.self.current;
}

abbrev pub decreases-loop-left : goal.decreases-loop-left
decreases-loop-left l = l.left
