use Rattle.std.proofs.Common.{◌≡◌, ◌+◌, ◌-◌, ◌<◌, ◌≤◌, drop, take}
use Rattle.std.specs.List.{position_or_len}
use Rattle.sk_deques.proofs.deque.Deque.position_in.Given as goal

abbrev pub invariant-loop-at : goal.invariant-loop-at
invariant-loop-at g l = record {
  order : l.at ≤ l.end;
  same : l.at + position_or_len (g.F.Predicate.passes l.test) (drop l.at (take l.end l.self.items)) ≡ l.first + position_or_len (g.F.Predicate.passes l.test) (drop l.first (take l.end l.self.items));
}

abbrev pub decreases-loop-at : goal.decreases-loop-at
decreases-loop-at g l = l.stop - l.at

abbrev pub invariant-loop-at-2 : goal.invariant-loop-at-2
invariant-loop-at-2 g l = record {
  order : l.at ≤ l.end;
  turned : l.at < l.end → l.turn ≤ l.at;
  same : l.at + position_or_len (g.F.Predicate.passes l.test) (drop l.at (take l.end l.self.items)) ≡ l.first + position_or_len (g.F.Predicate.passes l.test) (drop l.first (take l.end l.self.items));
}

abbrev pub decreases-loop-at-2 : goal.decreases-loop-at-2
decreases-loop-at-2 g l = l.end - l.at
