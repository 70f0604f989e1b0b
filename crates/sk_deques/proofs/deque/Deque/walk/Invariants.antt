use Rattle.std.proofs.Common.{◌≡◌, ◌++◌, ◌-◌, ◌≤◌, drop, map, take}
use Rattle.sk_deques.proofs.deque.Deque.walk.Given as goal

abbrev pub invariant-loop-at : goal.invariant-loop-at
invariant-loop-at g l = g.V.Visit.visited l.visit ++ map (g.V.Visit.output) (drop l.at (take l.end l.self.items)) ≡ g.V.Visit.visited l.initial.visit ++ map (g.V.Visit.output) (drop l.first (take l.end l.self.items))

abbrev pub decreases-loop-at : goal.decreases-loop-at
decreases-loop-at g l = l.stop - l.at
