use Rattle.std.proofs.Common.{◌≡◌}
use Rattle.std.specs.Vec.Iter.{into_iter_items}
use Rattle.sk_value.specs.Sorted.{all_added}
use Rattle.sk_value.proofs.sorted.add_each.Given as goal

-- whatever is left to add comes on top of what was added
abbrev pub invariant-loop-score : goal.invariant-loop-score
invariant-loop-score l = record {
  added : all_added (into_iter_items l.score-iterator) l.set.current ≡ all_added l.fn.pairs.items l.initial.set.current;
  step : l.set.saved ≡ l.initial.set.saved;
}
