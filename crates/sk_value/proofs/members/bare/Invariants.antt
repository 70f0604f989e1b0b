use Rattle.std.proofs.Common.{◌≡◌, ◌++◌}
use Rattle.std.specs.Map.{keys_of}
use Rattle.std.specs.Vec.Iter.{into_iter_items}
use Rattle.sk_value.proofs.members.bare.Given as goal

abbrev pub invariant-loop-text : goal.invariant-loop-text
invariant-loop-text l = keys_of l.pairs.items ++ into_iter_items l.text-iterator ≡ l.fn.texts
