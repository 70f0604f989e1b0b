use Rattle.std.proofs.Common.{◌≡◌, ◌++◌, map}
use Rattle.std.specs.List.{flat_map}
use Rattle.std.specs.Vec.Iter.{into_iter_items}
use Rattle.sk_drill.proofs.crew.join_stories.Given as goal

abbrev pub invariant-loop-lane : goal.invariant-loop-lane
invariant-loop-lane l =
    l.stories.items ++ flat_map (λ lane. lane) (map (λ lane. lane.items) (into_iter_items l.lane-iterator))
    ≡ l.initial.stories.items ++ flat_map (λ lane. lane) (map (λ lane. lane.items) l.fn.lanes.items)
