use Rattle.std.proofs.Common.{◌≡◌, ◌≤◌, length, take}
use Rattle.sk_table.specs.Counts.{counted, rewound}
use Rattle.sk_table.specs.CountsInvariant.{AreThere}
use Rattle.sk_table.proofs.count_table.rewind.Given as goal

abbrev pub invariant-loop-left : goal.invariant-loop-left
invariant-loop-left g l = (l.left ≤ length l.log.items) × (rewound g.K.TextKey.text (take l.left l.log.items) (counted l.table) ≡ rewound g.K.TextKey.text l.log.items (counted l.initial.table)) × AreThere g.K.TextKey.text l.log.items l.table

abbrev pub decreases-loop-left : goal.decreases-loop-left
decreases-loop-left g l = l.left
