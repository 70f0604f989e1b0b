use Rattle.std.proofs.Common.{◌≡◌, length}
use Rattle.sk_table.specs.Counts.{counted}
use Rattle.sk_table.proofs.count_table.clean.Given as goal

abbrev pub invariant-edits : goal.invariant-edits
invariant-edits g l = counted l.table ≡ counted l.initial.table

abbrev pub decreases-edits : goal.decreases-edits
decreases-edits g l = length l.log.items
