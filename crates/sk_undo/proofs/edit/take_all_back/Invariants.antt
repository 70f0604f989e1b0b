use Rattle.std.proofs.Common.{◌≡◌, vec_len}
use Rattle.sk_undo.specs.Edits.{before, AllFit}
use Rattle.sk_undo.proofs.edit.take_all_back.Given as goal

abbrev pub invariant-edits : goal.invariant-edits
invariant-edits g l = (AllFit l.log.items l.entries) × (before l.log.items l.entries ≡ before l.initial.log.items l.initial.entries)

abbrev pub decreases-edits : goal.decreases-edits
decreases-edits g l = vec_len l.log
