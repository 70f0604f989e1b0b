use Rattle.std.proofs.Common.{◌≡◌, ◌≤◌, ◌+◌, ◌-◌, length, drop}
use Rattle.std.specs.List.{position_or_len}
use Rattle.sk_table.specs.Slots.{has_text}
use Rattle.sk_table.proofs.bucket.Bucket.place_of.Given as goal

abbrev pub invariant-loop-at : goal.invariant-loop-at
invariant-loop-at g l = (l.at ≤ length l.self) × (position_or_len (has_text g.K.TextKey.text l.text) l.self ≡ l.at + position_or_len (has_text g.K.TextKey.text l.text) (drop l.at l.self))

abbrev pub decreases-loop-at : goal.decreases-loop-at
decreases-loop-at g l = length l.self - l.at
