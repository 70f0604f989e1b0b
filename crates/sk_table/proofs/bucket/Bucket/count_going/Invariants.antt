use Rattle.std.proofs.Common.{◌≡◌, ◌≤◌, filter, length, take}
use Rattle.sk_table.specs.Slots.{goes_to}
use Rattle.sk_table.proofs.bucket.Bucket.count_going.Given as goal

abbrev pub invariant-loop-slot : goal.invariant-loop-slot
invariant-loop-slot g l = (l.going ≡ length (filter (goes_to l.half l.address) (take l.slot-index l.self))) × (l.going ≤ l.slot-index)
