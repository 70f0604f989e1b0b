use Rattle.std.proofs.Common.{◌≡◌, ◌≤◌, ◌+◌, ◌++◌, not, filter, length}
use Rattle.sk_table.specs.Slots.{goes_to}
use Rattle.sk_table.proofs.bucket.Bucket.part.Given as goal

abbrev pub invariant-loop-slot : goal.invariant-loop-slot
invariant-loop-slot g l = (l.far.items ≡ filter (goes_to l.half l.address) l.yielded) × (l.near.items ≡ filter (λ slot. not (goes_to l.half l.address slot)) l.yielded)
    × (l.far.len + length (filter (goes_to l.half l.address) l.slot-iterator.rest.items) ≤ l.far.cap) × (l.near.len + length (filter (λ slot. not (goes_to l.half l.address slot)) l.slot-iterator.rest.items) ≤ l.near.cap)
    × (l.fn.self ≡ l.yielded ++ l.slot-iterator.rest.items)
