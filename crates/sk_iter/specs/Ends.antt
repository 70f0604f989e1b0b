-- Where a call of `iterate` stops.
use Rattle.std.specs.Prelude.{◌≡◌, ◌≤◌, ◌<◌, ◌+◌, ℕ}
use Rattle.sk_iter.specs.declared.call.Bounds.{Bounds}
use Rattle.sk_iter.specs.declared.iter_end.IterEnd.{IterEnd}
use Rattle.sk_iter.specs.declared.iter_end.IterEnd.TheVariants.{Done, Paused, Raised}

-- It stops so once `n` items from the cursor on have returned: at the length; else behind `most` items; or at the next item, which raises.
abbrev pub StopsAt : Bounds → ℕ → ℕ → IterEnd → Type 0
StopsAt b cursor n Done = (cursor + n ≡ b.len) × (n ≤ b.most)
StopsAt b cursor n (Paused next) = (next ≡ cursor + n) × (next < b.len) × (n ≡ b.most)
StopsAt b cursor n (Raised index it) = (index ≡ cursor + n) × (index < b.len) × (n < b.most)
