use Rattle.std.proofs.Common.{◌≡◌, ℕ, take}
use Rattle.sk_compare.specs.Alike.{told, told_at}
use Rattle.sk_compare.proofs.told.Told.by.Given as goal

abbrev pub invariant-loop-story : goal.invariant-loop-story
invariant-loop-story l = (s : ℕ) → told_at l.told s ≡ told (take l.story-index l.stories) s
