-- The generators that a launcher starts for its poller and its workers, each by two words of the process's dice.
use Rattle.std.specs.Prelude.{◌≡◌, ℕ, List, [], ◌∷◌, Option}
use Rattle.rand_pcg.specs.Lcg.{Lcg, increment_of, started}
use Rattle.rand_pcg.specs.Pcg.{multiplier_64}
use Rattle.sk_base.specs.Yields.{YieldsAll}
use Rattle.sk_launcher.specs.Connections.{Each}

-- The dice gave two words, and the generator was started by them: the first says where it starts, and the second which stream it gives.
pub record Seeds (before : Option (ℕ → ℕ)) (own : Lcg) (after : Option (ℕ → ℕ)) : Type 0 where
  pub state : ℕ
  pub stream : ℕ
  pub drawn : YieldsAll before (state ∷ stream ∷ []) after
  pub starts : own ≡ started 64 multiplier_64 state (increment_of 64 stream)

-- The poller's generator was started by the first two words, and those of the workers, in order, by two words each.
pub record SeedsAll (before : Option (ℕ → ℕ)) (own : Lcg) (others : List Lcg) (after : Option (ℕ → ℕ)) : Type 0 where
  pub between : Option (ℕ → ℕ)
  pub poller : Seeds before own between
  pub workers : Each Seeds between others after
