-- Keys that a command deleted.
use Rattle.std.specs.Prelude.{◌≡◌, ℕ}
use Rattle.sk_model.specs.Change.{perform}
use Rattle.sk_model.specs.Deletes.{Deleted}
use Rattle.sk_model.specs.World.{World}

-- So many of the keys were there, and what takes them away led from the old world to the new one.
pub record Deletes (old : World) (keys : Deleted) (count : ℕ) (new : World) : Type 0 where
  pub count_is : count ≡ keys.count
  pub new_is : new ≡ perform old keys.changes
