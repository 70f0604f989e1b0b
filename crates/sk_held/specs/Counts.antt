-- How a settler counts what it stored.
use Rattle.std.specs.Prelude.{◌≡◌, ◌≤◌, ℕ, Result, OnOk, OnErr}
use Rattle.sk_base.specs.Outside.{Rose}

-- The count rose where the result is Ok, and nowhere else.
pub record CountsOks {T E : Type 0} (before now : ℕ) (result : Result T E) : Type 0 where
  pub later : before ≤ now
  pub rose : OnOk result (Rose before now)
  pub same : OnErr result (now ≡ before)

-- It has settled since the count was this, and what it then found stored is stored.
pub record HasSettled (count settled : ℕ) (Stored : Type 0) : Type 0 where
  pub rose : Rose count settled
  pub stored : Stored
