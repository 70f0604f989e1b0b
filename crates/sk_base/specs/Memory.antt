-- What contracts see of a source and a sink in memory that can fail.
use Rattle.std.specs.Prelude.{ℕ, List}

pub record Fed : Type 0 where
  -- the bytes that were not read yet
  pub left : List ℕ
  -- how many reads have failed
  pub faults : ℕ

pub record Taken : Type 0 where
  -- the bytes that were taken
  pub bytes : List ℕ
  -- how many writes have failed
  pub faults : ℕ

-- a connection in memory: where it reads, and where it writes
pub record Ends : Type 0 where
  pub feed : Fed
  pub tray : Taken
