-- What contracts see of a connection over TCP.
use Rattle.std.specs.Prelude.{ℕ}

pub record ConnFaults : Type 0 where
  -- how many reads have failed
  pub reads : ℕ
  -- how many writes have failed
  pub writes : ℕ
