-- Bytes that are given to the reader of replies up to an LF. No public contract speaks of them.
use Rattle.std.specs.Prelude.{◌≢◌, ◌+◌, ◌<◌, ℕ, length, get_or}
use Rattle.sk_resp.specs.Spelling.{Bytes, lf}

-- An LF stands at the end alone, if at all.
pub record IsLine (line : Bytes) : Type 0 where
  pub plain : (k : ℕ) → k + 1 < length line → get_or line k 0 ≢ lf
