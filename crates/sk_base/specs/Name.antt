-- Names of queues, jobs, batches and processes.
use Rattle.std.specs.Prelude.{◌≢◌, ◌<◌, ◌≤◌, ◌==◌, ◌&&◌, not, nat_le, nat_lt, ℕ, Bool, List, length, All}
use Rattle.std.specs.List.{list_all}
use Rattle.std.specs.Str.{IsUtf8, is_utf8}

-- UTF-8 text of at least one byte and at most so many, without the characters U+0000 to U+001F and U+007F
pub record IsName (most : ℕ) (text : List ℕ) : Type 0 where
  pub some : 0 < length text
  pub fits : length text ≤ most
  pub utf8 : IsUtf8 text
  pub visible : All (λ b. (32 ≤ b) × (b ≢ 127)) text

-- ## The same, as a test

-- no control character of ASCII
abbrev pub is_visible : ℕ → Bool
is_visible b = nat_le 32 b && not (b == 127)

abbrev pub is_name : ℕ → List ℕ → Bool
is_name most text = nat_lt 0 (length text) && nat_le (length text) most && is_utf8 text && list_all is_visible text
