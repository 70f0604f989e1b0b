-- What a limiter may be.
use Rattle.std.specs.Prelude.{ℕ, Bool, ◌&&◌, nat_le}
use Rattle.sk_base.specs.Name.{is_name}
use Rattle.sk_resp.specs.Spelling.{Bytes}
use Rattle.sk_limit.specs.declared.limits.TheConstants.{LONGEST_HOLD, LONGEST_LIMITER, MOST_SLOTS}

-- a name of at most 100 bytes, a number from 1 to 1,000, and from 1 to 1,000,000,000 milliseconds
abbrev pub is_limiter : Bytes → ℕ → ℕ → Bool
is_limiter name most millis = is_name LONGEST_LIMITER name && (nat_le 1 most && nat_le most MOST_SLOTS) && (nat_le 1 millis && nat_le millis LONGEST_HOLD)
