-- The offsets from UTC that a clock may have.
use Rattle.std.specs.Prelude.{ℤ, neg_ℤ}
use Rattle.jiff.specs.Words.{IsBetween}
use Rattle.sk_base.specs.declared.limits.TheConstants.{OFFSET_UTC}

-- minutes ahead of UTC, or behind it where they are below 0: less than a day
abbrev pub IsOffset : ℤ → Type 0
IsOffset offset = IsBetween (neg_ℤ OFFSET_UTC) OFFSET_UTC offset
