-- The words of a dice over a generator.
use Rattle.std.specs.Prelude.{ℕ, ◌+◌, ◌*◌, ◌^◌}
use Rattle.rand_pcg.specs.Lcg.{Lcg}
use Rattle.rand_pcg.specs.Pcg.{pcg32}

-- a word of 64 bits from two draws of 32, the first as the high half; and the generator after them
abbrev pub draw : Lcg → ℕ × Lcg
draw g =
    let high = pcg32 g in
    let low = pcg32 high.1 in
    (high.0 * 2 ^ 32 + low.0, low.1)
