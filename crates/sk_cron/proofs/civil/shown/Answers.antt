-- All casts and products fit.
use Rattle.std.proofs.Common.{arith, FitsSigned, w32, w64, ◌∙◌, ◌≡◌, ◌<◌, ◌^◌, ℤ, pos, ◌+ℤ◌, ◌*ℤ◌, ℕ}
use Rattle.std.proofs.lemmas.Int.{to_z-of_z, to_z_pos}
use Rattle.jiff.specs.Words.{nanos_of_seconds}
use Rattle.jiff.proofs.SpanFacts.{signed_arith}
use Rattle.sk_cron.proofs.civil.shown.Goals as goal

sums : (t s : ℤ) (n : ℕ) (o : ℤ) → t ≡ pos n *ℤ pos 1_000_000 → s ≡ o *ℤ pos 60 → (t +ℤ nanos_of_seconds s) ≡ ((pos n +ℤ o *ℤ pos 60000) *ℤ pos 1_000_000)
sums t s n o a b = rw (a, b) (omega (arith, signed_arith))

pub returns : goal.returns
returns c =
    let early : c.args.moment < 2 ^ 63 = omega (arith, c.requires.moment) in
    let fo : FitsSigned w32 (c.args.offset) = c.ranges.offset in
    let f60 : FitsSigned w32 (c.args.offset *ℤ pos 60) = omega (arith, signed_arith, c.requires.offset) in
    let at = simp (to_z_pos, c.unwrap-at.ensures) at c.from_millisecond.ensures.value in
    let off = simp (to_z-of_z, c.unwrap.ensures) at c.from_seconds.ensures.value in
    c.to_datetime.ensures ∙ sums _ _ c.args.moment c.args.offset at off
