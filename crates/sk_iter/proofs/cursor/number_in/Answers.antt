use Rattle.std.proofs.Common.{◌≡◌, ◌∙◌, ◌≤◌, ◌<◌, ◌^◌, ℕ, sym, ap, subst, arith, MatchOption, Option, Some, None, w64, to_z, of_z}
use Rattle.std.proofs.Math.Facts.{to_z-of_z}
use Rattle.std.specs.Fmt.{decimal, signed_decimal}
use Rattle.std.specs.Prelude.{ℤ, pos, negsuc}
use Rattle.sk_resp.proofs.Integers.{signed_same}
use Rattle.sk_resp.specs.Number.{IsI64}
use Rattle.sk_resp.specs.Spelling.{Bytes}
use mir.Val.{SFits}
use Rattle.sk_iter.proofs.cursor.number_in.Goals as goal

fits : (z : ℤ) → IsI64 z → SFits w64 z
fits (pos n) h = record { sfits = h }
fits (negsuc n) h = record { sfits = h }

-- The text spells the integer, which is a number from 0 to `len` or none.
by_integer : (text : Bytes) (len : ℕ) (z : ℤ) (r : Option ℕ) → len < 2 ^ 62 → IsI64 z → text ≡ signed_decimal z →
    MatchOption r ((k : ℕ) → k ≤ len → z ≡ pos k → ⊥) (λ k. (k ≤ len) × (z ≡ pos k)) →
    MatchOption r ((n : ℕ) → n ≤ len → text ≡ decimal n → ⊥) (λ n. (n ≤ len) × (text ≡ decimal n))
by_integer text len z (Some k) few is_fit is h = (h.0, is ∙ ap signed_decimal h.1)
by_integer text len z None few is_fit is h = λ n le e.
    let small : n < 2 ^ 63 = omega (arith, le, few) in h n le (signed_same z (pos n) is_fit small (sym is ∙ e))

pub returns-in-Some : goal.returns-in-Some
returns-in-Some c =
    let z : to_z w64 (of_z w64 c.in-Some.n) ≡ c.in-Some.n = to_z-of_z (fits c.in-Some.n c.in-Some.ensures.0) in
    by_integer c.args.text.now c.args.len c.in-Some.n c.index_of.result c.requires c.in-Some.ensures.0 c.in-Some.ensures.1
    (subst (λ (y : ℤ). MatchOption c.index_of.result ((k : ℕ) → k ≤ c.args.len → y ≡ pos k → ⊥) (λ k. (k ≤ c.args.len) × (y ≡ pos k))) z c.index_of.ensures)

pub returns-in-None : goal.returns-in-None
returns-in-None c = λ n le e. let small : n < 2 ^ 63 = omega (arith, le, c.requires) in c.in-None.ensures (pos n) small e
