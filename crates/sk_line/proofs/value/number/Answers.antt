use Rattle.std.proofs.Common.{◌^◌, ◌<◌, arith, subst, sym, ℕ}
use Rattle.std.specs.Prelude.{MatchOption}
use Rattle.sk_resp.specs.Number.{IsInt}
use Rattle.sk_line.specs.Values.{IsNumber}
use Rattle.sk_line.proofs.Numbers.{number_read}
use Rattle.sk_line.proofs.value.number.Goals as goal

pub returns : goal.returns
returns c =
    let small : c.args.most < 2 ^ 63 = omega (arith, c.ranges.most) in
    let is : IsInt c.args.text.now c.read_int.result = subst (λ t. IsInt t c.read_int.result) c.as_bytes.ensures.value c.read_int.ensures in
    subst (λ o. MatchOption o ((value : ℕ) → IsNumber c.args.least c.args.most c.args.text.now value → ⊥) (IsNumber c.args.least c.args.most c.args.text.now))
    (sym c.within.ensures) (number_read _ _ _ _ small is)
