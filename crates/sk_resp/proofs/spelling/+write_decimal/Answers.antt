use Rattle.std.proofs.Common.{◌≡◌, ◌∙◌, ◌++◌, ◌∷◌, [], ◌+◌, ◌/◌, ◌%◌, ap, append_assoc, arith, sym}
use Rattle.std.proofs.lemmas.Fmt.{decimal_step}
use Rattle.std.specs.Fmt.{decimal}
use Rattle.sk_resp.proofs.spelling.+write_decimal.Goals as goal

pub returns : goal.returns
returns t c =
    let n = c.args.n in
    let old = c.args.out.now.items in
    c.in_ok-push-2.ensures.items ∙ ap (λ front. front ++ (48 + n % 10) ∷ []) c.in_ok-write_decimal.ensures
    ∙ append_assoc old (decimal (n / 10)) ((48 + n % 10) ∷ [])
    ∙ ap (λ digits. old ++ digits) (sym (decimal_step n (omega (arith, c.if-n-lt10.false)) (omega (arith, c.ranges.n.fits))))
