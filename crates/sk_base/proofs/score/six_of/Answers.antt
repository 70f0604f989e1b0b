use Rattle.std.proofs.Common.{ap, ◌∙◌, ◌++◌, take, drop}
use Rattle.sk_base.proofs.Digits.{six_is, zeros}
use Rattle.sk_base.proofs.score.six_of.Goals as goal

pub returns : goal.returns
returns c =
    let ds = c.args.decimals.now in
    ap (λ z. z ++ drop c.min-n.result zeros) c.copy_from_slice.ensures.after ∙ ap (λ n. take n ds ++ drop n zeros) c.min-n.ensures ∙ six_is ds
