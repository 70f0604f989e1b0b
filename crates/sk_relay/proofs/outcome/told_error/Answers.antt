use Rattle.std.proofs.Common.{◌∙◌, arith}
use Rattle.std.proofs.lemmas.Result.{IfOk-weaker}
use Rattle.sk_relay.proofs.Errors.{alone, parted}
use Rattle.sk_relay.proofs.outcome.told_error.Goals as goal

pub returns-in-Some : goal.returns-in-Some
returns-in-Some c =
    let parts = c.in-Some.ensures.byte (omega arith) (λ w o h. h) in
    IfOk-weaker c.raised.result _ _ (λ o is. is ∙ parted c.args.text.now _ _ parts.0 parts.1) c.raised.ensures

pub returns-in-None : goal.returns-in-None
returns-in-None c = IfOk-weaker c.raised-in-None.result _ _ (λ o is. is ∙ alone c.args.text.now (c.in-None.ensures.byte (omega arith) (λ w o h. h))) c.raised-in-None.ensures
