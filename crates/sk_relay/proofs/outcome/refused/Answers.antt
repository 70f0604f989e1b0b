use Rattle.std.proofs.Common.{rules, ◌≡◌, ◌∙◌, ap, sym}
use Rattle.std.proofs.lemmas.Result.{IfOk-weaker}
use Rattle.sk_resp.specs.declared.reply.Reply.TheVariants as reply
use Rattle.sk_relay.specs.Relaying.{refused as refused_by, told_error as error_told}
use Rattle.sk_relay.proofs.Errors.{bad_error, good_error}
use Rattle.sk_relay.proofs.outcome.refused.Goals as goal

pub returns-in_default-from_utf8 : goal.returns-in_default-from_utf8
returns-in_default-from_utf8 c =
    let text : c.args.reply.now ≡ reply.Error c.bytes.result.now = search rules in
    IfOk-weaker c.bad_reply-in_default-from_utf8.result _ _ (λ o is. is ∙ sym (ap refused_by text ∙ bad_error _ c.in_default-from_utf8.ensures.cases.0))
    c.bad_reply-in_default-from_utf8.ensures

pub returns : goal.returns
returns c =
    let text : c.args.reply.now ≡ reply.Error c.bytes.result.now = search rules in
    let same = c.in-Ok.ensures.cases in
    IfOk-weaker c.told_error.result _ _ (λ o is. is ∙ sym (ap refused_by text ∙ good_error _ same.1 ∙ ap error_told (sym same.0))) c.told_error.ensures
