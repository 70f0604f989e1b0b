use Rattle.std.proofs.Common.{◌≡◌, ◌∙◌, ap, subst}
use Rattle.std.proofs.lemmas.Result.{IfOk-weaker}
use Rattle.std.specs.Prelude.{IfOk}
use Rattle.std.specs.Result.{result_from_control_flow}
use Rattle.clap.specs.Words.{app_of, new_rule, with_rule}
use Rattle.sk_line.specs.Options.{positional}
use Rattle.sk_line.proofs.Args.{added, HasRule, required_rule}
use Rattle.sk_line.proofs.option.positional.Goals as goal

pub returns : goal.returns
returns c = λ app h.
    let rule-0 : HasRule c.new.result (new_rule c.args.name.now) = (c.new.ensures.rule, c.new.ensures.optional.1) in
    let rule-1 = required_rule c.new.result c.required.result _ _ c.required.ensures rule-0 in
    let is_ok = c.branch-command.ensures ∙ ap result_from_control_flow c.in_ok-command.is in
    let same = subst (λ o. IfOk o (λ x. app_of x ≡ app)) is_ok h in
    IfOk-weaker c.arg.result _ _ (λ m k. added c.in_ok-command.command m c.required.result c.help.result c.args.help _ c.help.ensures rule-1 k
    ∙ ap (λ a. with_rule a (positional c.args.name.now)) same) c.arg.ensures
