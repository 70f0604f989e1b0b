use Rattle.std.proofs.Common.{◌∙◌, codes, subst, sym}
use Rattle.sk_cron.specs.Times.{Means}
use Rattle.sk_line.proofs.Crons.{no_cron}
use Rattle.sk_line.proofs.Cuts.{joined_map}
use Rattle.sk_line.proofs.cron_words.cron.Goals as goal

pub returns-in-Ok : goal.returns-in-Ok
returns-in-Ok c = subst (λ t. Means t c.in-Ok.cron) (c.deref.ensures ∙ c.in_ok-text.ensures.ok ∙ joined_map (λ field. field.now) (codes " ") c.args.fields.now) c.in-Ok.ensures.ok

pub returns : goal.returns
returns c = λ t h. no_cron _ c.in-Err.field-0 c.in-Err.ensures.err t
    (subst (λ x. Means x t) (sym (c.deref.ensures ∙ c.in_ok-text.ensures.ok ∙ joined_map (λ field. field.now) (codes " ") c.args.fields.now)) h)
