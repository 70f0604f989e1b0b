use Rattle.std.proofs.Common.{◌∙◌, ap, refl}
use Rattle.sk_resp.specs.declared.reply.Reply.TheVariants.{Bulk}
use Rattle.sk_status.specs.Page.{page_text}
use Rattle.sk_jobs.proofs.status.status_page.Goals as goal

pub returns : goal.returns
returns c = (record { reply_is = ap Bulk (c.new.ensures ∙ c.in_ok-text.ensures ∙ ap page_text c.in_ok-numbers.ensures); new_is = refl }, c.requires)
