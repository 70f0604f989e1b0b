use Rattle.std.proofs.Common.{◌∙◌}
use Rattle.sk_drill.proofs.Answered.{watch_is}
use Rattle.sk_drill.proofs.poll_duty.poller.Goals as goal

pub returns : goal.returns
returns c = watch_is _ _ _ (c.new-2.ensures.ident ∙ c.new-ident.ensures ∙ c.in_ok-from_str.ensures.ok) (c.new-2.ensures.loops ∙ c.new.ensures.items) c.new-2.ensures.offset
