use Rattle.std.proofs.Common.{◌+◌, length, subst, sym, ap, ◌∙◌}
use Rattle.sk_resp.specs.ReplyMachine.{seen, owed, IsReached}
use Rattle.sk_resp.proofs.ReplyHearing.{fresh_reached}
use Rattle.sk_resp.proofs.reply.feeder.ReplyFeeder.new.Goals as goal

pub invariant_of-result : goal.invariant_of-result
invariant_of-result c = (subst IsReached (sym c.new.ensures.says) fresh_reached, c.new.ensures.size ∙ ap (λ m. length (seen m) + owed m.stack) (sym c.new.ensures.says))
