use Rattle.sk_resp.proofs.ReplyHearing.{one_length}
use Rattle.sk_resp.proofs.reply.laws.no_reply_begins_another.Goals as goal

pub returns : goal.returns
returns c = one_length
