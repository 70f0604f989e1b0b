use Rattle.sk_resp.proofs.ReplyWritten.{has_text}
use Rattle.sk_resp.proofs.reply.laws.replies_have_texts.Goals as goal

pub returns : goal.returns
returns c = has_text
