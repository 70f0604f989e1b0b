use Rattle.sk_resp.proofs.ReplyHearing.{not_stuck}
use Rattle.sk_resp.proofs.ReplyReadings.{written_back}
use Rattle.sk_resp.proofs.reply.laws.written_replies_are_read.Goals as goal

pub returns-clause-read : goal.returns-clause-read
returns-clause-read c = written_back

pub returns-clause-readable : goal.returns-clause-readable
returns-clause-readable c = not_stuck
