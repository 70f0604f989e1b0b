use Rattle.sk_resp.proofs.ReplyReadings.{some_reading, reads-once, unreadable-once, never_both}
use Rattle.sk_resp.proofs.reply.laws.replies_have_one_reading.Goals as goal

pub returns-clause-some : goal.returns-clause-some
returns-clause-some c = some_reading

pub returns-clause-reads : goal.returns-clause-reads
returns-clause-reads c = reads-once

pub returns-clause-unreadable : goal.returns-clause-unreadable
returns-clause-unreadable c = unreadable-once

pub returns-clause-not_both : goal.returns-clause-not_both
returns-clause-not_both c = never_both
