use Rattle.sk_resp.proofs.ReplyReadings.{reads_on, unreadable_on, unreadable_stays}
use Rattle.sk_resp.proofs.reply.laws.replies_come_in_pieces.Goals as goal

pub returns-clause-reads : goal.returns-clause-reads
returns-clause-reads c = reads_on

pub returns-clause-unreadable : goal.returns-clause-unreadable
returns-clause-unreadable c = unreadable_on

pub returns-clause-stays : goal.returns-clause-stays
returns-clause-stays c = unreadable_stays
