use Rattle.sk_resp.proofs.Readings.{reads-once, faulty-once, never_both}
use Rattle.sk_resp.proofs.Found.{some_reading}
use Rattle.sk_resp.proofs.request.laws.one_reading.Goals as goal

pub returns-clause-some : goal.returns-clause-some
returns-clause-some c = some_reading

pub returns-clause-reads : goal.returns-clause-reads
returns-clause-reads c = reads-once

pub returns-clause-faulty : goal.returns-clause-faulty
returns-clause-faulty c = faulty-once

pub returns-clause-not_both : goal.returns-clause-not_both
returns-clause-not_both c = never_both
