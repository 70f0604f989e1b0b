use Rattle.sk_resp.proofs.Readings.{reads_on, faulty_on, faulty_stays}
use Rattle.sk_resp.proofs.request.laws.piece_by_piece.Goals as goal

pub returns-clause-reads : goal.returns-clause-reads
returns-clause-reads c = reads_on

pub returns-clause-faulty : goal.returns-clause-faulty
returns-clause-faulty c = faulty_on

pub returns-clause-stays : goal.returns-clause-stays
returns-clause-stays c = faulty_stays
